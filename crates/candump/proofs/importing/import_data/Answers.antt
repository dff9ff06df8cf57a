use Rattle.std.proofs.Common.{rules, ◌≡◌, ◌∙◌, Some, None, Err}
use Rattle.candump.specs.declared.errors.ImportError.TheVariants.{Data}
use native.Mathlib.Omega.{arith}
use mathlib.Core.Path.{sym}
use Rattle.candump.proofs.Parts.{remote_imported, bytes_some, bytes_imported, data_refused, whole}
use Rattle.candump.proofs.importing.import_data.Goals as goal

pub returns-in-Some : goal.returns-in-Some
returns-in-Some c = let x = c.args in remote_imported x.identifier x.body.now c.in-Some.dlc (sym c.remote_dlc.ensures ∙ c.in-Some.is) _ c.record_of.ensures

pub returns-in_err-bytes : goal.returns-in_err-bytes
returns-in_err-bytes c =
    let x = c.args in
    let e : c.from_residual.result ≡ Err Data = search rules in
    let n : c.bytes_of.result ≡ None = search rules in
    rw e (data_refused x.identifier x.body.now (sym c.remote_dlc.ensures ∙ c.in_default.is) (sym c.bytes_of.ensures ∙ n))

pub overflow_cast-can : goal.overflow_cast-can
overflow_cast-can c =
    let x = c.args in
    let s : c.bytes_of.result ≡ Some c.in_ok-bytes.bytes = search rules in
    omega (arith, (whole x.body.now (bytes_some x.identifier x.body.now _ (sym c.bytes_of.ensures ∙ s)).0).most)

pub returns : goal.returns
returns c =
    let x = c.args in
    let s : c.bytes_of.result ≡ Some c.in_ok-bytes.bytes = search rules in
    bytes_imported x.identifier x.body.now (sym c.remote_dlc.ensures ∙ c.in_default.is) _ (sym c.bytes_of.ensures ∙ s) _ c.record_of-2.ensures
