use Rattle.std.proofs.Common.{rules, ◌≡◌, ◌∙◌, ◌-◌, Some, None, Err, get_or}
use Rattle.candump.specs.declared.errors.ImportError.TheVariants.{Identifier}
use Rattle.candump.specs.Text.{mark}
use native.Mathlib.Omega.{arith}
use lib.ListN.{length, drop, length-drop}
use lib.Seq.{take_all}
use mathlib.Core.Path.{sym}
use Rattle.candump.proofs.Places.{no_frame, no_mark, no_identifier, places_identified}
use Rattle.candump.proofs.Parts.{frame_refused, frame_data}
use Rattle.candump.proofs.importing.import_frame.Goals as goal

pub returns-in_default : goal.returns-in_default
returns-in_default c = let f = c.args.frame.now in frame_refused f (no_frame f c.in_default.len_below)

pub returns-in_default-2 : goal.returns-in_default-2
returns-in_default-2 c = let f = c.args.frame.now in frame_refused f (no_mark f (search rules))

pub returns-in_err-identifier : goal.returns-in_err-identifier
returns-in_err-identifier c =
    let f = c.args.frame.now in
    let e : c.from_residual.result ≡ Err Identifier = search rules in
    let n : c.identifier_of.result ≡ None = search rules in
    rw e (frame_refused f (no_identifier f (sym c.identifier_of.ensures ∙ n)))

pub returns : goal.returns
returns c =
    let f = c.args.frame.now in
    let s : c.identifier_of.result ≡ Some c.in_ok-identifier.identifier = search rules in
    let m : get_or f 3 0 ≡ mark = search rules in
    let x = places_identified f c.in-35.len_at_least m _ (sym c.identifier_of.ensures ∙ s) in
    c.import_data.ensures ∙ frame_data f x.0 _ _ x.1 (take_all (length f - 4) (drop 4 f) (simp length-drop (omega arith)))
