use mathlib.Core.Path.{◌≡◌}
use native.Mathlib.Omega.{arith}
use Rattle.std.proofs.lemmas.Result.{err_from_is_err_and}
use Rattle.guest.specs.declared.Refusal.TheVariants.{NoService}
use Rattle.device.proofs.Outcomes.{untaken_outcome, switch_outcome}
use Rattle.device.proofs.switching.switch.Goals as goal

pub returns-in_err-to : goal.returns-in_err-to
returns-in_err-to c =
    let a = c.args in
    let p = err_from_is_err_and c.from_residual.result c.from_residual.ensures.1 in
    let e : c.in_err-to.field-0.0 ≡ NoService = grind arith in
    λ work. rw (p.1, p.2, e) (untaken_outcome a.table.now a.request.own a.request.h a.store.now a.out.now _ c.point_for.ensures work c.in_err-to.ensures.ok_part)

pub returns : goal.returns
returns c =
    let a = c.args in
    λ work. switch_outcome a.table.now a.request.own a.request.h a.store.now a.out.now _ c.point_for.ensures work
    c.requires _ c.in_ok-to.ensures.ok_part _ c.state_of.ensures _ _ c.store_state.ensures c.acknowledge_short.ensures
