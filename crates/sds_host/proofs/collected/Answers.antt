use mathlib.Core.Path.{◌∙◌}
use Rattle.std.proofs.Common.{arith}
use Rattle.sds_host.proofs.Values.{no_value, refused_call, shown_call}
use Rattle.sds_host.proofs.collected.Goals as goal

pub returns-then-value-ne-VALUE : goal.returns-then-value-ne-VALUE
returns-then-value-ne-VALUE c =
    let a = c.args in
    rw (c.from.ensures ∙ c.number.ensures) (no_value a.frame.now a.work.now a.value.now a.t c.if-value-ne-VALUE.true _ c.tallied.ensures)

pub returns-in-Err : goal.returns-in-Err
returns-in-Err c =
    let a = c.args in
    refused_call a.frame.now a.work.now a.value.now a.t c.if-value-ne-VALUE.false c.collect-c.result c.collect-c.ensures.0
    _ c.collect-c.ensures.1 _ c.tallied-tally.ensures c.in-Err.why (grind arith) _ (c.from-number.ensures ∙ c.number-in-Err.ensures)

pub returns-in-Ok : goal.returns-in-Ok
returns-in-Ok c =
    let a = c.args in
    shown_call a.frame.now a.work.now a.value.now a.t c.if-value-ne-VALUE.false c.collect-c.result c.collect-c.ensures.0
    _ c.collect-c.ensures.1 _ c.tallied-tally-in-Ok.ensures c.in-Ok.what (grind arith) _ c.show.ensures
