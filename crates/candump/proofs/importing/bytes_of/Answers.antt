use mathlib.Core.Path.{sym, ◌∙◌}
use native.Mathlib.Omega.{arith}
use Rattle.candump.proofs.Stores.{digit_some, reading_begun, reading_more, reading_high, reading_low, reading_end, nothing_odd, nothing_long, nothing_else}
use Rattle.candump.proofs.importing.bytes_of.Goals.{then-body-ne0-via-then-body-ne0, then-body-ne0-via-else-body-ne0+then-body}
use Rattle.candump.proofs.importing.bytes_of.Goals as goal

pub returns-then-body-ne0 : goal.returns-then-body-ne0
returns-then-body-ne0 c =
    elim c.then-body-ne0.branch [
      | then-body-ne0-via-then-body-ne0 w ↦ nothing_odd c.args.body.now w.if-body-ne0.true
      | then-body-ne0-via-else-body-ne0+then-body w ↦ nothing_long c.args.body.now w.if-body.true
    ]

pub loop-i-init : goal.loop-i-init
loop-i-init c =
    rw (c.into_iter-i-iterator.ensures.into_iter_gives, c.enumerate-i-items.ensures.source, c.enumerate-i-items.ensures.count, c.chunks_exact.ensures.rest)
    record { pairs = c.chunks_exact.ensures.size; reading = reading_begun c.args.body.now }

pub returns-in_err-hex_value : goal.returns-in_err-hex_value
returns-in_err-hex_value c =
    let turn = c.in-Some.ensures.steps.0.1 in
    let k = c.loop-i.invariant in
    c.from_residual.ensures
    ∙ nothing_else _ (reading_high _ _ _ _ _ _ k.reading turn.0 (turn.1 ∙ k.pairs) (sym c.hex_value.ensures ∙ c.in_err-hex_value.was))

pub overflow_mul-bytes : goal.overflow_mul-bytes
overflow_mul-bytes c = omega (arith, digit_some _ _ (sym c.hex_value.ensures ∙ c.in_ok-hex_value.was))

pub returns-in_err-bytes : goal.returns-in_err-bytes
returns-in_err-bytes c =
    let turn = c.in-Some.ensures.steps.0.1 in
    let k = c.loop-i.invariant in
    c.from_residual-in_err-bytes.ensures
    ∙ nothing_else _ (reading_low _ _ _ _ _ _ k.reading turn.0 (turn.1 ∙ k.pairs) (sym c.hex_value-in-loop-i.ensures ∙ c.in_err-bytes.was))

pub overflow_add-bytes : goal.overflow_add-bytes
overflow_add-bytes c =
    omega (arith, digit_some _ _ (sym c.hex_value.ensures ∙ c.in_ok-hex_value.was), digit_some _ _ (sym c.hex_value-in-loop-i.ensures ∙ c.in_ok-bytes.was))

pub loop-i-preserved : goal.loop-i-preserved
loop-i-preserved c =
    let step = c.in-Some.ensures.steps in
    let turn = step.0.1 in
    let k = c.loop-i.invariant in
    let two = turn.1 ∙ k.pairs in
    rw (step.1, step.2)
    record {
      pairs = step.0.0 ∙ k.pairs;
      reading = reading_more _ _ _ _ _ _ k.reading turn.0 two c.if-body.false _ _ (sym c.hex_value.ensures ∙ c.in_ok-hex_value.was) (sym c.hex_value-in-loop-i.ensures ∙ c.in_ok-bytes.was);
    }

pub returns : goal.returns
returns c =
    let k = c.loop-i.invariant in
    let last = c.in-None.ensures.steps.0.1.0 in
    reading_end _ _ _ _ k.reading c.if-body.false c.if-body-ne0.false (omega (arith, last, k.pairs))
