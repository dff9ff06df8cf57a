use Prim.Native.Nat.{◌-◌}
use mathlib.Core.Path.{◌≡◌, refl}
use native.Mathlib.Omega.{arith}
use borrow.Author.Tests.{ne_eqb}
use Rattle.collect.specs.Step.{answer_to}
use Rattle.collect.specs.Code.{whole_judged}
use Rattle.collect.proofs.collecting.whole.Goals as goal

pub returns-then-h-le2 : goal.returns-then-h-le2
unfolding answer_to whole_judged
returns-then-h-le2 c =
    let none : c.args.h.dlc - 2 ≡ 0 = omega (arith, c.if-h-le2.true) in
    λ work. rw none refl

pub returns : goal.returns
unfolding answer_to whole_judged
returns c =
    let n = c.args.h.dlc - 2 in
    λ work. simp (ne_eqb n 0 (λ z. omega (arith, c.if-h-le2.false)))
