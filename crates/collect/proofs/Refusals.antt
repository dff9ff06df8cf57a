-- The code's answer is told by 02's number, what is handed over, and whether a message was lost.
use Prim.Native.Nat.{ℕ}
use mathlib.Core.Path.{◌≡◌, refl, sym, ap, ◌∙◌}
use native.Mathlib.Omega.{arith}
use lib.Dec.{eqb}
use Rattle.std.specs.Prelude.{cond, Option, Some, None, Result, Ok, Err}
use Rattle.std.specs.Option.{is_some}
use Rattle.std.specs.Result.{result_unwrap_or}
use Rattle.collect.specs.declared.Value.{Value}
use Rattle.collect.specs.declared.Refusal.{Refusal}
use Rattle.collect.specs.declared.Refusal.TheVariants.{Size, Malformed, NoAnswer, NoTotal, BadShape, OutOfOrder}
use Rattle.collect.specs.declared.Collected.{Collected}
use Rattle.collect.specs.Step.{Answer}
use Rattle.collect.specs.Tally.{hands_over}
use Rattle.collect.specs.Code.{refusal_number, number_of, value_of, answered}

refused_is_not_0 : (e : Refusal) → refusal_number e ≡ 0 → ⊥
refused_is_not_0 Size z = omega arith
refused_is_not_0 Malformed z = omega arith
refused_is_not_0 NoAnswer z = omega arith
refused_is_not_0 NoTotal z = omega arith
refused_is_not_0 BadShape z = omega arith
refused_is_not_0 OutOfOrder z = omega arith

-- a refusal is told by its number
abbrev named : ℕ → Refusal
named n = cond (eqb n 1) Size (cond (eqb n 2) Malformed (cond (eqb n 3) NoAnswer (cond (eqb n 4) NoTotal (cond (eqb n 5) BadShape OutOfOrder))))

named_back : (e : Refusal) → named (refusal_number e) ≡ e
named_back Size = refl
named_back Malformed = refl
named_back NoAnswer = refl
named_back NoTotal = refl
named_back BadShape = refl
named_back OutOfOrder = refl

same_outcome : (x y : Result (Option Value) Refusal) → number_of x ≡ number_of y → value_of x ≡ value_of y → x ≡ y
same_outcome (Ok a) (Ok b) n v = ap Ok v
same_outcome (Ok a) (Err f) n v = absurd (refused_is_not_0 f (sym n))
same_outcome (Err e) (Ok b) n v = absurd (refused_is_not_0 e n)
same_outcome (Err e) (Err f) n v = ap Err (sym (named_back e) ∙ ap named n ∙ named_back f)

pub same_collected : (x y : Collected) → answered x ≡ answered y → x ≡ y
same_collected x y e = λ i. record {
  outcome = same_outcome x.outcome y.outcome (ap (λ (a : Answer). a.number) e) (ap (λ (a : Answer). a.value) e) i;
  dropped = (e i).dropped;
}

-- the number is 0 exactly where the frame is collected
pub refused_number : (x : Result (Option Value) Refusal) (e : Refusal) → x ≡ Err e → (number_of x ≡ 0 → ⊥)
refused_number x e q z = refused_is_not_0 e (rw q at z)

-- what is handed over, as the code takes it
pub unwrapped : (x : Result (Option Value) Refusal) → result_unwrap_or x None ≡ value_of x
unwrapped (Ok v) = refl
unwrapped (Err e) = refl

-- as the code asks whether something is handed over
pub handed : (x : Result (Option Value) Refusal) → is_some (result_unwrap_or x None) ≡ hands_over (value_of x)
handed (Ok (Some v)) = refl
handed (Ok None) = refl
handed (Err e) = refl
