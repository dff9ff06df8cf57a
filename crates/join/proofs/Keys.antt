-- Keys that are the same.
use Prim.Native.Nat.{ℕ}
use mathlib.Core.Path.{◌≡◌, refl, sym}
use mathlib.Core.Bool.{true, false≢true}
use mathlib.Core.List.{List, [], ◌∷◌, cons≢nil, head-eq_of_cons-eq, tail-eq_of_cons-eq}
use mathlib.Core.Logic.{◌↔◌}
use lib.Dec.{eqb}
use borrow.Author.Tests.{eqb-true, eq-eqb}
use Rattle.laws.proofs.Tests.{halves}
use Rattle.join.specs.Work.{same_key}

pub same_key_lem : (k m : List ℕ) → (same_key k m ≡ true) ↔ (k ≡ m)
same_key_lem [] [] = (λ e. refl, λ e. refl)
same_key_lem [] (b ∷ m) = (λ e. absurd (false≢true e), λ e. absurd (cons≢nil (sym e)))
same_key_lem (a ∷ k) [] = (λ e. absurd (false≢true e), λ e. absurd (cons≢nil e))
same_key_lem (a ∷ k) (b ∷ m) =
    let rest = same_key_lem k m in (
      λ e. let c = halves (eqb a b) e in λ i. eqb-true a b c.0 i ∷ rest.0 c.1 i,
      λ e. simp (eq-eqb a b (head-eq_of_cons-eq e), rest.1 (tail-eq_of_cons-eq e)),
    )
