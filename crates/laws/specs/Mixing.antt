-- A machine whose inputs belong to owners, fed in any order.
use Rattle.std.specs.Prelude.{ℕ, suc, Bool, true, false, cond, not, List, [], ◌∷◌, ◌++◌, eqb}
use Rattle.std.proofs.Math.Option.{Option, none, some}

module _ {X : Type 0} where
  -- the elements that a test takes, in their order
  abbrev pub those : (X → Bool) → List X → List X
  those p [] = []
  those p (x ∷ xs) = cond (p x) (x ∷ those p xs) (those p xs)

-- whether o is the owner
abbrev pub is_of : ℕ → Option ℕ → Bool
is_of o none = false
is_of o (some k) = eqb k o

-- whether there is an owner
abbrev pub is_owned : Option ℕ → Bool
is_owned none = false
is_owned (some k) = true

module _ {F : Type 0} (owner : F → Option ℕ) where
  -- the inputs of one owner, in their order
  abbrev pub inputs_of : ℕ → List F → List F
  inputs_of o fs = those (λ f. is_of o (owner f)) fs

  -- inputs with their answers: those of one owner
  abbrev pub answers_of : {A : Type 0} → ℕ → List (F × A) → List (F × A)
  answers_of o ts = those (λ t. is_of o (owner t.0)) ts

  -- the inputs of no owner, in their order
  abbrev pub nobodys : List F → List F
  nobodys fs = those (λ f. not (is_owned (owner f))) fs

  -- the owners one after another, in the order of a list
  abbrev pub serially : List ℕ → List F → List F
  serially [] fs = []
  serially (o ∷ os) fs = inputs_of o fs ++ serially os fs

-- how often a number stands in a list
abbrev pub occurrences : ℕ → List ℕ → ℕ
occurrences o [] = 0
occurrences o (p ∷ os) = cond (eqb p o) (suc (occurrences o os)) (occurrences o os)

module _ {F S : Type 0} (next : F → S → S) where
  -- the state after the inputs, the first of them first
  abbrev pub run : List F → S → S
  run [] s = s
  run (f ∷ fs) s = run fs (next f s)

module _ {F S A : Type 0} (next : F → S → S) (answer : F → S → A) where
  -- each input with its answer
  abbrev pub trace : List F → S → List (F × A)
  trace [] s = []
  trace (f ∷ fs) s = (f, answer f s) ∷ trace fs (next f s)
