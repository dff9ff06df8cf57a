-- From facts to tests and back.
use mathlib.Core.Path.{◌≡◌, refl, sym, ◌∙◌}
use mathlib.Core.Bool.{Bool, true, false, ◌&&◌, true≢false, and-eq-true_iff}
use borrow.Author.Tests.{eq-eqb, ne_eqb, lt-ltb, le-ltb, lt-leb, le-leb}

-- the value of a test, from the fact that it tests
pub ruleset tests = (eq-eqb, ne_eqb, lt-ltb, le-ltb, lt-leb, le-leb)

-- by cases on a test, with its equation
pub split : {P : Type 0} (b : Bool) → (b ≡ true → P) → (b ≡ false → P) → P
split true t f = t refl
split false t f = f refl

-- a test has one value
pub clash : {P : Type 0} {b : Bool} → b ≡ true → b ≡ false → P
clash t f = absurd (true≢false (sym t ∙ f))

-- a conjunction that fails though its first part holds
pub not_both : (a b : Bool) → a && b ≡ false → a ≡ true → b ≡ false
not_both true b e t = e
not_both false b e t = clash t refl

-- the two parts of a conjunction that holds
pub halves : (a : Bool) {b : Bool} → a && b ≡ true → (a ≡ true) × (b ≡ true)
halves a {b} e = (and-eq-true_iff a b).0 e
