-- A hex digit both ways; then a byte; then bytes.
use Prim.Native.Nat.{ℕ, zero, suc, ◌+◌, ◌-◌, ◌<◌, ◌≤◌}
use mathlib.Core.Path.{◌≡◌, refl, sym, ap, ◌∙◌}
use mathlib.Core.Bool.{Bool, true, false, ◌&&◌}
use mathlib.Core.List.{List, [], ◌∷◌}
use native.Mathlib.Omega.{arith}
use lib.ListN.{length, get_or}
use native.Mathlib.Nat.{zero-add, add-zero}
use lib.Dec.{eqb, ltb, leb}
use borrow.Author.Tests.{eqb-true, ltb-true, ltb-false, leb-true, le-leb, lt-leb, lt-ltb}
use Rattle.laws.proofs.Tests.{split, halves}
use Rattle.candump.specs.Text.Kind.{Hex}
use Rattle.candump.specs.Text.{within, hex_value, hex_digit, capitals, is_a}

-- inside a range, and outside it
pub inside : (a b c : ℕ) → a ≤ c → c ≤ b → within a b c ≡ true
inside a b c p q = simp (le-leb a c p, le-leb c b q)

above : (a b c : ℕ) → a ≤ c → b < c → within a b c ≡ false
above a b c p q = simp (le-leb a c p, lt-leb c b q)

-- the digit of a value has that value
pub digit_value : (v : ℕ) → v < 16 → hex_value (hex_digit v) ≡ v
unfolding hex_value hex_digit
digit_value v h =
    split (ltb v 10)
    (λ t.
    let s = ltb-true v 10 t in
    let back : 48 + v - 48 ≡ v = omega arith in
    simp (t, inside 48 57 (48 + v) (omega arith) (omega arith), back))
    (λ f.
    let s = ltb-false v 10 f in
    let back : 55 + v - 55 ≡ v = omega arith in
    simp (f, above 48 57 (55 + v) (omega arith) (omega arith), inside 65 70 (55 + v) (omega arith) (omega arith), back))

pub digit_is_hex : (v : ℕ) → v < 16 → is_a Hex (hex_digit v) ≡ true
unfolding is_a
digit_is_hex v h = simp (digit_value v h, lt-ltb v 16 h)

-- what a range lets through
pub from_within : (a b c : ℕ) → within a b c ≡ true → (a ≤ c) × (c ≤ b)
from_within a b c e = let h = halves (leb a c) e in (leb-true a c h.0, leb-true c b h.1)

-- a table of digits, tested as a whole and read at a place
unfoldable right : ℕ → List ℕ → Bool
right v [] = true
right v (c ∷ l) = eqb c (hex_digit v) && right (suc v) l

right_at : (v : ℕ) (l : List ℕ) → right v l ≡ true → (i : ℕ) → i < length l → get_or l i 0 ≡ hex_digit (v + i)
unfolding right
right_at v [] e i h = absurd (omega arith)
right_at v (c ∷ l) e zero h = eqb-true c (hex_digit v) (halves (eqb c (hex_digit v)) e).0 ∙ ap hex_digit (sym (add-zero v))
right_at v (c ∷ l) e (suc i) h =
    let q : suc v + i ≡ v + suc i = omega arith in
    right_at (suc v) l (halves (eqb c (hex_digit v)) e).1 i (omega arith) ∙ ap hex_digit q

pub capital_at : (d : List ℕ) → d ≡ capitals → (v : ℕ) → v < 16 → get_or d v 0 ≡ hex_digit v
unfolding right hex_digit
capital_at d e v h = rw e (right_at 0 capitals refl v (omega arith) ∙ ap hex_digit (zero-add v))
