-- The table of codes: what a computed test of it says of every number.
use Prim.Native.Nat.{ℕ, ◌<◌, ◌≤◌}
use mathlib.Core.Path.{◌≡◌, refl}
use mathlib.Core.Bool.{Bool, true, false, cond, ◌&&◌}
use mathlib.Core.List.{List, [], ◌∷◌}
use native.Mathlib.Omega.{arith}
use lib.Dec.{eqb, ltb}
use borrow.Author.Tests.{ltb-true, eqb-true, eqb-false, eq-eqb, ne_eqb}
use Rattle.laws.specs.Checks.{listed}
use Rattle.laws.proofs.Tests.{split, clash, halves}
use Rattle.guest.specs.Errors.{Entry, entries_of, code_in}

-- the test: the entries are those of these numbers, one for each, in their order, which rises and is above k
abbrev pub one_each : ℕ → List ℕ → List Entry → Bool
one_each k [] [] = true
one_each k [] (e ∷ es) = false
one_each k (n ∷ ns) [] = false
one_each k (n ∷ ns) (e ∷ es) = ltb k n && eqb n e.0 && one_each n ns es

-- what it says of the first number and entry, and of the rest
first_entry : (k n : ℕ) (ns : List ℕ) (e : Entry) (es : List Entry) → one_each k (n ∷ ns) (e ∷ es) ≡ true
    → (k < n) × (n ≡ e.0) × (one_each n ns es ≡ true)
first_entry k n ns e es t =
    let a = halves (ltb k n && eqb n e.0) t in
    let b = halves (ltb k n) a.0 in
    (ltb-true k n b.0, eqb-true n e.0 b.1, a.1)

-- numbers above k have no entry of k or less
none_below : (k : ℕ) (ns : List ℕ) (es : List Entry) → one_each k ns es ≡ true → (m : ℕ) → m ≤ k → entries_of m es ≡ []
none_below k [] [] t m h = refl
none_below k [] (e ∷ es) t m h = clash t refl
none_below k (n ∷ ns) [] t m h = clash t refl
none_below k (n ∷ ns) (e ∷ es) t m h =
    let a = first_entry k n ns e es t in
    simp (ne_eqb m e.0 (omega (arith, a.0, a.1))) (none_below n ns es a.2 m (omega (arith, a.0)))

-- THE LEMMA OF THE TABLE: each of the numbers has exactly one entry, and no other number has one
pub one_each_lem : (k : ℕ) (ns : List ℕ) (es : List Entry) → one_each k ns es ≡ true
    → (m : ℕ) → entries_of m es ≡ cond (listed m ns) ((m, code_in es m) ∷ []) []
one_each_lem k [] [] t m = refl
one_each_lem k [] (e ∷ es) t m = clash t refl
one_each_lem k (n ∷ ns) [] t m = clash t refl
one_each_lem k (n ∷ ns) (e ∷ es) t m =
    let a = first_entry k n ns e es t in
    split (eqb n m)
    (λ s.
    let q = eqb-true n m s in
    let here : m ≡ e.0 = omega (arith, q, a.1) in
    simp (s, eq-eqb m e.0 here, none_below n ns es a.2 m (omega (arith, q))) (rw here))
    (λ s.
    let past : eqb m e.0 ≡ false = ne_eqb m e.0 (omega (arith, eqb-false n m s, a.1)) in
    simp (s, past) (one_each_lem n ns es a.2 m))
