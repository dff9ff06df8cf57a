-- Each number of a table of checks is given exactly when its check holds and no earlier one does.
use Prim.Native.Nat.{ℕ, ◌<◌, ◌≤◌}
use mathlib.Core.Path.{◌≡◌, refl, sym, ap, ◌∙◌}
use mathlib.Core.Bool.{Bool, true, false, cond, and-eq-true_iff}
use Rattle.std.proofs.lemmas.Bool.{or_right}
use mathlib.Core.List.{List, [], ◌∷◌, ◌++◌, map}
use mathlib.Core.Logic.{◌↔◌}
use native.Mathlib.Omega.{arith}
use lib.Dec.{ltb, leb, eqb}
use borrow.Author.Tests.{ltb-true, ltb-false, leb-true, eqb-true, eqb-false, eq-eqb, ne_eqb}
use Rattle.laws.specs.Checks.{Check, first_of, holds_at, only_where, FirstAt, rises_from, most_is, listed}
use Rattle.laws.specs.Mixing.{those}
use Rattle.laws.proofs.Tests.{split, clash}

-- what a table that rises says of its first row and of the rest
first_row : (k : ℕ) (c : Check) (cs : List Check) → rises_from k (c ∷ cs) ≡ true → (k < c.1) × (rises_from c.1 cs ≡ true)
first_row k c cs r =
    let a = (and-eq-true_iff (ltb k c.1) (rises_from c.1 cs)).0 r in
    (ltb-true k c.1 a.0, a.1)

-- a row by its own number, and by another
here : (c : Check) (cs : List Check) (n : ℕ) → c.1 ≡ n → holds_at (c ∷ cs) n ≡ c.0
unfolding holds_at
here c cs n e = simp (eq-eqb c.1 n e)

past : (c : Check) (cs : List Check) (n : ℕ) → (c.1 ≡ n → ⊥) → holds_at (c ∷ cs) n ≡ holds_at cs n
unfolding holds_at
past c cs n e = simp (ne_eqb c.1 n e)

-- a table above k has no row numbered k or less, and gives no such number but 0
none_below : (k : ℕ) (cs : List Check) → rises_from k cs ≡ true → (n : ℕ) → n ≤ k → holds_at cs n ≡ false
unfolding holds_at
none_below k [] r n h = refl
none_below k (c ∷ cs) r n h =
    let a = first_row k c cs r in
    past c cs n (λ e. omega arith) ∙ none_below c.1 cs a.1 n (omega arith)

pub above : (k : ℕ) (cs : List Check) → rises_from k cs ≡ true → 0 < first_of cs → k < first_of cs
above k [] r h = absurd (omega (arith, h))
above k (c ∷ cs) r h =
    let a = first_row k c cs r in
    split c.0
    (λ t. simp t a.0)
    (λ f. let i : c.1 < first_of cs = above c.1 cs a.1 (simp f at h) in simp f (omega arith))

-- the first row answers, or a later one does
given : (k : ℕ) (cs : List Check) → rises_from k cs ≡ true → (n : ℕ) → 0 < n → first_of cs ≡ n → FirstAt cs n
given k [] r n p e = absurd (omega arith)
given k (c ∷ cs) r n p e =
    let a = first_row k c cs r in
    split c.0
    (λ t.
    let q : c.1 ≡ n = simp t at e in
    (here c cs n q ∙ t, λ m h. past c cs m (λ z. omega arith) ∙ none_below c.1 cs a.1 m (omega arith)))
    (λ f.
    let q : first_of cs ≡ n = simp f at e in
    let l = above c.1 cs a.1 (omega arith) in
    let i = given c.1 cs a.1 n p q in (
      past c cs n (λ z. omega arith) ∙ i.0,
      λ m h. split (eqb c.1 m)
          (λ s. here c cs m (eqb-true c.1 m s) ∙ f)
          (λ s. past c cs m (eqb-false c.1 m s) ∙ i.1 m h),
    ))

-- the number of a row that holds and that no earlier one forestalls is the one given
taken : (k : ℕ) (cs : List Check) → rises_from k cs ≡ true → (n : ℕ) → FirstAt cs n → first_of cs ≡ n
unfolding holds_at
taken k [] r n i = clash i.0 refl
taken k (c ∷ cs) r n i =
    let a = first_row k c cs r in
    split (eqb c.1 n)
    (λ s. let q = eqb-true c.1 n s in simp (sym (here c cs n q) ∙ i.0) q)
    (λ s.
    let q = eqb-false c.1 n s in
    let h = sym (past c cs n q) ∙ i.0 in
    split (ltb c.1 n)
    (λ l.
    let l' = ltb-true c.1 n l in
    simp (sym (here c cs c.1 refl) ∙ i.1 c.1 l')
    (taken c.1 cs a.1 n (
      h,
      λ m b. split (eqb c.1 m)
          (λ t. none_below c.1 cs a.1 m (omega (arith, eqb-true c.1 m t)))
          (λ t. sym (past c cs m (eqb-false c.1 m t)) ∙ i.1 m b),
    )))
    (λ l. clash h (none_below c.1 cs a.1 n (ltb-false c.1 n l))))

-- THE THEOREM OF A TABLE: a number is given exactly when its check holds and no earlier one's does
pub given_exactly : (cs : List Check) → rises_from 0 cs ≡ true → (n : ℕ) → 0 < n → (first_of cs ≡ n) ↔ FirstAt cs n
given_exactly cs r n p = (given 0 cs r n p, taken 0 cs r n)

silent : (k : ℕ) (cs : List Check) → rises_from k cs ≡ true → first_of cs ≡ 0 → (n : ℕ) → holds_at cs n ≡ false
unfolding holds_at
silent k [] r e n = refl
silent k (c ∷ cs) r e n =
    let a = first_row k c cs r in
    split c.0
    (λ t. let q : c.1 ≡ 0 = simp t at e in absurd (omega arith))
    (λ f. split (eqb c.1 n)
    (λ s. here c cs n (eqb-true c.1 n s) ∙ f)
    (λ s. past c cs n (eqb-false c.1 n s) ∙ silent c.1 cs a.1 (simp f at e) n))

-- and 0 is given exactly when no check holds
pub none_holds : (cs : List Check) → rises_from 0 cs ≡ true → (first_of cs ≡ 0) ↔ ((n : ℕ) → holds_at cs n ≡ false)
none_holds cs r = (
  silent 0 cs r,
  λ h. split (ltb 0 (first_of cs))
      (λ p. clash (given 0 cs r (first_of cs) (ltb-true 0 (first_of cs) p) refl).0 (h (first_of cs)))
      (λ p. omega (arith, ltb-false 0 (first_of cs) p)),
)

-- a table with more rows behind it: they answer where it gives 0
pub first_append : (k : ℕ) (cs ds : List Check) → rises_from k cs ≡ true
    → first_of (cs ++ ds) ≡ cond (eqb (first_of cs) 0) (first_of ds) (first_of cs)
first_append k [] ds r = refl
first_append k (c ∷ cs) ds r =
    let a = first_row k c cs r in
    split c.0
    (λ t. simp (t, ne_eqb c.1 0 (omega arith)))
    (λ f. simp f (first_append c.1 cs ds a.1))

pub first_most : (m : ℕ) (cs : List Check) → most_is m cs ≡ true → first_of cs ≤ m
first_most m [] h = omega arith
first_most m (c ∷ cs) h =
    let a = (and-eq-true_iff (leb c.1 m) (most_is m cs)).0 h in
    split c.0 (λ t. simp t (leb-true c.1 m a.0)) (λ f. simp f (first_most m cs a.1))

-- the number that is given is a row's
pub first_listed : (cs : List Check) → 0 < first_of cs → listed (first_of cs) (map (λ (c : Check). c.1) cs) ≡ true
first_listed [] h = absurd (omega (arith, h))
first_listed (c ∷ cs) h =
    split c.0
    (λ t. simp (t, eq-eqb c.1 c.1 refl))
    (λ f.
    let n = first_of cs in
    let numbers = map (λ (c : Check). c.1) cs in
    let e : first_of (c ∷ cs) ≡ n = simp f in
    ap (λ m. listed m (c.1 ∷ numbers)) e ∙ or_right (eqb c.1 n) (listed n numbers) (first_listed cs (simp f at h)))

-- a number of a list that a test takes is among those that it takes
pub listed_those : (p : ℕ → Bool) (n : ℕ) (ms : List ℕ) → p n ≡ true → listed n ms ≡ true → listed n (those p ms) ≡ true
listed_those p n [] t h = h
listed_those p n (m ∷ ms) t h =
    split (eqb m n)
    (λ s. simp (ap p (eqb-true m n s) ∙ t, s))
    (λ s.
    let behind = listed_those p n ms t (simp s at h) in
    split (p m) (λ u. simp (u, s) behind) (λ u. simp u behind))

pub holds_append : (cs ds : List Check) (n : ℕ) → holds_at (cs ++ ds) n ≡ false → holds_at cs n ≡ false
unfolding holds_at
holds_append [] ds n e = refl
holds_append (c ∷ cs) ds n e =
    split (eqb c.1 n) (λ t. simp t (simp t at e)) (λ f. simp f (holds_append cs ds n (simp f at e)))

-- rows that apply only where a test holds
pub first_where : (b : Bool) (cs : List Check) → first_of (only_where b cs) ≡ cond b (first_of cs) 0
first_where true [] = refl
first_where false [] = refl
first_where true (c ∷ cs) = split c.0 (λ t. simp t) (λ f. simp f (first_where true cs))
first_where false (c ∷ cs) = first_where false cs

-- behind others, where the test does not hold, they alter nothing
pub first_alone : (cs ds : List Check) → rises_from 0 cs ≡ true → (b : Bool) → b ≡ false → first_of (cs ++ only_where b ds) ≡ first_of cs
first_alone cs ds r b e =
    let n = first_of cs in
    let zero : first_of (only_where b ds) ≡ 0 = first_where b ds ∙ simp e in
    first_append 0 cs (only_where b ds) r
    ∙ rw zero (split (eqb n 0) (λ t. simp t (sym (eqb-true n 0 t))) (λ t. simp t))
