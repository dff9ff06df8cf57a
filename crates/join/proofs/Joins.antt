-- What a fragment brings about, said from the history of its object's fragments and without the work record.
use Prim.Native.Nat.{ℕ, zero, suc, ◌+◌, ◌*◌, ◌-◌, ◌≤◌, min}
use mathlib.Core.Path.{◌≡◌, refl, sym, ap, ◌∙◌}
use mathlib.Core.Bool.{Bool, true, false, cond, not, ◌&&◌, ◌||◌, false≢true, and-eq-true_iff, and_comm, and_assoc, or-true, or-false}
use mathlib.Core.List.{List, [], ◌∷◌}
use mathlib.Core.Logic.{◌↔◌}
use native.Mathlib.Nat.{mul-suc, mul-zero, sub-zero, suc-sub-suc, mul-le-mul_left}
use native.Mathlib.Numerals.{add-one}
use native.Mathlib.Omega.{arith}
use lib.ListN.{length, take}
use lib.Dec.{eqb, leb, ltb, eqb-suc-zero, eqb-suc-suc}
use borrow.Author.Tests.{eqb-true, eq-eqb, leb-true, leb-false, le-leb, lt-leb, ltb-true, lt-ltb}
use Rattle.laws.proofs.Put.{length_put, take_put}
use Rattle.laws.proofs.Tests.{split, halves}
use Rattle.join.specs.Work.{data_size, Joiner, simple, Piece, Work, kept, done, lost, same_key, shaped_by, shaped, filling, astray, last, joined}
use Rattle.join.specs.History.{carries, chain, gather, completes, message, Carries, Before, Completes, ShapedBy, Shaped, Fit, All}
use Rattle.join.proofs.Keys.{same_key_lem}
use Rattle.join.proofs.Records.{held_with, waiting, stepped, data_room}

-- ---- in words

-- check 12's test, of lengths and of a fragment
pub shaped_by_in_words : (w total number len : ℕ) → (shaped_by w total number len ≡ true) ↔ ShapedBy w total number len
unfolding shaped_by
shaped_by_in_words w total number len =
    let asked : ℕ = min w (total - w * number) in (
      λ e. let a = halves (ltb (w * number) total) e in record { inside = ltb-true (w * number) total a.0; fit = eqb-true len asked a.1 },
      λ s. simp (lt-ltb (w * number) total s.inside, eq-eqb len asked s.fit),
    )

pub shaped_in_words : (j : Joiner) (p : Piece) → (shaped j p ≡ true) ↔ Shaped j p
shaped_in_words j p = shaped_by_in_words j.width p.total p.number (length p.bytes)

-- where k + 1 fragments carry all that a record has room for, the number of a fragment that passes check 12 is at most k
pub number_most : (w k total number len : ℕ) → data_size ≤ w * suc k → total ≤ data_size → ShapedBy w total number len → number ≤ k
number_most w k total number len h t s =
    split (leb number k)
    (λ l. leb-true number k l)
    (λ l. absurd (omega (arith, s.inside, mul-le-mul_left {m = suc k} {n = number} w (leb-false number k l))))

-- a fragment of a simple joiner, whose key is one byte
pub simple_fit : (w key total number : ℕ) (bytes : List ℕ) → total ≤ data_size → shaped_by w total number (length bytes) ≡ true
    → Fit (simple w) (record { key = key ∷ []; total = total; number = number; bytes = bytes })
simple_fit w key total number bytes t e = record {
  shaped = (shaped_by_in_words w total number (length bytes)).0 e;
  room = t;
  keyed = refl;
  at_most_two = omega arith;
}

carries_in_words : (key : List ℕ) (total n : ℕ) (p : Piece) → (carries key total n p ≡ true) ↔ Carries key total n p
carries_in_words key total n p =
    let same = same_key_lem p.key key in (
      λ e.
          let a = halves (eqb p.number n && same_key p.key key) e in
          let b = halves (eqb p.number n) a.0 in
          record { number = eqb-true p.number n b.0; same_key = same.0 b.1; same_total = eqb-true p.total total a.1 },
      λ c. simp (eq-eqb p.number n c.number, same.1 c.same_key, eq-eqb p.total total c.same_total),
    )

-- the test of the fragments just before, in 01's words
pub chain_in_words : (p : Piece) (m : ℕ) (h : List Piece) → (chain p.key p.total m h ≡ true) ↔ Before m h p
unfolding chain
chain_in_words p zero h = (λ e. record { enough = omega arith; each = λ i l. absurd (omega arith) }, λ b. refl)
chain_in_words p (suc m) [] = (λ e. absurd (false≢true e), λ b. absurd (omega arith))
chain_in_words p (suc m) (g ∷ h) =
    let both = and-eq-true_iff (carries p.key p.total m g) (chain p.key p.total m h) in
    let first = carries_in_words p.key p.total m g in
    let rest = chain_in_words p m h in (
      λ e.
          let b : Before m h p = rest.0 (both.0 e).1 in
          record {
            enough = omega arith;
            each = elim [
              | zero ↦ λ l. rw (suc-sub-suc, sub-zero) (first.0 (both.0 e).0)
              | suc i ↦ λ l. rw suc-sub-suc (b.each i (omega arith))
            ];
          },
      λ b. both.1 (
        first.1 (rw (suc-sub-suc, sub-zero) at (b.each 0 (omega arith))),
        rest.1 (record { enough = omega arith; each = λ i l. rw suc-sub-suc at (b.each (suc i) (omega arith)) }),
      ),
    )

-- the test of a message's completion, in 01's words
pub completes_in_words : (j : Joiner) (h : List Piece) (p : Piece) → (completes j h p ≡ true) ↔ Completes j h p
unfolding completes
completes_in_words j h p =
    let both = and-eq-true_iff (last j p) (chain p.key p.total p.number h) in
    let rest = chain_in_words p p.number h in (
      λ e. record { at_last = leb-true p.total (j.width * p.number + j.width) (both.0 e).0; before = rest.0 (both.0 e).1 },
      λ c. both.1 (le-leb p.total (j.width * p.number + j.width) c.at_last, rest.1 c.before),
    )

passes : (a f i t k : Bool) → (not a && (not f || not i || not t || not k)) ≡ not (a || (f && i && t && k))
passes true f i t k = refl
passes false false i t k = refl
passes false true false t k = refl
passes false true true false k = refl
passes false true true true k = refl

-- check 14 said as what passes: number 0, or a filling record that agrees in key, total and next number
pub astray_is : (j : Joiner) (r : Work) (p : Piece)
    → astray j r p ≡ not (eqb p.number 0 || (filling j r && same_key r.key p.key && eqb r.total p.total && eqb r.next p.number))
unfolding astray
astray_is j r p = passes (eqb p.number 0) (filling j r) (same_key r.key p.key) (eqb r.total p.total) (eqb r.next p.number)

-- ---- the history

-- the record after an object's fragments, newest first
abbrev pub after : Joiner → Work → List Piece → Work
after j r [] = r
after j r (p ∷ h) = stepped j p (after j r h)

turned : (i t k : Bool) → (i && t && k) ≡ (k && i && t)
turned i t k = and_comm (i && t) k ∙ sym (and_assoc k i t)

module _ (j : Joiner) where
  -- a record whose status is 0 lets no later fragment pass
  idle_astray : (r : Work) (p : Piece) (k : ℕ) → r.status ≡ 0 → p.number ≡ suc k → astray j r p ≡ true
  unfolding astray
  idle_astray r p k z n = rw (z, n, eqb-suc-zero k)

  -- a record that holds g lets pass what g comes just before
  filled_astray : (g : Piece) (r : Work) (p : Piece) (k : ℕ) → p.number ≡ suc k → last j g ≡ false
      → astray j (waiting g (held_with j g r)) p ≡ not (carries p.key p.total k g)
  filled_astray g r p k n l =
      let on : leb 1 (suc g.number) ≡ true = le-leb 1 (suc g.number) (omega arith) in
      let more : ltb (j.width * suc g.number) g.total ≡ true =
      lt-ltb (j.width * suc g.number) g.total (rw mul-suc (leb-false g.total (j.width * g.number + j.width) l)) in
      astray_is j (waiting g (held_with j g r)) p
      ∙ simp (n, add-one, eqb-suc-zero, eqb-suc-suc, on, more)
      (ap not (turned (same_key g.key p.key) (eqb g.total p.total) (eqb g.number k)))

  -- what is astray after g: what comes after a refused or last g, or is not what g comes just before
  step_astray : (g : Piece) (r : Work) (p : Piece) (k : ℕ) → p.number ≡ suc k
      → astray j (stepped j g r) p ≡ (astray j r g || last j g || not (carries p.key p.total k g))
  step_astray g r p k n =
      split (astray j r g)
      (λ t. simp t (idle_astray _ p k refl n))
      (λ f. split (last j g) (λ l. simp (f, l) (idle_astray _ p k refl n)) (λ l. simp (f, l) (filled_astray g r p k n l)))

  module _ (r : Work) (clear : r.status ≡ 0) (size : length r.held ≡ data_size) where
    -- the record keeps its size
    held_after : (h : List Piece) → All (Fit j) h → length (after j r h).held ≡ data_size
    held_after [] a = size
    held_after (g ∷ h) a =
        let x = after j r h in
        let ih = held_after h a.1 in
        let filled : length (held_with j g x) ≡ length x.held = length_put x.held (j.width * g.number) g.bytes (omega (arith, data_room j g a.0)) in
        split (astray j x g)
        (λ t. simp t ih)
        (λ f. split (last j g)
        (λ t. split j.stores_last (λ b. simp (f, t, b) (filled ∙ ih)) (λ b. simp (f, t, b) ih))
        (λ l. simp (f, l) (filled ∙ ih)))

    -- a fragment with more to come is not the last
    not_last : (g p : Piece) (k : ℕ) → Carries p.key p.total k g → p.number ≡ suc k → Fit j p → last j g ≡ false
    not_last g p k c n s = lt-leb g.total (j.width * g.number + j.width) (rw (c.number, c.same_total, ← mul-suc j.width k, ← n) s.shaped.inside)

    -- a fragment is astray exactly when the fragments before it are not those that its number asks for
    astray_after : (n : ℕ) (h : List Piece) (p : Piece) → p.number ≡ n → All (Fit j) h → Fit j p
        → astray j (after j r h) p ≡ not (chain p.key p.total n h)
    unfolding astray chain
    astray_after zero h p e a s = rw e
    astray_after (suc k) [] p e a s = idle_astray r p k clear e
    astray_after (suc k) (g ∷ h) p e a s =
        step_astray g (after j r h) p k e
        ∙ split (carries p.key p.total k g)
        (λ t.
        let c = (carries_in_words p.key p.total k g).0 t in
        let alike : chain g.key g.total k h ≡ chain p.key p.total k h = rw (c.same_key, c.same_total) in
        simp (t, not_last g p k c e s, or-false) (astray_after k h g c.number a.1 a.0 ∙ ap not alike))
        (λ f. simp f (or-true (astray j (after j r h) g || last j g)))

    -- and where they are, the record holds their data
    held_is : (n : ℕ) (h : List Piece) (p : Piece) → p.number ≡ n → All (Fit j) h → Fit j p → chain p.key p.total n h ≡ true
        → take (j.width * n) (after j r h).held ≡ gather n h
    unfolding chain gather
    held_is zero h p e a s t = rw mul-zero
    held_is (suc k) [] p e a s t = absurd (false≢true t)
    held_is (suc k) (g ∷ h) p e a s t =
        let b = (and-eq-true_iff (carries p.key p.total k g) (chain p.key p.total k h)).0 t in
        let c = (carries_in_words p.key p.total k g).0 b.0 in
        let l = not_last g p k c e s in
        let v : chain g.key g.total k h ≡ true = rw (c.same_key, c.same_total) b.1 in
        simp (astray_after k h g c.number a.1 a.0, v, l)
        (take_put (after j r h).held (j.width * g.number) g.bytes (j.width * suc k)
        (omega (arith, held_after h a.1))
        (rw (mul-suc, ← c.number) (omega (arith, leb-false g.total (j.width * g.number + j.width) l)))
        ∙ rw (c.number, held_is k h g c.number a.1 a.0 v))

    -- THE HISTORY: from a record whose status is 0, what a fragment brings about is said without the record
    pub history : (h : List Piece) (p : Piece) → All (Fit j) h → Fit j p
        → joined j p (after j r h) ≡ cond (chain p.key p.total p.number h) (cond (last j p) (done (message h p)) kept) lost
    unfolding joined message
    history h p a s =
        split (chain p.key p.total p.number h)
        (λ t. simp (astray_after p.number h p refl a s, t, held_is p.number h p refl a s t))
        (λ f. simp (astray_after p.number h p refl a s, f))
