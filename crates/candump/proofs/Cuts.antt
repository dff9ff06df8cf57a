-- What stands before and behind the first of some byte.
use Prim.Native.Nat.{ℕ, suc, ◌-◌, ◌<◌, ◌≤◌}
use mathlib.Core.Path.{◌≡◌, refl, sym, ap, ◌∙◌}
use mathlib.Core.Bool.{Bool, true, false, ◌&&◌}
use mathlib.Core.List.{List, [], ◌∷◌, ◌++◌}
use native.Mathlib.Omega.{arith}
use native.Mathlib.Numerals.{add-one}
use lib.ListN.{length, get_or, take, drop, length-drop}
use lib.Seq.{split_at, take_at, take_all, drop-drop, drop-append-add, length-take-le}
use lib.Dec.{eqb, ltb}
use borrow.Author.Tests.{eqb-true, eq-eqb, ltb-true, ltb-false}
use Rattle.std.specs.Prelude.{Option, Some, None, MatchOption}
use Rattle.std.specs.Option.{unwrap_or}
use Rattle.std.specs.List.{position_or_len, position, list_all}
use Rattle.std.proofs.lemmas.List.Recursion.{is_position_or_len}
use Rattle.laws.proofs.Tests.{split, clash, halves}
use Rattle.std.specs.Char.{is_ascii_digit, is_ascii_graphic}
use Rattle.candump.specs.Text.{Kind}
use Rattle.candump.specs.Text.Kind.{Decimal, Visible}
use Rattle.candump.specs.Text.{is_a, all_are, index_of, up_to, behind}

-- the place of a byte is in the list, or its length
pub index_most : (c : ℕ) (l : List ℕ) → index_of c l ≤ length l
unfolding index_of
index_most c [] = omega arith
index_most c (b ∷ l) = split (eqb b c) (λ t. simp t (omega arith)) (λ f. simp f (omega (arith, index_most c l)))

-- and there it stands
pub index_found : (c : ℕ) (l : List ℕ) → index_of c l < length l → get_or l (index_of c l) 0 ≡ c
unfolding index_of
index_found c [] h = absurd (omega (arith, h))
index_found c (b ∷ l) h =
    split (eqb b c)
    (λ t. simp t (eqb-true b c t))
    (λ f. simp f (index_found c l (omega (arith, simp f at h))))

-- so a list is what stands before it, the byte and what stands behind it
pub rejoined : (c : ℕ) (l : List ℕ) → index_of c l < length l → l ≡ up_to c l ++ c ∷ behind c l
rejoined c l h =
    split_at l (index_of c l) 0 h
    ∙ rw (index_found c l h, add-one (index_of c l))

pub length_up_to : (c : ℕ) (l : List ℕ) → length (up_to c l) ≡ index_of c l
length_up_to c l = length-take-le (index_of c l) l (index_most c l)

-- there is something behind it only where it is found
pub found_before : (c : ℕ) (l : List ℕ) → 0 < length (behind c l) → index_of c l < length l
found_before c l h = omega (arith, simp length-drop at h)

-- all bytes before it of a kind of which it is not: the place is their count
module _ (k : Kind) (c : ℕ) (no : is_a k c ≡ false) where
  pub cut : (a b : List ℕ) → all_are k a ≡ true → index_of c (a ++ c ∷ b) ≡ length a
  unfolding index_of
  cut [] b all = simp (eq-eqb c c refl)
  cut (x ∷ a) b all =
      let h = halves (is_a k x) all in
      split (eqb x c)
      (λ t. clash h.0 (rw (eqb-true x c t) no))
      (λ f. simp f (ap suc (cut a b h.1)))

  pub cut_before : (a b : List ℕ) → all_are k a ≡ true → up_to c (a ++ c ∷ b) ≡ a
  cut_before a b all = take_at a (c ∷ b) (index_of c (a ++ c ∷ b)) (sym (cut a b all))

  pub cut_behind : (a b : List ℕ) → all_are k a ≡ true → behind c (a ++ c ∷ b) ≡ b
  cut_behind a b all = rw (cut a b all) (drop-append-add a (c ∷ b) 1)

-- std's words for the same: the place of the first byte, and a test of each byte
index_is_position : (c : ℕ) (l : List ℕ) → index_of c l ≡ position_or_len (λ b. eqb b c) l
unfolding index_of
index_is_position c = is_position_or_len (index_of c) (λ b. eqb b c) refl (λ b l. split (eqb b c) (λ t. simp t) (λ f. simp f (omega arith)))

pub position_is : (c : ℕ) (l : List ℕ) (o : Option ℕ) → o ≡ position (λ b. eqb b c) l
    → MatchOption o (index_of c l ≡ length l) (λ place. (place ≡ index_of c l) × (place < length l))
position_is c l o e =
    rw e
    (rw (← index_is_position c l)
    (split (ltb (index_of c l) (length l))
    (λ t. simp t (refl, ltb-true (index_of c l) (length l) t))
    (λ f. simp f (omega (arith, index_most c l, ltb-false (index_of c l) (length l) f)))))

pub found_place : (c : ℕ) (l : List ℕ) (o : Option ℕ) → o ≡ position (λ b. eqb b c) l → unwrap_or o (length l) ≡ index_of c l
found_place c l None e = sym (position_is c l None e)
found_place c l (Some place) e = (position_is c l (Some place) e).0

-- a split at a place that was found, by what stands at its front and behind the byte
module _ (c : ℕ) (l m x : List ℕ) (p : ℕ) (e : m ≡ l) (f : p ≡ index_of c m) where
  pub split_front : x ≡ take p m → x ≡ up_to c l
  split_front g = g ∙ rw (f, e) refl

  pub split_behind : x ≡ drop p m → take (length x - 1) (drop 1 x) ≡ behind c l
  split_behind g = take_all (length x - 1) (drop 1 x) (simp length-drop (omega arith)) ∙ ap (drop 1) g ∙ drop-drop 1 p m ∙ rw (f, e) refl

  pub split_none : x ≡ drop p m → length x < 1 → index_of c l ≡ length l
  split_none g h = rw (← e) (omega (arith, index_most c m, ap length g ∙ length-drop p m))

pub all_decimal : (l : List ℕ) → all_are Decimal l ≡ list_all (λ c. is_ascii_digit c) l
unfolding is_a
all_decimal [] = refl
all_decimal (c ∷ l) = ap (λ (x : Bool). is_ascii_digit c && x) (all_decimal l)

pub all_visible : (l : List ℕ) → all_are Visible l ≡ list_all (λ c. is_ascii_graphic c) l
unfolding is_a
all_visible [] = refl
all_visible (c ∷ l) = ap (λ (x : Bool). is_ascii_graphic c && x) (all_visible l)

pub all_both : (k : Kind) (a b : List ℕ) → all_are k a ≡ true → all_are k b ≡ true → all_are k (a ++ b) ≡ true
all_both k [] b p q = q
all_both k (x ∷ a) b p q =
    let h = halves (is_a k x) p in
    simp (h.0, all_both k a b h.1 q)
