-- What a list holds after a part of it is replaced, and where two such lists agree.
use Prim.Native.Nat.{ℕ, ◌+◌, ◌-◌, ◌≤◌, ◌<◌}
use mathlib.Core.Path.{◌≡◌, refl, sym, ap, ◌∙◌}
use mathlib.Core.Bool.{Bool, true, false}
use mathlib.Core.Logic.{◌≢◌}
use mathlib.Core.List.{List, [], ◌∷◌, ◌++◌, append-nil, append_assoc}
use native.Mathlib.Nat.{zero-add, add-zero}
use native.Mathlib.Omega.{arith}
use lib.Dec.{ltb}
use lib.ListN.{length, take, drop, get_or, length-append, length-take, length-drop, take-append-drop, get_or-append}
use lib.Seq.{get_or-append-add, get_or-take, get_or-drop, ext_get_or, length-take-le, take_at, drop-drop}
use borrow.Author.Tests.{ltb-true, ltb-false}
use Rattle.laws.specs.Put.{put, Agree}

get_d_behind : (xs ys : List ℕ) (n i : ℕ) → length xs ≡ n → n ≤ i → get_or (xs ++ ys) i 0 ≡ get_or ys (i - n) 0
get_d_behind xs ys n i e h = ap (λ (k : ℕ). get_or (xs ++ ys) k 0) (omega (arith, e)) ∙ get_or-append-add xs ys (i - n) 0

module _ (l : List ℕ) (at : ℕ) (bs : List ℕ) (h : at + length bs ≤ length l) where
  pub length_put : length (put l at bs) ≡ length l
  unfolding put
  length_put = simp (length-append, length-take, length-drop) (omega arith)

  front : length (take at l ++ bs) ≡ at + length bs
  front = simp (length-append, length-take) (omega arith)

  pub put_within : (i : ℕ) → at ≤ i → i < at + length bs → get_or (put l at bs) i 0 ≡ get_or bs (i - at) 0
  unfolding put
  put_within i a b =
      get_or-append (take at l ++ bs) (drop (at + length bs) l) 0 i (omega (arith, front))
      ∙ get_d_behind (take at l) bs at i (length-take-le at l (omega arith)) a

  pub put_before : (i : ℕ) → i < at → get_or (put l at bs) i 0 ≡ get_or l i 0
  unfolding put
  put_before i a =
      get_or-append (take at l ++ bs) (drop (at + length bs) l) 0 i (omega (arith, front))
      ∙ get_or-append (take at l) bs 0 i (omega (arith, length-take-le at l (omega arith)))
      ∙ get_or-take at l i 0 a

  pub put_behind : (i : ℕ) → at + length bs ≤ i → get_or (put l at bs) i 0 ≡ get_or l i 0
  unfolding put
  put_behind i a =
      get_d_behind (take at l ++ bs) (drop (at + length bs) l) (at + length bs) i front a
      ∙ get_or-drop (at + length bs) l (i - (at + length bs)) 0
      ∙ ap (λ (k : ℕ). get_or l k 0) (omega arith)

-- where an index lies, for a proof by cases
pub data Where (at n i : ℕ) : Type 0 where
  before : i < at → Where at n i
  within : at ≤ i → i < at + n → Where at n i
  behind : at + n ≤ i → Where at n i

pub where_is : (at n i : ℕ) → Where at n i
where_is at n i = go (ltb i at) (ltb i (at + n)) refl refl
  where
    go : (a b : Bool) → ltb i at ≡ a → ltb i (at + n) ≡ b → Where at n i
    go true b p q = before (ltb-true i at p)
    go false true p q = within (ltb-false i at p) (ltb-true i (at + n) q)
    go false false p q = behind (ltb-false i (at + n) q)

module _ (P : ℕ → Type 0) where
  -- elements put in where P takes nothing
  pub untouched : (l : List ℕ) (at : ℕ) (bs : List ℕ) → at + length bs ≤ length l
      → ((i : ℕ) → at ≤ i → i < at + length bs → P i → ⊥) → Agree P (put l at bs) l
  untouched l at bs h out i p = go (where_is at (length bs) i)
    where
      go : Where at (length bs) i → get_or (put l at bs) i 0 ≡ get_or l i 0
      go (before a) = put_before l at bs h i a
      go (within a b) = absurd (out i a b p)
      go (behind a) = put_behind l at bs h i a

  -- the same elements put into both
  pub put_both : (l m : List ℕ) (at : ℕ) (bs : List ℕ) → at + length bs ≤ length l → at + length bs ≤ length m
      → Agree P l m → Agree P (put l at bs) (put m at bs)
  put_both l m at bs h k e i p = go (where_is at (length bs) i)
    where
      go : Where at (length bs) i → get_or (put l at bs) i 0 ≡ get_or (put m at bs) i 0
      go (before a) = put_before l at bs h i a ∙ e i p ∙ sym (put_before m at bs k i a)
      go (within a b) = put_within l at bs h i a b ∙ sym (put_within m at bs k i a b)
      go (behind a) = put_behind l at bs h i a ∙ e i p ∙ sym (put_behind m at bs k i a)

  -- a part of which P takes each index is the same in both
  pub same_part : (l m : List ℕ) (at n : ℕ) → at + n ≤ length l → at + n ≤ length m → ((i : ℕ) → at ≤ i → i < at + n → P i)
      → Agree P l m → take n (drop at l) ≡ take n (drop at m)
  same_part l m at n h k p e =
      ext_get_or 0 (take n (drop at l)) (take n (drop at m)) (simp (length-take, length-drop) (omega arith))
      (λ i b.
      let c : i < n = omega (arith, simp (length-take, length-drop) at b) in
      get_or-take n (drop at l) i 0 c ∙ get_or-drop at l i 0
      ∙ e (at + i) (p (at + i) (omega arith) (omega arith))
      ∙ sym (get_or-take n (drop at m) i 0 c ∙ get_or-drop at m i 0))

-- a part of a list into which elements are put, inside that part
pub part_put : (l : List ℕ) (at n k : ℕ) (bs : List ℕ) → at + n ≤ length l → k + length bs ≤ n
    → take n (drop at (put l (at + k) bs)) ≡ put (take n (drop at l)) k bs
part_put l at n k bs h r =
    ext_get_or 0 (take n (drop at (put l (at + k) bs))) (put (take n (drop at l)) k bs) (left ∙ sym (length_put part k bs inn ∙ right))
    (λ i b.
    let c : i < n = omega (arith, left) in
    get_or-take n (drop at (put l (at + k) bs)) i 0 c ∙ get_or-drop at (put l (at + k) bs) i 0
    ∙ go i c (where_is k (length bs) i))
  where
    part : List ℕ
    part = take n (drop at l)

    fit : at + k + length bs ≤ length l
    fit = omega arith

    right : length part ≡ n
    right = simp (length-take, length-drop) (omega arith)

    left : length (take n (drop at (put l (at + k) bs))) ≡ n
    left = simp (length-take, length-drop) (omega (arith, length_put l (at + k) bs fit))

    inn : k + length bs ≤ length part
    inn = omega (arith, right)

    old : (i : ℕ) → i < n → get_or l (at + i) 0 ≡ get_or part i 0
    old i c = sym (get_or-take n (drop at l) i 0 c ∙ get_or-drop at l i 0)

    go : (i : ℕ) → i < n → Where k (length bs) i → get_or (put l (at + k) bs) (at + i) 0 ≡ get_or (put part k bs) i 0
    go i c (before a) = put_before l (at + k) bs fit (at + i) (omega arith) ∙ old i c ∙ sym (put_before part k bs inn i a)
    go i c (within a b) =
        put_within l (at + k) bs fit (at + i) (omega arith) (omega arith)
        ∙ ap (λ (j : ℕ). get_or bs j 0) (omega arith) ∙ sym (put_within part k bs inn i a b)
    go i c (behind a) = put_behind l (at + k) bs fit (at + i) (omega arith) ∙ old i c ∙ sym (put_behind part k bs inn i a)

-- what was put stands there
pub take_put : (l : List ℕ) (at : ℕ) (bs : List ℕ) (n : ℕ) → at ≤ length l → at + length bs ≡ n → take n (put l at bs) ≡ take at l ++ bs
unfolding put
take_put l at bs n p q =
    take_at (take at l ++ bs) (drop (at + length bs) l) n
    (length-append (take at l) bs ∙ ap (λ (x : ℕ). x + length bs) (length-take-le at l p) ∙ q)

-- nothing put in
pub put_nothing : (l : List ℕ) (at : ℕ) → put l at [] ≡ l
unfolding put
put_nothing l at = rw (append-nil (take at l), add-zero at) (take-append-drop at l)

-- put in front, the rest stays
pub put_front : (l bs : List ℕ) → put l 0 bs ≡ bs ++ drop (length bs) l
unfolding put
put_front l bs = ap (λ (n : ℕ). bs ++ drop n l) (zero-add (length bs))

-- a part that was lent and comes back with other elements, as many as it had
pub part_back : (l bs : List ℕ) (at k : ℕ) → length bs ≡ k → take at l ++ (bs ++ drop k (drop at l)) ≡ put l at bs
unfolding put
part_back l bs at k e = rw (drop-drop k at l, e) (sym (append_assoc (take at l) bs (drop (at + k) l)))

-- one byte put in: it stands there, and every other stays
module _ (l : List ℕ) (at b : ℕ) (h : at < length l) where
  pub one_put : get_or (put l at (b ∷ [])) at 0 ≡ b
  one_put =
      let z : at - at ≡ 0 = omega arith in
      put_within l at (b ∷ []) (omega arith) at (omega arith) (omega arith) ∙ rw z

  pub one_beside : (i : ℕ) → i ≢ at → get_or (put l at (b ∷ [])) i 0 ≡ get_or l i 0
  one_beside i ne = untouched (λ k. k ≢ at) l at (b ∷ []) (omega arith) (λ k a b q. q (omega arith)) i ne
