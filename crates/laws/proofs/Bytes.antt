-- Zeros behind a list, and a list that is stored element by element.
use Prim.Native.Nat.{ℕ, zero, suc, ◌+◌, ◌-◌, ◌<◌, ◌≤◌}
use mathlib.Core.Path.{◌≡◌, refl, sym, ap, ◌∙◌}
use mathlib.Core.Bool.{true, cond, ◌&&◌, and-eq-true_iff}
use mathlib.Core.List.{List, [], ◌∷◌, ◌++◌, append-nil}
use native.Mathlib.Omega.{arith}
use lib.ListN.{length, get_or, take, drop, replicate, length-append, length-replicate, length-take, length-drop, drop_of_length-le, get_or-eq_default}
use lib.Seq.{sets, sets-eq, take-add, take-length, drop-cons, length-take-le, get_or-take, get_or-drop}
use native.Mathlib.Numerals.{add-one}
use native.Mathlib.Nat.{add-zero}
use lib.Dec.{eqb, ltb}
use borrow.Author.Tests.{eqb-true, ltb-true, ltb-false}
use Rattle.laws.specs.Bytes.{Bytes, zeros, padded}
use Rattle.laws.proofs.Tests.{split}

-- zeros are a repeated 0, and the other way round
pub zeros_are : (l : List ℕ) → zeros l ≡ true → l ≡ replicate (length l) 0
zeros_are [] e = refl
zeros_are (b ∷ l) e =
    let a = (and-eq-true_iff (eqb b 0) (zeros l)).0 e in
    let q : b ≡ 0 = eqb-true b 0 a.0 in
    rw (q, ← zeros_are l a.1)

pub are_zeros : (n : ℕ) → zeros (replicate n 0) ≡ true
are_zeros zero = refl
are_zeros (suc n) = are_zeros n

-- zeros behind a list are not seen by who reads 0 past its end
pub get_d_past : (l : List ℕ) (n i : ℕ) → get_or (l ++ replicate n 0) i 0 ≡ get_or l i 0
get_d_past [] zero i = refl
get_d_past [] (suc n) zero = refl
get_d_past [] (suc n) (suc i) = get_d_past [] n i
get_d_past (b ∷ l) n zero = refl
get_d_past (b ∷ l) n (suc i) = get_d_past l n i

pub length_padded : (n : ℕ) (l : List ℕ) → length l ≤ n → length (padded n l) ≡ n
length_padded n l h = simp (length-append, length-replicate) (omega arith)

take_zeros : (n m : ℕ) → n ≤ m → take {A = ℕ} n (replicate m 0) ≡ replicate n 0
take_zeros zero m h = refl
take_zeros (suc n) zero h = absurd (omega arith)
take_zeros (suc n) (suc m) h = ap (λ (l : List ℕ). 0 ∷ l) (take_zeros n m (omega arith))

pub drop_zeros : (n m : ℕ) → drop {A = ℕ} n (replicate m 0) ≡ replicate (m - n) 0
drop_zeros zero m = let e : m - 0 ≡ m = omega arith in rw e
drop_zeros (suc n) zero = let e : 0 - suc n ≡ 0 = omega arith in rw e
drop_zeros (suc n) (suc m) = let e : suc m - suc n ≡ m - n = omega arith in rw e (drop_zeros n m)

-- a list that holds zeros from k on is its first k elements, padded
pub padded_take : (k most : ℕ) (s : List ℕ) → k ≤ most → most ≤ length s → zeros (drop k s) ≡ true → padded most (take k s) ≡ take most s
padded_take k most s h l z =
    let n : length (take k s) ≡ k = length-take-le k s (omega arith) in
    let d : drop k s ≡ replicate (length s - k) 0 = zeros_are (drop k s) z ∙ ap (λ (j : ℕ). replicate j 0) (length-drop k s) in
    let t = take_zeros (most - k) (length s - k) (omega arith) in
    let q : k + (most - k) ≡ most = omega arith in
    rw (n, ← t, ← d, ← take-add k (most - k) s, q)

-- stores at every place of a list leave what was stored
pub stored : (l vs : List ℕ) → length l ≡ length vs → sets l 0 vs ≡ vs
stored l vs e =
    sets-eq vs l 0 (omega arith)
    ∙ ap (λ (t : List ℕ). vs ++ t) (drop_of_length-le l {i = 0 + length vs} (omega arith))
    ∙ append-nil vs

-- zeros, tested from a place on
pub zeros_step : (l : List ℕ) (i : ℕ) → i < length l → zeros (drop i l) ≡ eqb (get_or l i 0) 0 && zeros (drop (i + 1) l)
zeros_step l i h = simp (add-one, drop-cons l i 0 h)

pub zeros_end : (l : List ℕ) (i : ℕ) → length l ≤ i → zeros (drop i l) ≡ true
zeros_end l i h = simp (drop_of_length-le l {i = i} h)

-- and what is found behind it
pub zeros_at : (n : ℕ) (l : List ℕ) (k : ℕ) → n ≤ k → zeros (drop n l) ≡ true → get_or l k 0 ≡ 0
zeros_at n l k h z =
    let q : n + (k - n) ≡ k = omega arith in
    sym (ap (λ (i : ℕ). get_or l i 0) q) ∙ sym (get_or-drop n l (k - n) 0)
    ∙ ap (λ (m : List ℕ). get_or m (k - n) 0) (zeros_are (drop n l) z) ∙ get_d_past [] (length (drop n l)) (k - n)

-- a list copied over another of its length
pub copied : (s d : List ℕ) → length s ≡ length d → take (length s) s ++ drop (length s) d ≡ s
copied s d e = rw (take-length s, drop_of_length-le d {i = length s} (omega arith)) (append-nil s)

-- what is made of bytes is bytes
pub bytes_nil : Bytes []
bytes_nil i = omega arith

pub bytes_cons : (b : ℕ) (l : List ℕ) → b < 256 → Bytes l → Bytes (b ∷ l)
bytes_cons b l h k zero = h
bytes_cons b l h k (suc i) = k i

pub bytes_padded : (n : ℕ) (l : List ℕ) → Bytes l → Bytes (padded n l)
bytes_padded n l h i = rw (get_d_past l (n - length l) i) (h i)

pub bytes_take : (n : ℕ) (l : List ℕ) → Bytes l → Bytes (take n l)
bytes_take zero l h i = omega arith
bytes_take (suc n) [] h i = omega arith
bytes_take (suc n) (b ∷ l) h zero = h 0
bytes_take (suc n) (b ∷ l) h (suc i) = bytes_take n l (λ j. h (suc j)) i

pub bytes_drop : (n : ℕ) (l : List ℕ) → Bytes l → Bytes (drop n l)
bytes_drop n l h i = rw (get_or-drop n l i 0) (h (n + i))

-- a byte among the first so many
pub byte_taken : (n : ℕ) (l : List ℕ) (i : ℕ) → get_or (take n l) i 0 ≡ cond (ltb i n) (get_or l i 0) 0
byte_taken n l i =
    split (ltb i n)
    (λ t. simp (t, get_or-take n l i 0 (ltb-true i n t)))
    (λ f. simp (f, get_or-eq_default (take n l) 0 {n = i} (simp length-take (omega (arith, ltb-false i n f)))))

-- the first elements of a list, place by place
abbrev pub places : ℕ → ℕ → List ℕ → List ℕ
places zero k l = []
places (suc n) k l = get_or l k 0 ∷ places n (suc k) l

pub places_back : (n k : ℕ) (l : List ℕ) → k + n ≤ length l → places n k l ++ drop (k + n) l ≡ drop k l
places_back zero k l h = ap (λ (i : ℕ). drop i l) (add-zero k)
places_back (suc n) k l h =
    let q : k + suc n ≡ suc k + n = omega arith in
    rw q (ap (λ (t : List ℕ). get_or l k 0 ∷ t) (places_back n (suc k) l (omega arith)) ∙ sym (drop-cons l k 0 (omega arith)))
