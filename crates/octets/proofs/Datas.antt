-- Data and the bytes that it holds: each is read off the other.
use Prim.Native.Nat.{ℕ, suc, ◌+◌, ◌-◌, ◌<◌, ◌≤◌, min}
use Rattle.std.proofs.Math.Path.{PathP, to_path_p}
use Rattle.std.proofs.Math.Nat.{ℕ_set}
use mathlib.Core.Path.{◌≡◌, refl, sym, ap, ◌∙◌}
use mathlib.Core.Bool.{Bool, true, false, ◌&&◌, ◌||◌, and-eq-true_iff}
use mathlib.Core.List.{List, [], ◌∷◌}
use native.Mathlib.Omega.{arith}
use lib.ListN.{length, get_or, take, drop, replicate, length-take}
use lib.Seq.{drop-nil, length-take-le, take_at, drop_at, get_or-take}
use lib.Dec.{eqb, leb, ltb}
use borrow.Author.Tests.{leb-true, le-leb, lt-leb, ltb-true, ltb-false}
use mathlib.Core.Logic.{◌⊎◌, inl, inr}
use Rattle.std.specs.List.{slice_range, list_all, enumerate_from}
use Rattle.laws.specs.Bytes.{zeros, padded}
use Rattle.laws.proofs.Tests.{split}
use Rattle.laws.proofs.Bytes.{are_zeros, get_d_past, padded_take}
use Rattle.octets.specs.declared.Data.{Data}
use Rattle.octets.specs.Data.{most_data, six, data_of, places_of, bytes_of, tidy}

-- at most six bytes, and the zeros behind them
six_padded : (l : List ℕ) → length l ≤ most_data
    → six l ≡ padded most_data l
six_padded [] h = refl
six_padded (a ∷ []) h = refl
six_padded (a ∷ b ∷ []) h = refl
six_padded (a ∷ b ∷ c ∷ []) h = refl
six_padded (a ∷ b ∷ c ∷ d ∷ []) h = refl
six_padded (a ∷ b ∷ c ∷ d ∷ e ∷ []) h = refl
six_padded (a ∷ b ∷ c ∷ d ∷ e ∷ f ∷ []) h = refl
six_padded (a ∷ b ∷ c ∷ d ∷ e ∷ f ∷ g ∷ l) h = absurd (omega arith)

module _ (l : List ℕ) (h : length l ≤ most_data) where
  -- the bytes that were put into data are those that it holds
  pub bytes_data : bytes_of (data_of l) ≡ l
  unfolding data_of bytes_of
  bytes_data = ap (take (length l)) (six_padded l h) ∙ take_at l (replicate (most_data - length l) 0) (length l) refl

  -- and its other places hold 0
  pub tidy_data : (most : ℕ) → length l ≤ most → tidy most (data_of l) ≡ true
  unfolding data_of tidy
  tidy_data most k =
      let z : zeros (drop (length l) (padded most_data l)) ≡ true = rw (drop_at l (replicate (most_data - length l) 0) (length l) refl) (are_zeros (most_data - length l)) in
      simp (le-leb (length l) most k, six_padded l h, z)

-- six places are those of six elements
pub six_whole : (l : List ℕ) → length l ≡ most_data → six l ≡ l
six_whole [] h = absurd (omega (arith, h))
six_whole (a ∷ []) h = absurd (omega (arith, h))
six_whole (a ∷ b ∷ []) h = absurd (omega (arith, h))
six_whole (a ∷ b ∷ c ∷ []) h = absurd (omega (arith, h))
six_whole (a ∷ b ∷ c ∷ d ∷ []) h = absurd (omega (arith, h))
six_whole (a ∷ b ∷ c ∷ d ∷ e ∷ []) h = absurd (omega (arith, h))
six_whole (a ∷ b ∷ c ∷ d ∷ e ∷ f ∷ []) h = refl
six_whole (a ∷ b ∷ c ∷ d ∷ e ∷ f ∷ g ∷ l) h = absurd (omega (arith, h))

-- data is known by its length and its places
pub same_data : (d e : Data) → d.len ≡ e.len → d.places ≡ e.places → d ≡ e
same_data d e p q = λ i. record { len = p i; places = q i; six = same_six i }
  where
    same_six : PathP (λ i. length (q i) ≡ 6) d.six e.six
    same_six = to_path_p (λ i. length (q i) ≡ 6) (ℕ_set (length e.places) 6 (coe 0 1 (k. length (q k) ≡ 6) d.six) e.six)

-- tidy data is at most so long, and is also tidy where there is more room
pub tidy_most : (most : ℕ) (d : Data) → tidy most d ≡ true → d.len ≤ most
unfolding tidy
tidy_most most d t = leb-true d.len most ((and-eq-true_iff (leb d.len most) (zeros (drop d.len (places_of d)))).0 t).0

pub tidy_more : (most more : ℕ) (d : Data) → most ≤ more → tidy most d ≡ true → tidy more d ≡ true
unfolding tidy
tidy_more most more d h t =
    simp (le-leb d.len more (omega (arith, tidy_most most d t)))
    ((and-eq-true_iff (leb d.len most) (zeros (drop d.len (places_of d)))).0 t).1

-- the bytes are as many as their count says, where there are places for them
pub bytes_counted : (d : Data) → d.len ≤ most_data → length (bytes_of d) ≡ d.len
unfolding bytes_of
bytes_counted d h = length-take-le d.len (places_of d) h

-- and the code gets them from the places, where there are as many
pub places_got : (d : Data) (l : List ℕ) → l ≡ places_of d → slice_range l 0 d.len ≡ bytes_of d
unfolding bytes_of
places_got d l e = let z : d.len - 0 ≡ d.len = omega arith in rw (e, z)

pub places_enough : (d : Data) (l : List ℕ) → l ≡ places_of d → d.len ≤ length l → d.len ≤ most_data
places_enough d l e h = rw e at h

pub places_lack : (d : Data) (l : List ℕ) → l ≡ places_of d → (d.len < 0) ⊎ (length l < d.len) → leb d.len most_data ≡ false
places_lack d l e (inl h) = absurd (omega (arith, h))
places_lack d l e (inr h) = lt-leb d.len most_data (rw e at h)

module _ (d : Data) (t : tidy most_data d ≡ true) where
  pub bytes_length : length (bytes_of d) ≡ d.len
  bytes_length = bytes_counted d (tidy_most most_data d t)

  pub places_padded : padded most_data (bytes_of d) ≡ places_of d
  unfolding bytes_of tidy
  places_padded =
      padded_take d.len most_data (places_of d) (tidy_most most_data d t) (omega arith)
      ((and-eq-true_iff (leb d.len most_data) (zeros (drop d.len (places_of d)))).0 t).1

  -- a byte of the list is the byte of its place
  pub byte_place : (i : ℕ) → get_or (bytes_of d) i 0 ≡ get_or (places_of d) i 0
  byte_place i = sym (get_d_past (bytes_of d) (most_data - length (bytes_of d)) i) ∙ ap (λ (l : List ℕ). get_or l i 0) places_padded

  -- tidy data is made of the bytes that it holds
  pub data_bytes : data_of (bytes_of d) ≡ d
  unfolding data_of
  data_bytes =
      same_data (data_of (bytes_of d)) d bytes_length
      (simp (byte_place 0, byte_place 1, byte_place 2, byte_place 3, byte_place 4, byte_place 5) (six_whole d.places d.six))

-- the front of a list, place by place
pub data_front : (l : List ℕ) (d : Data) → d.len ≡ min most_data (length l) → d.places ≡ six l → d ≡ data_of (take most_data l)
unfolding data_of
data_front l d n p =
    same_data d (data_of (take most_data l)) (n ∙ sym (length-take most_data l))
    (p ∙ sym (simp (get_or-take most_data l 0 0 (omega arith), get_or-take most_data l 1 0 (omega arith), get_or-take most_data l 2 0 (omega arith), get_or-take most_data l 3 0 (omega arith), get_or-take most_data l 4 0 (omega arith), get_or-take most_data l 5 0 (omega arith))))

-- tidy data as the code tests it: six places are all that there are
pub tidy_tested : (most : ℕ) (d : Data) → tidy most d ≡ (leb d.len most && zeros (drop d.len d.places))
unfolding tidy
tidy_tested most d = rw (six_whole d.places d.six) refl

-- zeros behind the first n of a list, tested at each place: here from the kth on
pub zeros_behind : (n k : ℕ) (l : List ℕ) → list_all (λ (p : ℕ × ℕ). ltb p.0 n || eqb p.1 0) (enumerate_from k l) ≡ zeros (drop (n - k) l)
zeros_behind n k [] = rw (drop-nil {A = ℕ} (n - k)) refl
zeros_behind n k (b ∷ l) =
    let rest = zeros_behind n (k + 1) l in
    split (ltb k n)
    (λ t.
    let h = ltb-true k n t in
    let e : n - k ≡ suc (n - (k + 1)) = omega arith in
    rw e (simp t rest))
    (λ f.
    let h = ltb-false k n f in
    let e : n - k ≡ 0 = omega arith in
    let z : n - (k + 1) ≡ 0 = omega arith in
    rw e (simp f (ap (λ (x : Bool). eqb b 0 && x) (rw z at rest))))
