-- Digits and bytes as the loops store them.
use Prim.Native.Nat.{ℕ, suc, ◌+◌, ◌-◌, ◌*◌, ◌/◌, ◌%◌, ◌<◌, ◌≤◌}
use mathlib.Core.Path.{◌≡◌, refl, sym, ap, ◌∙◌}
use mathlib.Core.Bool.{false, true≢false}
use mathlib.Core.List.{List, [], ◌∷◌, ◌++◌, append-nil}
use native.Mathlib.Omega.{arith}
use native.Mathlib.Numerals.{add-one}
use lib.ListN.{length, get_or, set, take, drop, replicate, length-append, length-drop}
use lib.Seq.{take-suc, drop-cons, drop-drop, set_at, append_snoc, length-take-le}
use lib.Dec.{ltb}
use borrow.Author.Tests.{ltb-true, eq-eqb, ne_eqb, lt-ltb, lt-leb, le-leb}
use Rattle.std.specs.Prelude.{Option, Some, None}
use Rattle.std.specs.Option.{unwrap_or, is_some}
use Rattle.std.proofs.Math.Bool.{and-false}
use Rattle.std.proofs.lemmas.List.{take-append-drop, take_more_set, drop-set-lt, length-set}
use Rattle.laws.specs.Bytes.{padded}
use Rattle.laws.proofs.Tests.{split}
use Rattle.candump.specs.Text.{hex_value, digit_of, hex_digit, is_a, all_are}
use Rattle.candump.specs.Text.Kind.{Hex}
use Rattle.candump.specs.Frame.{hex_of}
use Rattle.candump.specs.Importing.{is_bytes, bytes_in}
use Rattle.candump.specs.Code.{bytes_said}

-- the next element of a list that is stored from the front
stored_next : (f p : List ℕ) (i v : ℕ) → length f ≡ i → i < length p → set (f ++ drop i p) i v ≡ f ++ v ∷ [] ++ drop (i + 1) p
stored_next f p i v e h =
    ap (λ (t : List ℕ). set (f ++ t) i v) (drop-cons p i 0 h)
    ∙ set_at f (get_or p i 0) (drop (suc i) p) v i e
    ∙ rw (add-one i) (sym (append_snoc f v (drop (suc i) p)))

kept_length : (f p places : List ℕ) (i : ℕ) → length f ≡ i → i ≤ length p → places ≡ f ++ drop i p → length places ≡ length p
kept_length f p places i n h e = ap length e ∙ length-append f (drop i p) ∙ rw (length-drop i p) (omega arith)

-- ---- bytes of pairs of digits

pub bytes_count : (d : List ℕ) → length (bytes_in d) ≡ length d / 2
unfolding bytes_in
bytes_count [] = refl
bytes_count (h ∷ []) = refl
bytes_count (h ∷ l ∷ d) = let n = bytes_count d in omega arith

-- a digit that is one, and one that is none
pub digit_some : (c v : ℕ) → digit_of c ≡ Some v → (hex_value c < 16) × (v ≡ hex_value c)
unfolding digit_of
digit_some c v e =
    split (ltb (hex_value c) 16)
    (λ t. (ltb-true (hex_value c) 16 t, sym (ap (λ (o : Option ℕ). unwrap_or o 0) (simp t at e))))
    (λ f. absurd (true≢false (sym (ap is_some (simp f at e)))))

pub digit_none : (c : ℕ) → digit_of c ≡ None → is_a Hex c ≡ false
unfolding digit_of is_a
digit_none c e = split (ltb (hex_value c) 16) (λ t. absurd (true≢false (ap is_some (simp t at e)))) (λ f. f)

-- pairs of digits as they are read one by one: what is still to come, and how many bytes stand so far, with zeros behind them
pub record Reading (d rest bytes : List ℕ) (n : ℕ) : Type 0 where
  pub same : all_are Hex rest ≡ all_are Hex d
  pub made : take n bytes ++ bytes_in rest ≡ bytes_in d
  pub zeros : drop n bytes ≡ replicate (8 - n) 0
  pub size : length bytes ≡ 8
  pub left : 2 * n + length rest ≡ length d

pub reading_begun : (d : List ℕ) → Reading d d (replicate 8 0) 0
reading_begun d = record { same = refl; made = refl; zeros = refl; size = refl; left = omega arith }

pair_of : (x : List ℕ) → length x ≡ 2 → x ≡ get_or x 0 0 ∷ get_or x 1 0 ∷ []
pair_of [] e = absurd (omega arith)
pair_of (a ∷ []) e = absurd (omega arith)
pair_of (a ∷ b ∷ []) e = refl
pair_of (a ∷ b ∷ c ∷ x) e = absurd (omega arith)

module _ (d rest bytes x rest' : List ℕ) (n : ℕ) (r : Reading d rest bytes n) (cut : rest ≡ x ++ rest') (two : length x ≡ 2) where
  abbrev high : ℕ
  high = get_or x 0 0

  abbrev low : ℕ
  low = get_or x 1 0

  next_pair : rest ≡ high ∷ low ∷ rest'
  next_pair = cut ∙ ap (λ (t : List ℕ). t ++ rest') (pair_of x two)

  pub reading_room : length d ≤ 16 → n < 8
  reading_room h = let k = ap length next_pair in omega (arith, r.left)

  pub reading_more : length d ≤ 16 → (h l : ℕ) → digit_of high ≡ Some h → digit_of low ≡ Some l → Reading d rest' (set bytes n (h * 16 + l)) (n + 1)
  unfolding is_a bytes_in
  reading_more most h l e f =
      let room = reading_room most in
      let a = digit_some high h e in
      let b = digit_some low l f in
      let v = h * 16 + l in
      let k = ap length next_pair in
      let byte : v ≡ hex_value high * 16 + hex_value low = rw (a.1, b.1) refl in
      let at : n < length bytes = omega (arith, r.size) in
      let less : 8 - n ≡ suc (8 - (n + 1)) = omega arith in
      let behind : drop (n + 1) bytes ≡ replicate (8 - (n + 1)) 0 = sym (drop-drop 1 n bytes) ∙ ap (drop 1) (r.zeros ∙ ap (λ (k : ℕ). replicate k 0) less) in
      record {
        same = sym (simp (lt-ltb _ 16 a.0, lt-ltb _ 16 b.0)) ∙ ap (all_are Hex) (sym next_pair) ∙ r.same;
        made = ap (λ (t : List ℕ). t ++ bytes_in rest') (take_more_set bytes n v at) ∙ append_snoc (take n bytes) v (bytes_in rest') ∙ rw byte (ap (λ (t : List ℕ). take n bytes ++ bytes_in t) (sym next_pair)) ∙ r.made;
        zeros = drop-set-lt (n + 1) bytes n v (omega arith) ∙ behind;
        size = length-set bytes n v ∙ r.size;
        left = omega (arith, r.left);
      }

  pub reading_high : digit_of high ≡ None → all_are Hex d ≡ false
  reading_high e = sym r.same ∙ ap (all_are Hex) next_pair ∙ simp (digit_none high e)

  pub reading_low : digit_of low ≡ None → all_are Hex d ≡ false
  reading_low e = sym r.same ∙ ap (all_are Hex) next_pair ∙ simp (digit_none low e, and-false)

-- at the end, and where they say nothing
pub reading_end : (d rest bytes : List ℕ) (n : ℕ) → Reading d rest bytes n → length d ≤ 16 → length d % 2 ≡ 0 → length rest < 2 → Some bytes ≡ bytes_said d
unfolding bytes_said is_bytes bytes_in
reading_end d [] bytes n r most even h =
    let whole : length d ≡ 2 * n = omega (arith, r.left) in
    let count : length (bytes_in d) ≡ n = omega (arith, bytes_count d) in
    let front : take n bytes ≡ bytes_in d = sym (append-nil (take n bytes)) ∙ r.made in
    let all : bytes ≡ padded 8 (bytes_in d) =
    sym (take-append-drop n bytes) ∙ rw (front, r.zeros, count) refl in
    simp (eq-eqb (length d % 2) 0 even, le-leb (length d) 16 most, sym r.same) (ap Some all)
reading_end d (c ∷ []) bytes n r most even h = absurd (omega (arith, r.left))
reading_end d (c ∷ e ∷ rest) bytes n r most even h = absurd (omega arith)

pub nothing_odd : (d : List ℕ) → (length d % 2 ≡ 0 → ⊥) → None ≡ bytes_said d
unfolding bytes_said is_bytes
nothing_odd d h = simp (ne_eqb (length d % 2) 0 h)

pub nothing_long : (d : List ℕ) → 16 < length d → None ≡ bytes_said d
unfolding bytes_said is_bytes
nothing_long d h = simp (lt-leb (length d) 16 h, and-false)

pub nothing_else : (d : List ℕ) → all_are Hex d ≡ false → None ≡ bytes_said d
unfolding bytes_said is_bytes
nothing_else d h = simp (h, and-false)

-- ---- digits of bytes

pub digits_count : (b : List ℕ) → length (hex_of b) ≡ 2 * length b
unfolding hex_of
digits_count [] = refl
digits_count (x ∷ b) = let n = digits_count b in omega arith

digits_append : (a b : List ℕ) → hex_of (a ++ b) ≡ hex_of a ++ hex_of b
unfolding hex_of
digits_append [] b = refl
digits_append (x ∷ a) b = ap (λ (t : List ℕ). hex_digit (x / 16) ∷ hex_digit (x % 16) ∷ t) (digits_append a b)

pub digits_stored : (b p places : List ℕ) (i v w : ℕ) → i < length b → 2 * length b ≤ length p → places ≡ hex_of (take i b) ++ drop (2 * i) p
    → v ≡ hex_digit (get_or b i 0 / 16) → w ≡ hex_digit (get_or b i 0 % 16)
    → set (set places (2 * i) v) (2 * i + 1) w ≡ hex_of (take (i + 1) b) ++ drop (2 * (i + 1)) p
unfolding hex_of
digits_stored b p places i v w h k e f g =
    let front = hex_of (take i b) in
    let m : length (take i b) ≡ i = length-take-le i b (omega arith) in
    let n : length front ≡ 2 * i = omega (arith, digits_count (take i b)) in
    let n' : length (front ++ v ∷ []) ≡ 2 * i + 1 = length-append front (v ∷ []) ∙ omega arith in
    let t : hex_of (take (i + 1) b) ≡ front ++ v ∷ [] ++ w ∷ [] =
    rw (add-one i)
    (ap hex_of (take-suc b i 0 h) ∙ digits_append (take i b) (get_or b i 0 ∷ []) ∙ rw (f, g) (sym (append_snoc front (hex_digit (get_or b i 0 / 16)) (hex_digit (get_or b i 0 % 16) ∷ [])))) in
    let q : 2 * (i + 1) ≡ 2 * i + 1 + 1 = omega arith in
    rw (e, t, q, stored_next front p (2 * i) v n (omega arith)) (stored_next (front ++ v ∷ []) p (2 * i + 1) w n' (omega arith))

pub digits_kept : (b p places : List ℕ) (i : ℕ) → i ≤ length b → 2 * length b ≤ length p → places ≡ hex_of (take i b) ++ drop (2 * i) p
    → length places ≡ length p
digits_kept b p places i h k e =
    let m : length (take i b) ≡ i = length-take-le i b h in
    kept_length (hex_of (take i b)) p places (2 * i) (omega (arith, digits_count (take i b))) (omega arith) e
