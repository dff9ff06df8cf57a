-- The text of a frame as it is put over the front of a buffer, and the line around it.
use Prim.Native.Nat.{ℕ, suc, ◌+◌, ◌-◌, ◌<◌, ◌≤◌}
use mathlib.Core.Path.{◌≡◌, refl, sym, ap, ◌∙◌}
use mathlib.Core.List.{List, ◌∷◌, ◌++◌, append-nil}
use native.Mathlib.Omega.{arith}
use lib.ListN.{length, take, drop, replicate, length-take, length-drop, drop_of_length-le}
use lib.Seq.{take_all, drop-drop}
use lib.Dec.{eqb, ltb}
use borrow.Author.Tests.{eq-eqb, ne_eqb, lt-ltb, le-ltb}
use Rattle.std.specs.Prelude.{Err}
use Rattle.laws.specs.Bytes.{padded}
use Rattle.laws.specs.Checks.{first_of}
use Rattle.laws.proofs.Bytes.{drop_zeros}
use Rattle.laws.proofs.Tests.{split}
use Rattle.codec.specs.declared.Can.{Can}
use Rattle.candump.specs.Exporting.{Put}
use Rattle.codec.specs.Names.{most_dlc}
use Rattle.codec.specs.Fields.{can_of}
use Rattle.candump.specs.Text.{mark}
use Rattle.candump.specs.Frame.{identifier_digits, data_text, text}
use Rattle.candump.specs.declared.errors.ExportError.{ExportError}
use Rattle.candump.specs.declared.errors.ExportError.TheVariants.{NotTen, Dlc, Room}
use Rattle.candump.specs.Refusals.{export_answer, put_answer}
use Rattle.candump.specs.Exporting.{line_room, line_of, front, export_checks, export_of, put_checks, put_of, put_left}
use Rattle.candump.proofs.Stores.{digits_count}

pub data_most : (c : Can) (b : List ℕ) → c.dlc ≤ most_dlc → length (data_text c b) ≤ 16
unfolding data_text
data_most c b h =
    split (eqb c.rtr 1)
    (λ t. simp t (omega arith))
    (λ f. simp (f, digits_count (take c.dlc b), length-take c.dlc b) (omega arith))

pub text_length : (c : Can) (b : List ℕ) → length (text c b) ≡ 4 + length (data_text c b)
unfolding text identifier_digits
text_length c b = omega arith

pub text_most : (c : Can) (b : List ℕ) → c.dlc ≤ most_dlc → (n : ℕ) → n ≡ length (text c b) → n ≤ 20
text_most c b h n e = omega (arith, text_length c b, data_most c b h)

pub line_most : (r : List ℕ) → (can_of r).dlc ≤ most_dlc → length (line_of r) ≤ 36
unfolding line_of
line_most r h = omega (arith, text_most (can_of r) (drop 2 r) h (length (text (can_of r) (drop 2 r))) refl)

-- identifier and mark, then the data behind them
pub text_put : (c : Can) (b p q e : List ℕ) → q ≡ identifier_digits c.identifier ++ mark ∷ drop 4 p
    → e ≡ data_text c b ++ drop (length (data_text c b)) (take (length q - 4) (drop 4 q))
    → take 4 q ++ (e ++ drop (length q - 4) (drop 4 q)) ≡ text c b ++ drop (length (text c b)) p
unfolding text identifier_digits
text_put c b p q e f g =
    let rest = drop 4 p in
    let k : length q - 4 ≡ length rest = rw f (omega arith) in
    let d : drop 4 q ≡ rest = rw f in
    let h : e ≡ data_text c b ++ drop (length (data_text c b)) rest = g ∙ rw (k, d, take_all (length rest) rest (omega arith)) in
    let n : 4 + length (data_text c b) ≡ suc (suc (suc (suc (length (data_text c b))))) = omega arith in
    rw (k, d, drop_of_length-le rest {i = length rest} (omega arith), append-nil e, f, h, drop-drop (length (data_text c b)) 4 p, n)

line_is : (r : List ℕ) (c : Can) (d : List ℕ) → c ≡ can_of r → d ≡ drop 2 r → front ++ text c d ≡ line_of r
unfolding line_of
line_is r c d e f = rw (e, f)

-- a text put behind time and interface
over_front : (t b m x : List ℕ) → m ≡ front ++ drop 16 b → x ≡ t ++ drop (length t) (take (length m - 16) (drop 16 m))
    → take 16 m ++ (x ++ drop (length m - 16) (drop 16 m)) ≡ front ++ t ++ drop (length (front ++ t)) b
over_front t b m x p g =
    let rest = drop 16 b in
    let z : length m - 16 ≡ length rest = rw p (omega arith) in
    let w : drop 16 m ≡ rest = rw p in
    let y : x ≡ t ++ drop (length t) rest = g ∙ rw (z, w, take_all (length rest) rest (omega arith)) in
    let count : 16 + length t ≡ length (front ++ t) = omega arith in
    let past : drop (length t) rest ≡ drop (length (front ++ t)) b = drop-drop (length t) 16 b ∙ ap (λ (j : ℕ). drop j b) count in
    rw (z, w, drop_of_length-le rest {i = length rest} (omega arith), append-nil x, p, y, past)

-- ---- what is put into a buffer, and exported

module _ (r b : List ℕ) where
  abbrev Left : ℕ → ℕ → List ℕ → Type 0
  Left number len x = (record { number = number; len = len } ≡ put_of r b) × (x ≡ put_left r b)

  pub not_ten : (length r ≡ 10 → ⊥) → Left 1 0 b
  unfolding put_of put_left
  not_ten h = let f = ne_eqb (length r) 10 h in (simp f, simp f)

  module _ (ten : length r ≡ 10) (c : Can) (e : c ≡ can_of r) where
    pub too_much : 8 < c.dlc → Left 2 0 b
    unfolding put_of put_left
    too_much h =
        let t = eq-eqb (length r) 10 ten in
        let f = lt-ltb 8 c.dlc h in
        (simp (t, ← e, f), simp (t, ← e, f))

    pub no_room : c.dlc ≤ 8 → length b < line_room → Left 3 0 b
    unfolding put_of put_left
    no_room h k =
        let t = eq-eqb (length r) 10 ten in
        let f = le-ltb 8 c.dlc h in
        let g = lt-ltb (length b) line_room k in
        (simp (t, ← e, f, g), simp (t, ← e, f, g))

    -- time and interface were put, and the text of the frame behind them; its data are what stands behind the record's second byte
    pub line_put : c.dlc ≤ 8 → line_room ≤ length b → (d : List ℕ) → d ≡ take (length r - 2) (drop 2 r) → (m : List ℕ) → m ≡ front ++ drop 16 b
        → (n : ℕ) (x : List ℕ) → n ≡ length (text c d) → x ≡ text c d ++ drop (length (text c d)) (take (length m - 16) (drop 16 m))
        → Left 0 (16 + n) (take 16 m ++ (x ++ drop (length m - 16) (drop 16 m)))
    unfolding put_of put_left
    line_put h k d q m p n x f g =
        let same : d ≡ drop 2 r = q ∙ take_all (length r - 2) (drop 2 r) (simp length-drop (omega arith)) in
        let whole = line_is r c d e same in
        let len : 16 + n ≡ length (line_of r) = omega (arith, ap length whole) in
        let is = eq-eqb (length r) 10 ten in
        let few = le-ltb 8 c.dlc h in
        let room = le-ltb (length b) line_room k in (
          simp (is, ← e, few, room) (rw len),
          over_front (text c d) b m x p g ∙ ap (λ (l : List ℕ). l ++ drop (length l) b) whole ∙ simp (is, ← e, few, room),
        )

-- and over zeros, where there is room
module _ (r : List ℕ) where
  same_checks : first_of (put_checks r (replicate line_room 0)) ≡ first_of (export_checks r)
  same_checks =
      split (eqb (length r) 10)
      (λ t. split (ltb 8 (can_of r).dlc) (λ u. simp (t, u)) (λ v. simp (t, v)))
      (λ n. simp n)

  pub export_made : (n : ℕ) (b : List ℕ) → record { number = 0; len = n } ≡ put_of r (replicate line_room 0) → b ≡ put_left r (replicate line_room 0)
      → record { number = 0; len = n; line = b } ≡ export_of r
  unfolding put_of put_left export_of
  export_made n b e f =
      let z : first_of (export_checks r) ≡ 0 = sym same_checks ∙ sym (ap (λ (p : Put). p.number) e) in
      let k : n ≡ length (line_of r) = ap (λ (p : Put). p.len) e ∙ simp (same_checks, z) in
      let l : b ≡ padded line_room (line_of r) = f ∙ simp (same_checks, z, drop_zeros (length (line_of r)) line_room) in
      rw (z, k, l) refl

  pub export_refused : (e : ExportError) → put_answer (Err e) ≡ put_of r (replicate line_room 0) → export_answer (Err e) ≡ export_of r
  unfolding put_of export_of
  export_refused NotTen e = let z : first_of (export_checks r) ≡ 1 = sym same_checks ∙ sym (ap (λ (p : Put). p.number) e) in rw z refl
  export_refused Dlc e = let z : first_of (export_checks r) ≡ 2 = sym same_checks ∙ sym (ap (λ (p : Put). p.number) e) in rw z refl
  export_refused Room e = let z : first_of (export_checks r) ≡ 3 = sym same_checks ∙ sym (ap (λ (p : Put). p.number) e) in rw z refl
