-- What the tests of a line's parts let through, and what is imported of them.
use Prim.Native.Nat.{ℕ, suc, ◌+◌, ◌/◌, ◌%◌, ◌<◌, ◌≤◌}
use mathlib.Core.Path.{◌≡◌, refl, sym, ap, ◌∙◌}
use mathlib.Core.Bool.{true, false, true≢false, ◌&&◌, ◌||◌}
use mathlib.Core.List.{List, [], ◌++◌}
use native.Mathlib.Omega.{arith}
use lib.ListN.{length, drop, drop_of_length-le}
use lib.Dec.{eqb, ltb, leb}
use borrow.Author.Tests.{eqb-true, ltb-true, leb-true, lt-ltb, le-ltb, not-false}
use Rattle.std.specs.Prelude.{Option, Some, None}
use Rattle.std.specs.Option.{unwrap_or, is_some}
use Rattle.std.proofs.Math.Bool.{and-false}
use Rattle.laws.specs.Bytes.{padded}
use Rattle.laws.specs.Checks.{first_of, holds_at}
use Rattle.laws.proofs.Bytes.{length_padded}
use Rattle.laws.proofs.Checks.{none_holds}
use Rattle.laws.proofs.Tests.{split, halves}
use Rattle.codec.specs.Fields.{can_bytes}
use Rattle.candump.specs.Text.Kind.{Hex}
use Rattle.candump.specs.Text.{space, mark, all_are, index_of, up_to, behind}
use Rattle.candump.specs.Frame.{can, record_of}
use Rattle.candump.specs.Importing.{most_line, time_of, interface_of, frame_of, is_time, is_interface, is_identified, is_remote, is_bytes, bytes_in, remote_dlc, record_in, not_imported, imported, identifier_in, import_checks, data_imported, frame_imported, import_of}
use Rattle.candump.specs.Code.{dlc_said, bytes_said}
use Rattle.candump.proofs.Stores.{bytes_count}

pub record Whole (d : List ℕ) : Type 0 where
  pub even : length d % 2 ≡ 0
  pub most : length d ≤ 16
  pub hex : all_are Hex d ≡ true

pub whole : (d : List ℕ) → is_bytes d ≡ true → Whole d
unfolding is_bytes
whole d e =
    let a = halves (eqb (length d % 2) 0 && leb (length d) 16) e in
    let b = halves (eqb (length d % 2) 0) a.0 in
    record { even = eqb-true (length d % 2) 0 b.0; most = leb-true (length d) 16 b.1; hex = a.1 }

pub record Identified (f : List ℕ) : Type 0 where
  pub found : index_of mark f < length f
  pub three : index_of mark f ≡ 3
  pub hex : all_are Hex (up_to mark f) ≡ true
  pub most : identifier_in f ≤ 2047

pub identified : (f : List ℕ) → is_identified f ≡ true → Identified f
unfolding is_identified
identified f e =
    let a = halves (ltb (index_of mark f) (length f) && eqb (index_of mark f) 3 && all_are Hex (up_to mark f)) e in
    let b = halves (ltb (index_of mark f) (length f) && eqb (index_of mark f) 3) a.0 in
    let c = halves (ltb (index_of mark f) (length f)) b.0 in
    record {
      found = ltb-true (index_of mark f) (length f) c.0;
      three = eqb-true (index_of mark f) 3 c.1;
      hex = b.1;
      most = leb-true (identifier_in f) 2047 a.1;
    }

-- ---- what is imported of what stands behind the "#", by what was found of it

module _ (i : ℕ) (d : List ℕ) where
  pub remote_imported : (n : ℕ) → dlc_said d ≡ Some n → (r : List ℕ) → r ≡ can_bytes (can i 1 n) ++ padded 8 [] → imported 0 r ≡ data_imported i d
  unfolding dlc_said data_imported record_in record_of
  remote_imported n e r f =
      split (is_remote d)
      (λ t. let k : remote_dlc d ≡ n = ap (λ (o : Option ℕ). unwrap_or o 0) (simp t at e) in simp t (rw (f, k) refl))
      (λ b. absurd (true≢false (sym (ap is_some (simp b at e)))))

  pub not_remote : dlc_said d ≡ None → is_remote d ≡ false
  unfolding dlc_said
  not_remote e = split (is_remote d) (λ t. absurd (true≢false (ap is_some (simp t at e)))) (λ f. f)

  pub bytes_some : (b : List ℕ) → bytes_said d ≡ Some b → (is_bytes d ≡ true) × (b ≡ padded 8 (bytes_in d))
  unfolding bytes_said
  bytes_some b e =
      split (is_bytes d)
      (λ t. (t, sym (ap (λ (o : Option (List ℕ)). unwrap_or o []) (simp t at e))))
      (λ f. absurd (true≢false (sym (ap is_some (simp f at e)))))

  pub bytes_imported : dlc_said d ≡ None → (b : List ℕ) → bytes_said d ≡ Some b → (r : List ℕ) → r ≡ can_bytes (can i 0 (length d / 2)) ++ b → imported 0 r ≡ data_imported i d
  unfolding data_imported record_in record_of
  bytes_imported n b e r f = let s = bytes_some b e in simp (not_remote n, s.0) (rw (f, s.1) refl)

  pub data_refused : dlc_said d ≡ None → bytes_said d ≡ None → not_imported 4 ≡ data_imported i d
  unfolding bytes_said data_imported record_in
  data_refused n e =
      split (is_bytes d)
      (λ t. absurd (true≢false (ap is_some (simp t at e))))
      (λ f. simp (not_remote n, f))

  pub data_imported_lem : is_remote d || is_bytes d ≡ true → data_imported i d ≡ imported 0 (record_in i d)
  unfolding data_imported
  data_imported_lem e = simp e

-- ---- of a frame

module _ (f : List ℕ) where
  pub frame_refused : is_identified f ≡ false → not_imported 3 ≡ frame_imported f
  unfolding frame_imported
  frame_refused n = simp n

  pub frame_data : is_identified f ≡ true → (i : ℕ) (d : List ℕ) → i ≡ identifier_in f → d ≡ drop 4 f → data_imported i d ≡ frame_imported f
  unfolding frame_imported data_imported
  frame_data n i d e g =
      let three = (identified f n).three in
      let q : d ≡ behind mark f = g ∙ sym (rw three) in
      rw (e, q) (simp n)

-- ---- of a line

module _ (l : List ℕ) where
  pub too_long : most_line < length l → not_imported 1 ≡ import_of l
  unfolding import_of
  too_long h = simp (lt-ltb most_line (length l) h)

  module _ (h : length l ≤ most_line) where
    pub bad_time : is_time (time_of l) ≡ false → not_imported 2 ≡ import_of l
    unfolding import_of
    bad_time t = simp (le-ltb most_line (length l) h, t)

    pub bad_interface : is_interface (interface_of l) ≡ false → not_imported 2 ≡ import_of l
    unfolding import_of
    bad_interface i = simp (le-ltb most_line (length l) h, i, and-false)

    -- a line with no space has none
    pub no_interface : index_of space l ≡ length l → not_imported 2 ≡ import_of l
    unfolding is_interface index_of
    no_interface e =
        let none : behind space l ≡ [] = ap (λ (j : ℕ). drop (j + 1) l) e ∙ drop_of_length-le l {i = length l + 1} (omega arith) in
        bad_interface (rw none refl)

    pub line_frame : is_time (time_of l) ≡ true → is_interface (interface_of l) ≡ true → frame_imported (frame_of l) ≡ import_of l
    unfolding import_of frame_imported
    line_frame t i = simp (le-ltb most_line (length l) h, t, i)

    -- and one with one space alone has no frame
    pub no_frame_part : is_time (time_of l) ≡ true → is_interface (interface_of l) ≡ true → index_of space (behind space l) ≡ length (behind space l) → not_imported 3 ≡ import_of l
    unfolding is_identified index_of
    no_frame_part t i e =
        let rest = behind space l in
        let none : frame_of l ≡ [] = ap (λ (j : ℕ). drop (j + 1) rest) e ∙ drop_of_length-le rest {i = length rest + 1} (omega arith) in
        frame_refused (frame_of l) (rw none refl) ∙ line_frame t i

-- what is imported is ten bytes
pub record_size : (l : List ℕ) → first_of (import_checks l) ≡ 0 → length (record_in (identifier_in (frame_of l)) (behind mark (frame_of l))) ≡ 10
unfolding holds_at record_in record_of can_bytes
record_size l e =
    let d = behind mark (frame_of l) in
    let ok = not-false (is_remote d || is_bytes d) ((none_holds (import_checks l) refl).0 e 4) in
    split (is_remote d)
    (λ t. simp t)
    (λ f.
    let w = whole d (simp f at ok) in
    simp f (ap (λ (n : ℕ). suc (suc n)) (length_padded 8 (bytes_in d) (omega (arith, bytes_count d, w.most)))))
