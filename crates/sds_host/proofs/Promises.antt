-- WHAT THE BORDER PROMISES of lines and records, and of the collector: what is refused and what then stays, and the way there and back.
use Prim.Native.Nat.{ℕ, ◌+◌, ◌*◌, ◌/◌, ◌%◌, ◌<◌, ◌≤◌}
use mathlib.Core.Path.{◌≡◌, refl}
use mathlib.Core.Bool.{false}
use mathlib.Core.List.{List}
use mathlib.Core.Logic.{◌↔◌}
use native.Mathlib.Omega.{arith}
use lib.ListN.{length, take, drop}
use lib.Seq.{take_at}
use lib.Dec.{eqb}
use borrow.Author.Tests.{eqb-true, eqb-false, eq-eqb, ne_eqb}
use Rattle.laws.specs.Bytes.{Bytes}
use Rattle.laws.specs.Checks.{FirstAt}
use Rattle.laws.proofs.Tests.{split}
use Rattle.laws.proofs.Checks.{first_most}
use Rattle.codec.specs.Names.{frame_size, most_address, most_dlc}
use Rattle.codec.specs.Fields.{can_of}
use Rattle.candump.specs.Frame.{unused_cleared}
use Rattle.candump.specs.Importing.{import_checks, import_of}
use Rattle.candump.specs.Exporting.{line_room, line_of, put_checks, put_of, put_left}
use Rattle.candump.proofs.Promises.{import_number, put_refuses_exactly, put_small, refused_buffer_unchanged, put_leaves, line_back}
use Rattle.std.specs.Prelude.{None}
use Rattle.collect.specs.Step.{Complete, gives, answer_of, work_of, place_of}
use Rattle.sds_host.specs.Border.{border_import_number, border_import, border_export_answer, value_size, value_bytes, border_answer, border_work, border_value}

-- ---- refusals

-- 5 is given exactly for a record buffer of another length, whatever the line; else the importer's number
pub five_exactly : (l r : List ℕ) → (border_import_number l r ≡ 5) ↔ (length r ≡ frame_size → ⊥)
unfolding border_import_number
five_exactly l r =
    let few = first_most 4 (import_checks l) refl in
    split (eqb (length r) frame_size)
    (λ t. simp t (λ e. absurd (omega (arith, import_number l)), λ h. absurd (h (eqb-true (length r) frame_size t))))
    (λ f. simp f (λ e h. eqb-false (length r) frame_size f h, λ h. refl))

pub else_as_imported : (l r : List ℕ) → length r ≡ frame_size → border_import_number l r ≡ (import_of l).number
unfolding border_import_number
else_as_imported l r ten = simp (eq-eqb (length r) frame_size ten)

-- an answer holds a number and a length, apart, as `SDS_LINE_NUMBER` and `SDS_LINE_LENGTH` take them
pub answer_apart : (r l : List ℕ) → (border_export_answer r l % 256 ≡ (put_of r l).number) × (border_export_answer r l / 256 ≡ (put_of r l).len)
unfolding border_export_answer
answer_apart r l = let p = put_small r l in (omega (arith, p.0), omega (arith, p.0))

pub export_refuses_exactly : (r l : List ℕ) (n : ℕ) → 0 < n → (border_export_answer r l % 256 ≡ n) ↔ FirstAt (put_checks r l) n
export_refuses_exactly r l n h = rw (answer_apart r l).0 (put_refuses_exactly r l n h)

-- ---- what is refused stays as it was

pub refused_record_unchanged : (l r : List ℕ) → (border_import_number l r ≡ 0 → ⊥) → border_import l r ≡ r
unfolding border_import
refused_record_unchanged l r h = simp (ne_eqb (border_import_number l r) 0 h)

pub refused_line_unchanged : (r l : List ℕ) → ((put_of r l).number ≡ 0 → ⊥) → put_left r l ≡ l
refused_line_unchanged r l h = refused_buffer_unchanged r l h

-- ---- there and back: a record of ten bytes with a DLC up to 8, a buffer of at least 36 and any record buffer of ten

module _ (r l : List ℕ) (b : Bytes r) (ten : length r ≡ frame_size) (few : (can_of r).dlc ≤ most_dlc) (room : line_room ≤ length l) where
  pub answers_length : border_export_answer r l ≡ 256 * length (line_of r)
  unfolding border_export_answer
  answers_length = let p = put_leaves r l ten few room in omega (arith, p.0, p.1)

  pub line_at_front : take (length (line_of r)) (put_left r l) ≡ line_of r
  line_at_front = rw (put_leaves r l ten few room).2 (take_at (line_of r) (drop (length (line_of r)) l) (length (line_of r)) refl)

  pub there_and_back : (s : List ℕ) → length s ≡ frame_size
      → (border_import_number (take (length (line_of r)) (put_left r l)) s ≡ 0)
      × (border_import (take (length (line_of r)) (put_left r l)) s ≡ unused_cleared r)
  unfolding border_import_number border_import
  there_and_back s n =
      let t = eq-eqb (length s) frame_size n in
      let back = line_back r b ten few in
      rw line_at_front (simp (t, back), simp (t, back))

-- ---- the collector

module _ (r work value : List ℕ) where
  -- a value buffer of another length is 1, and then nothing of what is lent alters but the tally; else the number, the work area and the tally are the collector's
  pub no_value_unchanged : (length value ≡ value_size → ⊥)
      → (border_answer r work value ≡ gives 1 None false) × (border_work r work value ≡ work) × (border_value r work value ≡ value)
  unfolding border_answer border_work border_value
  no_value_unchanged h = let f = ne_eqb (length value) value_size h in (simp f, simp f, simp f)

  pub else_as_collected : length value ≡ value_size → (border_answer r work value ≡ answer_of r work) × (border_work r work value ≡ work_of r work)
  unfolding border_answer border_work
  else_as_collected h = let t = eq-eqb (length value) value_size h in (simp t, simp t)

  -- a refusal leaves the value, and else its eight bytes are set
  pub refused_value_unchanged : ((border_answer r work value).number ≡ 0 → ⊥) → border_value r work value ≡ value
  unfolding border_value
  refused_value_unchanged h = simp (ne_eqb (border_answer r work value).number 0 h)

  pub value_set : (border_answer r work value).number ≡ 0 → border_value r work value ≡ value_bytes (border_answer r work value).value
  unfolding border_value
  value_set h = simp (eq-eqb (border_answer r work value).number 0 h)

-- the place of every guest's value fits two bytes, as `sds_value_bytes` puts them together
pub place_back : (guest object id n : ℕ) → guest ≤ most_address
    → (let place = place_of (Complete guest object id n) in place % 256 + 256 * (place / 256 % 256) ≡ place)
place_back guest object id n h = omega arith
