-- WHAT THE CRATE PROMISES of lines and records: which lines are imported and to what, what is refused, the way there and back, and lines of a text.
use Prim.Native.Nat.{ℕ, suc, ◌+◌, ◌-◌, ◌<◌, ◌≤◌}
use mathlib.Core.Path.{◌≡◌, refl, sym, ap, ◌∙◌}
use mathlib.Core.Bool.{false}
use mathlib.Core.List.{List, [], ◌∷◌, ◌++◌}
use mathlib.Core.Logic.{◌↔◌}
use native.Mathlib.Omega.{arith}
use lib.ListN.{length, take, drop, replicate}
use lib.Seq.{take_at, take_all, length-take-le}
use lib.Dec.{eqb, ltb}
use borrow.Author.Tests.{eqb-true, eqb-false, eq-eqb, ne_eqb, ltb-true, ltb-false, le-ltb}
use Rattle.laws.specs.Bytes.{Bytes}
use Rattle.laws.specs.Checks.{first_of, holds_at, FirstAt}
use Rattle.laws.proofs.Tests.{split}
use Rattle.laws.proofs.Bytes.{length_padded}
use Rattle.laws.proofs.Checks.{given_exactly, none_holds, first_most}
use Rattle.codec.specs.Names.{frame_size, most_dlc}
use Rattle.codec.specs.Fields.{can_of}
use Rattle.candump.specs.Text.{line_feed, index_of, up_to, behind}
use Rattle.candump.specs.Lines.{in_front, lines_of}
use Rattle.candump.specs.Frame.{unused_cleared}
use Rattle.candump.specs.Importing.{most_line, import_checks, not_imported, imported, import_of}
use Rattle.candump.specs.Grammar.{Line}
use Rattle.candump.specs.Exporting.{line_room, line_of, export_checks, not_exported, exported, export_of, put_checks, put_of, put_left}
use Rattle.candump.proofs.Parts.{too_long, record_size}
use Rattle.candump.proofs.Texts.{line_most}
use Rattle.candump.proofs.Grammar.{line_imported, imported_line}
use Rattle.candump.proofs.Trips.{record_line}
use Rattle.candump.proofs.Answering.{import_answer_one, export_answer_one, put_answer_one}
use Rattle.candump.proofs.text.place_of.Reads as place_of
use Rattle.candump.proofs.importing.import_line.Reads as import-line
use Rattle.candump.proofs.exporting.export_record.Reads as export-record
use Rattle.candump.proofs.exporting.put_line.Reads as put-line
use Rattle.candump.proofs.exporting.Line.text.Reads as line-text
use Rattle.candump.proofs.errors.ImportError.number.Reads as import-error-number
use Rattle.candump.proofs.errors.ExportError.number.Reads as export-error-number

-- ---- which lines are imported, and to what

-- a line is imported to a record exactly when it is one of the grammar that stands for it
pub imported_exactly : (l r : List ℕ) → (import_of l ≡ imported 0 r) ↔ Line l r
imported_exactly l r = (imported_line l r, line_imported)

-- ---- refusals: a number is given exactly when its condition holds and no earlier one's does

pub import_number : (l : List ℕ) → (import_of l).number ≡ first_of (import_checks l)
unfolding import_of
import_number l = split (eqb (first_of (import_checks l)) 0) (λ t. simp t) (λ f. simp f)

pub export_number : (r : List ℕ) → (export_of r).number ≡ first_of (export_checks r)
unfolding export_of
export_number r = split (eqb (first_of (export_checks r)) 0) (λ t. simp t) (λ f. simp f)

pub import_refuses_exactly : (l : List ℕ) (n : ℕ) → 0 < n → ((import_of l).number ≡ n) ↔ FirstAt (import_checks l) n
import_refuses_exactly l n h = rw (import_number l) (given_exactly (import_checks l) refl n h)

pub imports_exactly : (l : List ℕ) → ((import_of l).number ≡ 0) ↔ ((n : ℕ) → holds_at (import_checks l) n ≡ false)
imports_exactly l = rw (import_number l) (none_holds (import_checks l) refl)

pub export_refuses_exactly : (r : List ℕ) (n : ℕ) → 0 < n → ((export_of r).number ≡ n) ↔ FirstAt (export_checks r) n
export_refuses_exactly r n h = rw (export_number r) (given_exactly (export_checks r) refl n h)

pub exports_exactly : (r : List ℕ) → ((export_of r).number ≡ 0) ↔ ((n : ℕ) → holds_at (export_checks r) n ≡ false)
exports_exactly r = rw (export_number r) (none_holds (export_checks r) refl)

-- and with a refusal there is no record and no line
pub refused_empty : (l : List ℕ) → ((import_of l).number ≡ 0 → ⊥) → import_of l ≡ not_imported (import_of l).number
unfolding import_of
refused_empty l h =
    split (eqb (first_of (import_checks l)) 0)
    (λ t. absurd (h (import_number l ∙ eqb-true (first_of (import_checks l)) 0 t)))
    (λ f. simp f)

pub unexported_empty : (r : List ℕ) → ((export_of r).number ≡ 0 → ⊥) → export_of r ≡ not_exported (export_of r).number
unfolding export_of
unexported_empty r h =
    split (eqb (first_of (export_checks r)) 0)
    (λ t. absurd (h (export_number r ∙ eqb-true (first_of (export_checks r)) 0 t)))
    (λ f. simp f)

-- ten bytes, whatever was imported

pub import_size : (l : List ℕ) → length (import_of l).frame ≡ frame_size
unfolding import_of
import_size l =
    split (eqb (first_of (import_checks l)) 0)
    (λ t. simp t (record_size l (eqb-true (first_of (import_checks l)) 0 t)))
    (λ f. simp f)

-- ---- there and back

-- what is exported of a record of ten bytes with a DLC up to 8
pub exported_line : (r : List ℕ) → length r ≡ frame_size → (can_of r).dlc ≤ most_dlc → export_of r ≡ exported 0 (line_of r)
unfolding export_of
exported_line r ten h = simp (eq-eqb (length r) frame_size ten, le-ltb most_dlc (can_of r).dlc h)

-- and of any that is exported
pub export_leaves : (r : List ℕ) → (export_of r).number ≡ 0 → export_of r ≡ exported 0 (line_of r)
unfolding export_of
export_leaves r e = simp (sym (export_number r) ∙ e)

-- so a line has room in its 36 bytes
pub export_sizes : (r : List ℕ) → ((export_of r).len ≤ line_room) × (length (export_of r).line ≡ line_room)
unfolding holds_at
export_sizes r =
    split (eqb (export_of r).number 0)
    (λ t.
    let z = eqb-true (export_of r).number 0 t in
    let most = line_most r (ltb-false most_dlc (can_of r).dlc ((exports_exactly r).0 z 2)) in
    rw (export_leaves r z) (most, length_padded line_room (line_of r) most))
    (λ f. rw (unexported_empty r (eqb-false (export_of r).number 0 f)) (omega arith, refl))

-- ---- into a buffer: refused exactly, with room for each line that is put, and unchanged on a refusal

pub put_refuses_exactly : (r b : List ℕ) (n : ℕ) → 0 < n → ((put_of r b).number ≡ n) ↔ FirstAt (put_checks r b) n
unfolding put_of
put_refuses_exactly r b n h = given_exactly (put_checks r b) refl n h

pub refused_buffer_unchanged : (r b : List ℕ) → ((put_of r b).number ≡ 0 → ⊥) → put_left r b ≡ b
unfolding put_of put_left
refused_buffer_unchanged r b h = simp (ne_eqb (first_of (put_checks r b)) 0 h)

pub put_small : (r b : List ℕ) → ((put_of r b).number ≤ 3) × ((put_of r b).len ≤ line_room)
unfolding put_of holds_at
put_small r b =
    let n = first_of (put_checks r b) in
    split (eqb n 0)
    (λ t.
    let passed = (none_holds (put_checks r b) refl).0 (eqb-true n 0 t) in
    simp t (first_most 3 (put_checks r b) refl, line_most r (ltb-false most_dlc (can_of r).dlc (passed 2))))
    (λ f. simp f (first_most 3 (put_checks r b) refl, omega arith))

-- what is put where there is room: the line, and nothing behind it alters
pub put_leaves : (r b : List ℕ) → length r ≡ frame_size → (can_of r).dlc ≤ most_dlc → line_room ≤ length b
    → ((put_of r b).number ≡ 0) × ((put_of r b).len ≡ length (line_of r)) × (put_left r b ≡ line_of r ++ drop (length (line_of r)) b)
unfolding put_of put_left
put_leaves r b ten few room =
    let a = eq-eqb (length r) frame_size ten in
    let c = le-ltb most_dlc (can_of r).dlc few in
    let d = le-ltb (length b) line_room room in
    (simp (a, c, d), simp (a, c, d), simp (a, c, d))

-- THE ROUND TRIP: importing an export gives the record with its unused bytes (all eight under RTR) cleared
module _ (r : List ℕ) (b : Bytes r) (ten : length r ≡ frame_size) (few : (can_of r).dlc ≤ most_dlc) where
  pub line_back : import_of (line_of r) ≡ imported 0 (unused_cleared r)
  line_back = line_imported (record_line r ten b few)

  pub export_imported : import_of (take (export_of r).len (export_of r).line) ≡ imported 0 (unused_cleared r)
  export_imported =
      let l = line_of r in
      let cut : take (export_of r).len (export_of r).line ≡ l = rw (exported_line r ten few) (take_at l (replicate (line_room - length l) 0) (length l) refl) in
      rw cut line_back

-- ---- lines

-- the first line of a text stands up to its first line feed, and the others are the lines behind that
pub first_line : (t : List ℕ) → 0 < length t → lines_of t ≡ up_to line_feed t ∷ lines_of (behind line_feed t)
unfolding lines_of index_of
first_line [] h = absurd (omega arith)
first_line (b ∷ []) h = split (eqb b line_feed) (λ t. simp t) (λ f. simp f)
first_line (b ∷ x ∷ t) h =
    let k = index_of line_feed (x ∷ t) in
    let q : suc k + 1 ≡ suc (k + 1) = omega arith in
    split (eqb b line_feed) (λ e. simp e) (λ f. simp f (rw q (ap (in_front b) (first_line (x ∷ t) (omega arith)))))

-- of a line over 128 bytes, its first 129 say all that is looked at: so no more of it need be held
pub long_cut : (n : ℕ) (l : List ℕ) → most_line < n → import_of (take n l) ≡ import_of l
long_cut n l h =
    split (ltb (length l) n)
    (λ t. ap import_of (take_all n l (omega (arith, ltb-true (length l) n t))))
    (λ f.
    let long = ltb-false (length l) n f in
    let m : length (take n l) ≡ n = length-take-le n l long in
    sym (too_long (take n l) (omega arith)) ∙ too_long l (omega arith))

-- ---- determination: two outcomes that meet a function's contract are equal

pub place_determined : (κs : _) (args : _) (r r' : _) (s s' : _) → place_of.Post κs args r s → place_of.Post κs args r' s' → r ≡ r'
place_determined κs args r r' s s' p q = p ∙ sym q

pub import_determined : (κs : _) (args : _) (r r' : _) (s s' : _) → import-line.Post κs args r s → import-line.Post κs args r' s' → r ≡ r'
import_determined κs args r r' s s' p q = import_answer_one r r' (p ∙ sym q)

pub export_determined : (κs : _) (args : _) (r r' : _) (s s' : _) → export-record.Post κs args r s → export-record.Post κs args r' s' → r ≡ r'
export_determined κs args r r' s s' p q = export_answer_one r r' (p ∙ sym q)

pub put_determined : (κs : _) (args : _) (r r' : _) (s s' : _) → put-line.Post κs args r s → put-line.Post κs args r' s'
    → (r ≡ r') × (s.1.0.now ≡ s'.1.0.now)
put_determined κs args r r' s s' p q = (put_answer_one r r' (p.0 ∙ sym q.0), p.1 ∙ sym q.1)

pub text_determined : (κs : _) (args : _) (r r' : _) (s s' : _) → line-text.Post κs args r s → line-text.Post κs args r' s' → r.now ≡ r'.now
text_determined κs args r r' s s' p q = p ∙ sym q

pub import_number_determined : (κs : _) (args : _) (r r' : _) (s s' : _) → import-error-number.Post κs args r s → import-error-number.Post κs args r' s' → r ≡ r'
import_number_determined κs args r r' s s' p q = p ∙ sym q

pub export_number_determined : (κs : _) (args : _) (r r' : _) (s s' : _) → export-error-number.Post κs args r s → export-error-number.Post κs args r' s' → r ≡ r'
export_number_determined κs args r r' s s' p q = p ∙ sym q

-- ---- nothing is asked of a caller

pub place_asks_nothing : (κs : _) (args : _) → place_of.Asked κs args
place_asks_nothing κs args = tt

pub import_asks_nothing : (κs : _) (args : _) → import-line.Asked κs args
import_asks_nothing κs args = tt

pub export_asks_nothing : (κs : _) (args : _) → export-record.Asked κs args
export_asks_nothing κs args = tt

pub put_asks_nothing : (κs : _) (args : _) → put-line.Asked κs args
put_asks_nothing κs args = tt

pub text_asks_nothing : (κs : _) (args : _) → line-text.Asked κs args
text_asks_nothing κs args = tt

pub import_number_asks_nothing : (κs : _) (args : _) → import-error-number.Asked κs args
import_number_asks_nothing κs args = tt

pub export_number_asks_nothing : (κs : _) (args : _) → export-error-number.Asked κs args
export_number_asks_nothing κs args = tt
