-- WHAT THE BORDER PROMISES of messages and records, of what is refused, and of both round trips.
use Prim.Native.Nat.{ℕ, ◌<◌, ◌≤◌}
use mathlib.Core.Path.{◌≡◌, refl, sym, ap, ◌∙◌}
use mathlib.Core.Bool.{true, false, not, ◌&&◌, and-eq-true_iff, or-true}
use mathlib.Mathlib.Data.Bool.Basic.{or-eq-false-eq-eq-false-and-eq-false as neither}
use mathlib.Core.List.{List, ◌∷◌}
use mathlib.Core.Logic.{◌↔◌}
use native.Mathlib.Omega.{arith}
use lib.ListN.{length, drop}
use lib.Dec.{eqb, ltb}
use borrow.Author.Tests.{eqb-true, eq-eqb, ne_eqb, le-ltb, not-false}
use Rattle.laws.specs.Bytes.{Bytes}
use Rattle.laws.specs.Checks.{Check, first_of, holds_at, FirstAt}
use Rattle.laws.proofs.Tests.{split, clash}
use Rattle.laws.proofs.Checks.{above, given_exactly, none_holds}
use Rattle.octets.specs.declared.Data.{Data}
use Rattle.octets.specs.Data.{data_of}
use Rattle.std.specs.Prelude.{Result, Ok, Err}
use Rattle.octets.proofs.Datas.{same_data, six_whole}
use Rattle.codec.specs.declared.Subject.{Subject}
use Rattle.codec.specs.declared.Message.{Message}
use Rattle.codec.specs.declared.Message.TheVariants.{Short, Plain, Fragment}
use Rattle.codec.specs.Names.{frame_size, most_address}
use Rattle.codec.specs.Fields.{header_of}
use Rattle.codec.specs.Reading.{header_checks, read_checks, message_of, read_of, number_of}
use Rattle.codec.specs.Writing.{carried, image_of, cleared_of}
use Rattle.codec.proofs.Trips.{written_read, read_written, read_is_carried}
use Rattle.codec.proofs.Promises as codec
use Rattle.table.specs.Table.{lengths_fit, well_formed}
use Rattle.join.specs.Work.{area_size}
use Rattle.guest.specs.Checks.{least_out, checks}
use Rattle.guest.specs.Step.{Call, setting_of, outcome_of, step_of}
use Rattle.guest.proofs.Numbers.{number_is}
use Rattle.sds.specs.Border.{message_size, long_bytes, message_bytes, record_message, subject_at, data_at, message_at, bordered, missized, answered_in, border_read_number, border_read, border_write_checks, border_write_number, border_write, table_checks}
use Rattle.sds.proofs.Places.{bordered_back, put_is_message}

-- ---- the 16 bytes of a message

data_back : (kind : ℕ) (u : Subject) (number total : ℕ) (b : Data) → data_at (long_bytes kind u number total b) ≡ b
unfolding long_bytes data_at
data_back kind u number total b = same_data (data_at (long_bytes kind u number total b)) b refl (six_whole b.places b.six)

pub message_back : (m : Message) → message_at (message_bytes m) ≡ m
unfolding message_at message_bytes long_bytes subject_at data_at
message_back (Short d a s) = refl
message_back (Plain u b) = ap (Plain u) (data_back 1 u 0 0 b)
message_back (Fragment u n k b) = ap (Fragment u n k) (data_back 2 u n k b)

pub message_size_lem : (m : Message) → length (message_bytes m) ≡ message_size
unfolding message_bytes long_bytes
message_size_lem (Short d a s) = refl
message_size_lem (Plain u b) = refl
message_size_lem (Fragment u n k b) = refl

-- exactly the bytes of messages are taken: another kind, or an unused place that is not 0, is in none of them
is_bordered : (m : Message) → bordered (message_bytes m) ≡ true
unfolding bordered message_bytes long_bytes data_of
is_bordered (Short d a s) = refl
is_bordered (Plain u b) = refl
is_bordered (Fragment u n k b) = refl

pub bordered_exactly : (l : List ℕ) → length l ≡ message_size → (bordered l ≡ true) ↔ ((m : Message) × (message_bytes m ≡ l))
bordered_exactly l n = (λ e. (message_at l, bordered_back l n e), λ x. rw (← x.1) (is_bordered x.0))

-- ---- refusals: a number is given exactly when its condition holds and no earlier one's does

abbrev pub border_read_checks : List ℕ → List ℕ → List Check
border_read_checks r l = (missized l r, 1) ∷ header_checks (header_of r)

pub read_refuses_exactly : (r l : List ℕ) (n : ℕ) → 0 < n → (border_read_number r l ≡ n) ↔ FirstAt (border_read_checks r l) n
unfolding border_read_number
read_refuses_exactly r l n h =
    split (eqb (length l) 16)
    (λ t. simp t (codec.read_refuses_exactly r n h))
    (λ f. simp f (given_exactly ((true, 1) ∷ header_checks (header_of r)) refl n h))

pub write_refuses_exactly : (l r : List ℕ) (n : ℕ) → 0 < n → (border_write_number l r ≡ n) ↔ FirstAt (border_write_checks l r) n
unfolding border_write_number
write_refuses_exactly l r n h = given_exactly (border_write_checks l r) refl n h

pub table_refused_exactly : (t : List ℕ) (size n : ℕ) → 0 < n → (first_of (table_checks t size) ≡ n) ↔ FirstAt (table_checks t size) n
table_refused_exactly t size n h = given_exactly (table_checks t size) refl n h

-- ---- what is refused stays as it was

unanswered : (a : Result Message ℕ) (l : List ℕ) → (number_of a ≡ 0 → ⊥) → answered_in a l ≡ l
unanswered (Ok m) l h = absurd (h refl)
unanswered (Err n) l h = refl

pub refused_message_unchanged : (r l : List ℕ) → (border_read_number r l ≡ 0 → ⊥) → border_read r l ≡ l
unfolding border_read_number border_read
refused_message_unchanged r l h =
    split (eqb (length l) 16) (λ t. simp t (unanswered (read_of r) l (λ e. h (simp t e)))) (λ f. simp f)

pub refused_record_unchanged : (l r : List ℕ) → (border_write_number l r ≡ 0 → ⊥) → border_write l r ≡ r
unfolding border_write
refused_record_unchanged l r h = simp (ne_eqb (border_write_number l r) 0 h)

-- ---- what a call that is not refused leaves

-- the codec's number is 0 for a message only
is_read : (r : List ℕ) → number_of (read_of r) ≡ 0 → read_of r ≡ Ok (message_of r)
unfolding read_of
is_read r e = simp (eq-eqb (first_of (read_checks r)) 0 ((none_holds (read_checks r) refl).1 ((codec.reads_exactly r).0 e)))

pub read_leaves : (r l : List ℕ) → border_read_number r l ≡ 0 → (read_of r ≡ Ok (message_of r)) × (border_read r l ≡ message_bytes (message_of r))
unfolding border_read_number border_read
read_leaves r l e =
    split (eqb (length l) 16)
    (λ t. let g = is_read r (simp t at e) in (g, simp (t, g)))
    (λ f. let z : ◌≡◌ {A = ℕ} 1 0 = simp f at e in absurd (omega arith))

-- and these are what the record's own places say
pub read_leaves_places : (r l : List ℕ) → border_read_number r l ≡ 0 → border_read r l ≡ record_message r
unfolding border_read_number
read_leaves_places r l e =
    split (eqb (length l) 16)
    (λ t. (read_leaves r l e).1 ∙ sym (put_is_message r ((none_holds (read_checks r) refl).1 ((codec.reads_exactly r).0 (simp t at e)))))
    (λ f. let z : ◌≡◌ {A = ℕ} 1 0 = simp f at e in absurd (omega arith))

pub write_leaves : (l r : List ℕ) → border_write_number l r ≡ 0
    → (message_bytes (message_at l) ≡ l) × (carried (message_at l) ≡ true) × (border_write l r ≡ image_of (message_at l))
unfolding border_write_number border_write holds_at
write_leaves l r e =
    let none = (none_holds (border_write_checks l r) refl).0 e in
    let a = (and-eq-true_iff (bordered l) (carried (message_at l))).0 (not-false _ (none 3)) in
    let n = eqb-true (length l) 16 (not-false _ ((neither (not (eqb (length l) 16)) (not (eqb (length r) 10))).0 (none 1)).0) in
    (bordered_back l n a.0, a.1, simp (eq-eqb (border_write_number l r) 0 e))

-- ---- the round trips (demand 2), of the bytes that C holds

-- a message that a readable frame carries is written as that frame
writes_bytes : (m : Message) (r : List ℕ) → length r ≡ 10 → carried m ≡ true
    → (border_write_number (message_bytes m) r ≡ 0) × (border_write (message_bytes m) r ≡ image_of m)
unfolding border_write_number border_write
writes_bytes m r n e =
    let z = eq-eqb (length (message_bytes m)) 16 (message_size_lem m) in
    let t = eq-eqb (length r) 10 n in
    let b = is_bordered m in
    let k = message_back m in
    (simp (z, t, b, k, e), simp (z, t, b, k, e))

-- writing what was read gives the record, with its unused bytes cleared
pub read_is_written : (r l : List ℕ) → Bytes r → border_read_number r l ≡ 0 → (s : List ℕ) → length s ≡ 10
    → (border_write_number (border_read r l) s ≡ 0) × (border_write (border_read r l) s ≡ cleared_of r)
read_is_written r l b e s n =
    let g = read_leaves r l e in
    let w = writes_bytes (message_of r) s n (read_is_carried r (message_of r) g.0) in
    rw g.1 (w.0, w.1 ∙ read_written r (message_of r) b g.0)

-- reading what was written gives the message's bytes back
pub written_is_read : (l r : List ℕ) → border_write_number l r ≡ 0 → (k : List ℕ) → length k ≡ message_size
    → (border_read_number (border_write l r) k ≡ 0) × (border_read (border_write l r) k ≡ l)
unfolding border_read_number border_read
written_is_read l r e k n =
    let w = write_leaves l r e in
    let z = eq-eqb (length k) 16 n in
    let g = written_read (message_at l) w.1 in
    (simp (w.2, z, g), simp (w.2, z, g) w.0)

-- a message is refused with 3 only if no record reads as it
pub refused_is_unread : (l s : List ℕ) → border_write_number l s ≡ 3 → (r : List ℕ) (m : Message) → read_of r ≡ Ok m → message_bytes m ≡ l → ⊥
unfolding holds_at
refused_is_unread l s e r m g i =
    let h = ((write_refuses_exactly l s 3 (omega arith)).0 e).0 in
    let b : bordered l ≡ true = rw (← i) (is_bordered m) in
    let k : message_at l ≡ m = rw (← i) (message_back m) in
    let f : not (bordered l && carried (message_at l)) ≡ false = simp (b, k, read_is_carried r m g) in
    clash h f

-- ---- a table and a store get from `sds_table_check` the 1 or 2 that they get from a step whose other buffers have accepted sizes

module _ (c : Call) (ten : length c.frame ≡ frame_size) (own : c.own ≤ most_address) (work : length c.given.work ≡ area_size)
    (out : least_out ≤ length c.out) where
  roomy : ltb (length c.out) least_out ≡ false
  roomy = le-ltb (length c.out) least_out out

  addressed : ltb most_address c.own ≡ false
  addressed = le-ltb most_address c.own own

  later : List Check
  later = drop 2 (checks (setting_of c) c.frame c.given.work)

  abbrev size : ℕ
  size = length c.given.store

  -- past checks 1 and 2 a step's number is above 2
  past_both : lengths_fit (length c.table) size ≡ true → well_formed c.table size ≡ true → first_of (checks (setting_of c) c.frame c.given.work) ≡ first_of later
  unfolding later
  past_both l w = simp (ten, work, roomy, addressed, l, w)

  unfit : lengths_fit (length c.table) size ≡ false → first_of (checks (setting_of c) c.frame c.given.work) ≡ 1
  unfit l = simp (l, or-true)

  late : 0 < first_of later → 2 < first_of later
  unfolding later
  late = above 2 later refl

  pub table_as_step : (n : ℕ) → 0 < n → n ≤ 2 → ((step_of c).number ≡ n) ↔ (first_of (table_checks c.table size) ≡ n)
  unfolding step_of outcome_of
  table_as_step n least most =
      rw (number_is (setting_of c) c.frame c.given)
      (split (lengths_fit (length c.table) size)
      (λ l. split (well_formed c.table size)
      (λ w.
      let none : first_of (table_checks c.table size) ≡ 0 = simp (l, w) in
      let first = past_both l w in
      (λ e. absurd (omega (arith, late (omega arith))), λ e. absurd (omega arith)))
      (λ w. simp (ten, work, roomy, addressed, l, w) (λ e. e, λ e. e)))
      (λ l.
      let one : first_of (table_checks c.table size) ≡ 1 = simp l in
      let first = unfit l in
      (λ e. omega arith, λ e. omega arith)))
