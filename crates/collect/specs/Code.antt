-- The refusals as the code groups them, of a frame that has passed 1 and 2.
use Rattle.std.specs.Prelude.{ℕ, ◌-◌, ◌≤◌, ◌≡◌, false, cond, List, [], ◌∷◌, length, drop, eqb, Option, None, Result, Ok, Err}
use Rattle.laws.specs.Bytes.{byte_at}
use Rattle.octets.specs.declared.Data.{Data}
use Rattle.octets.specs.Data.{most_data, data_of}
use Rattle.codec.specs.declared.Header.{Header}
use Rattle.codec.specs.declared.Subject.{Subject}
use Rattle.codec.specs.declared.Message.{Message}
use Rattle.codec.specs.declared.Message.TheVariants.{Short, Plain, Fragment}
use Rattle.codec.specs.Names.{most_address}
use Rattle.codec.specs.Reading.{subject_of}
use Rattle.join.specs.Work.{base, Piece, last, kept, done, area_after}
use Rattle.collect.specs.declared.Value.{Value}
use Rattle.collect.specs.declared.Refusal.{Refusal}
use Rattle.collect.specs.declared.Refusal.TheVariants.{Size, Malformed, NoAnswer, NoTotal, BadShape, OutOfOrder}
use Rattle.collect.specs.declared.Collected.{Collected}
use Rattle.collect.specs.Checks.{collect_size, answers_read, wrong_piece, joiner, piece_of}
use Rattle.collect.specs.Step.{Judged, nobodys, spoilt, whole, piece, Answer, Complete, gives}

-- 5 of an answer in one frame
unfoldable pub whole_judged : Subject → ℕ → Judged
whole_judged u n = cond (eqb n 0) (spoilt u.address 5) (whole u n)

-- 4 and 5 of a fragment
unfoldable pub fragment_judged : Subject → ℕ → ℕ → Data → Judged
fragment_judged u number total b =
    cond (eqb total 0) (spoilt u.address 4) (cond (wrong_piece total number b.len) (spoilt u.address 5) (piece u (piece_of u number total b)))

-- and 3 before them, by the form of the message
unfoldable pub message_judged : Message → Judged
message_judged (Short dir address service) = nobodys 3
message_judged (Plain u b) = cond (answers_read u) (whole_judged u b.len) (nobodys 3)
message_judged (Fragment u number total b) = cond (answers_read u) (fragment_judged u number total b) (nobodys 3)

-- a fragment of what stands behind its ID
abbrev pub payload_judged : Subject → List ℕ → Judged
payload_judged u p = fragment_judged u (byte_at p 0) (byte_at p 1) (data_of (drop 2 p))

-- all of it by the header
unfoldable pub header_judged : Header → List ℕ → Judged
header_judged h p =
    cond (eqb h.dlc 0) (nobodys 3)
    (cond (answers_read (subject_of h)) (cond (eqb h.flag 1) (payload_judged (subject_of h) p) (whole_judged (subject_of h) (h.dlc - 2))) (nobodys 3))

-- what joining needs: a work area of its size, and a guest that has a record there
pub record Placed (size guest : ℕ) : Type 0 where
  pub sized : size ≡ collect_size
  pub below : guest ≤ most_address

-- what stands behind a fragment's ID: its number and its total are there
pub record Numbered (len : ℕ) : Type 0 where
  pub least : 2 ≤ len
  pub most : len ≤ most_data

-- and a fragment of its shape, with the guest's key
pub record Ready (size : ℕ) (u : Subject) (p : Piece) : Type 0 where
  pub placed : Placed size u.address
  pub right : wrong_piece p.total p.number (length p.bytes) ≡ false
  pub keyed : p.key ≡ u.id ∷ u.object ∷ []

-- a fragment that is in order: what is handed over, and the work area
unfoldable pub taken_value : Subject → Piece → Option Value
taken_value u p = cond (last joiner p) (Complete u.address u.object u.id p.total) None

unfoldable pub taken_work : Subject → Piece → List ℕ → List ℕ
taken_work u p work = area_after joiner (base u.address) p (cond (last joiner p) (done []) kept) work

-- ---- the code's answer

-- 02's numbers of the code's refusals
abbrev pub refusal_number : Refusal → ℕ
refusal_number Size = 1
refusal_number Malformed = 2
refusal_number NoAnswer = 3
refusal_number NoTotal = 4
refusal_number BadShape = 5
refusal_number OutOfOrder = 6

-- its number, 0 where the frame is collected, and what is handed over
abbrev pub number_of : {A : Type 0} → Result A Refusal → ℕ
number_of (Ok v) = 0
number_of (Err e) = refusal_number e

abbrev pub value_of : Result (Option Value) Refusal → Option Value
value_of (Ok v) = v
value_of (Err e) = None

abbrev pub answered : Collected → Answer
answered c = gives (number_of c.outcome) (value_of c.outcome) c.dropped
