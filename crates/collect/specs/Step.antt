-- One frame into the collector: what is handed over, what the work area holds then, and whether a half-joined message was lost (02, 2026-07).
-- what is handed over, if anything, is Rust's `Option`, here by the name `Handed`, beside the one of terms, which says whose
use Rattle.std.specs.Prelude.{ℕ, ◌+◌, Bool, false, cond, ◌&&◌, List, [], length, take, drop, eqb, leb, Option as Handed, Some, None}
use Rattle.std.proofs.Math.Option.{Option, none, some}
use Rattle.laws.specs.Checks.{first_of}
use Rattle.codec.specs.declared.Subject.{Subject}
use Rattle.codec.specs.declared.Message.{Message}
use Rattle.codec.specs.declared.Message.TheVariants.{Short, Plain, Fragment}
use Rattle.codec.specs.Names.{payload_place}
use Rattle.codec.specs.Reading.{message_of}
use Rattle.join.specs.Work.{head_size, base, Piece, load, filling, Joined, kept, done, lost, joined, area_after}
use Rattle.collect.specs.declared.Value.{Value}
use Rattle.collect.specs.declared.Place.{Place}
use Rattle.collect.specs.declared.Place.TheVariants.{Frame, Work}
use Rattle.collect.specs.Checks.{joiner, piece_of, frame_checks}

-- ---- what is judged of a frame, without state

pub data Judged : Type 0 where
  -- refused with 1 to 3
  nobodys : ℕ → Judged
  -- from this guest, and refused with 4 or 5
  spoilt : ℕ → ℕ → Judged
  -- an answer in one frame, of so many bytes
  whole : Subject → ℕ → Judged
  -- a fragment of an answer
  piece : Subject → Piece → Judged

-- a frame that passes 1 to 5 (one in short form does not: 3)
abbrev pub passing : Message → Judged
passing (Short dir address service) = nobodys 3
passing (Plain u b) = whole u b.len
passing (Fragment u number total b) = piece u (piece_of u number total b)

-- the guest that a message is from, or to
abbrev pub guest_of : Message → ℕ
guest_of (Short dir address service) = address
guest_of (Plain u b) = u.address
guest_of (Fragment u number total b) = u.address

abbrev pub refused : ℕ → ℕ → Judged
refused n guest = cond (leb n 3) (nobodys n) (spoilt guest n)

unfoldable pub judged_of : ℕ → List ℕ → Judged
judged_of size r =
    cond (eqb (first_of (frame_checks size r)) 0) (passing (message_of r)) (refused (first_of (frame_checks size r)) (guest_of (message_of r)))

-- whose a frame is: that of the guest which sent it; one that is refused with 1 to 3 is nobody's
abbrev pub owner : Judged → Option ℕ
owner (nobodys n) = none
owner (spoilt guest n) = some guest
owner (whole u n) = some u.address
owner (piece u p) = some u.address

-- ---- what is answered: a number, what is handed over if anything, and whether a filling record was lost

pub record Answer : Type 0 where
  pub number : ℕ
  pub value : Handed Value
  pub dropped : Bool

-- a whole answer is a part of its frame, a joined one a part of the work area
abbrev pub Whole : (guest object id n : ℕ) → Handed Value
Whole guest object id n = Some (record { guest = guest; object = object; id = id; len = n; place = Frame })

abbrev pub Complete : (guest object id n : ℕ) → Handed Value
Complete guest object id n = Some (record { guest = guest; object = object; id = id; len = n; place = Work })

abbrev pub gives : ℕ → Handed Value → Bool → Answer
gives number value dropped = record { number = number; value = value; dropped = dropped }

-- what a fragment brings about, by what the joiner says to it
abbrev pub join_number : Joined → ℕ
join_number kept = 0
join_number (done bs) = 0
join_number lost = 6

-- "hands over each complete value with guest, object and ID"
abbrev pub join_value : Subject → Piece → Joined → Handed Value
join_value u p kept = None
join_value u p (done bs) = Complete u.address u.object u.id p.total
join_value u p lost = None

-- "each filling record lost, to a new number 0 too"
abbrev pub loses : Bool → Piece → Joined → Bool
loses filled p kept = filled && eqb p.number 0
loses filled p (done bs) = filled && eqb p.number 0
loses filled p lost = filled

abbrev pub join_answer : Bool → Subject → Piece → Joined → Answer
join_answer filled u p x = gives (join_number x) (join_value u p x) (loses filled p x)

-- the record of the guest that a fragment is from: whether it is filling, and what the joiner says
unfoldable pub filling_in : List ℕ → ℕ → Bool
filling_in work guest = filling joiner (load joiner (base guest) work)

unfoldable pub joined_in : List ℕ → ℕ → Piece → Joined
joined_in work guest p = joined joiner p (load joiner (base guest) work)

-- "A whole frame is handed over at once"
unfoldable pub answer_to : Judged → List ℕ → Answer
answer_to (nobodys n) work = gives n None false
answer_to (spoilt guest n) work = gives n None false
answer_to (whole u n) work = gives 0 (Whole u.address u.object u.id n) false
answer_to (piece u p) work = join_answer (filling_in work u.address) u p (joined_in work u.address p)

-- "and doesn't disturb a filling record"
unfoldable pub work_after : Judged → List ℕ → List ℕ
work_after (nobodys n) work = work
work_after (spoilt guest n) work = work
work_after (whole u n) work = work
work_after (piece u p) work = area_after joiner (base u.address) p (joined_in work u.address p) work

-- ---- one call, of any frame and any work area

abbrev pub answer_of : List ℕ → List ℕ → Answer
answer_of r work = answer_to (judged_of (length work) r) work

abbrev pub work_of : List ℕ → List ℕ → List ℕ
work_of r work = work_after (judged_of (length work) r) work

-- ---- the bytes that are handed over

-- n bytes from a place on; none where they would run past the end
abbrev pub cut : ℕ → ℕ → List ℕ → List ℕ
cut at n l = cond (leb (at + n) (length l)) (take n (drop at l)) []

-- where a value begins: a whole one behind the ID of its frame, a joined one where the data of its guest's record do
abbrev pub place_by : Place → ℕ → ℕ
place_by Frame guest = payload_place
place_by Work guest = base guest + head_size

abbrev pub place_of : Handed Value → ℕ
place_of None = 0
place_of (Some v) = place_by v.place v.guest

-- the area that it is a part of
abbrev pub area_of : Place → List ℕ → List ℕ → List ℕ
area_of Frame r work = r
area_of Work r work = work

-- "A joined value is shown as a part of the work area, a whole one as a part of the frame"
unfoldable pub part_of : Handed Value → List ℕ → List ℕ → List ℕ
part_of None r work = []
part_of (Some v) r work = cut (place_of (Some v)) v.len (area_of v.place r work)
