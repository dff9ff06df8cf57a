-- DEMAND 2. "Frames are read and written as the SDS application layer specification lays them out; attributes are read, written and sized by it and the
-- component model. Reading what we wrote gives the message; writing what we read gives the frame with its unused bytes cleared."
-- The layout is said by the definitions of `codec` (000's figures) and `table` (001, section 5), and what is promised of them alone stands in
-- proofs/Demand2. Here stands what is promised of any device: that a frame which no check refuses is served as 01 says, that the count is tied to the
-- frames put, and that an error frame says why.
use Rattle.std.specs.Prelude.{ℕ, ◌*◌, ◌≤◌, ◌≡◌, ◌≢◌, Bool, true, false, cond, List, [], ◌∷◌, length, get_or, take, drop, Some, Ok}
use Rattle.laws.specs.Checks.{holds_at}
use Rattle.octets.specs.declared.Data.{Data}
use Rattle.octets.specs.Data.{data_of, bytes_of}
use Rattle.codec.specs.declared.Subject.{Subject}
use Rattle.codec.specs.declared.Message.TheVariants.{Short, Plain, Fragment}
use Rattle.codec.specs.Names.{write_off, write_on, write_off_ack, write_on_ack, write_service, read_service, erroneous}
use Rattle.codec.specs.Fields.{header_of}
use Rattle.codec.specs.Reading.{read_of}
use Rattle.codec.specs.Writing.{image_of}
use Rattle.table.specs.declared.Attribute.{Attribute}
use Rattle.table.specs.Table.{writable, find, first_network, single_boolean, part_of}
use Rattle.join.specs.Work.{Joined, lost}
use Rattle.join.specs.History.{Shaped}
use Rattle.guest.specs.Checks.{joiner, piece_of}
use Rattle.guest.specs.Errors.{error_codes, entries_of}
use Rattle.guest.specs.Step.{plain, short, Effect, show, write, join_effect, joined_in, answering, answer, flat, Call, setting_of, Outcome, outcome_of}
use Rattle.guest.specs.Frames.{Tens}
use Rattle.demands.specs.Demand1.{Device, checks_of}

-- the frames that 01 answers a call with
abbrev pub frames_for : Call → List (List ℕ)
frames_for c = (answer (setting_of c) c.frame c.given).frames

-- they stand at the front of the output as 10-byte records, as many as the count says, and the rest of the output is the caller's
pub record Sent (c : Call) (o : Outcome) : Type 0 where
  pub ten_each : Tens (frames_for c)
  pub counted : o.count ≡ length (frames_for c)
  pub most : o.count ≤ 64
  pub front : take (10 * o.count) o.out ≡ flat (frames_for c)
  pub rest : drop (10 * o.count) o.out ≡ drop (10 * o.count) c.out

-- the attribute of the table that a call's frame names
abbrev pub Names : Call → Attribute → Type 0
Names c a = find c.table (header_of c.frame).object (header_of c.frame).id ≡ Some a

-- what an effect leaves of a call
abbrev pub left_by : Effect → Call → Outcome
left_by e c = outcome_of c.own (header_of c.frame) e c.given c.out

-- a Read: the attribute's bytes, all of them, are answered, and nothing alters
pub record ServedRead (c : Call) (o : Outcome) : Type 0 where
  pub attribute : Attribute
  pub asked : (header_of c.frame).service ≡ read_service
  pub named : Names c attribute
  pub whole : length (part_of attribute c.given.store) ≡ attribute.len
  pub leaves : o ≡ left_by (show attribute) c

-- a plain Write: "those L bytes alter, one Successful frame, DLC 2. It doesn't touch the work area". The bytes are the frame's
pub record ServedWrite (c : Call) (o : Outcome) : Type 0 where
  pub attribute : Attribute
  pub about : Subject
  pub body : Data
  pub asked : (header_of c.frame).service ≡ write_service
  pub says : read_of c.frame ≡ Ok (Plain about body)
  pub named : Names c attribute
  pub whole : length (bytes_of body) ≡ attribute.len
  pub leaves : o ≡ left_by (write attribute (bytes_of body) plain) c

-- a fragment of a Write: kept in the work area with no frame, or completing its message
pub record ServedFragment (c : Call) (o : Outcome) : Type 0 where
  pub attribute : Attribute
  pub about : Subject
  pub number : ℕ
  pub total : ℕ
  pub body : Data
  pub asked : (header_of c.frame).service ≡ write_service
  pub says : read_of c.frame ≡ Ok (Fragment about number total body)
  pub named : Names c attribute
  pub shaped : Shaped joiner (piece_of attribute.id number total body)
  pub whole : total ≡ attribute.len
  pub joins : Joined
  pub joined_so : joined_in c.given.work attribute (piece_of attribute.id number total body) ≡ joins
  pub in_order : joins ≢ lost
  pub leaves : o ≡ left_by (join_effect attribute (piece_of attribute.id number total body) joins) c

-- a short Write (02, 2026-01): "sets the first network record of object 0 to 1 or 0 .. and gets 000's short acknowledge of that Write". One byte of the
-- store alters, and nothing of the work area
pub record ServedShort (c : Call) (o : Outcome) : Type 0 where
  pub attribute : Attribute
  pub on : Bool
  pub says : read_of c.frame ≡ Ok (Short 0 c.own (cond on write_on write_off))
  pub first : first_network c.table 0 ≡ Some attribute
  pub single : single_boolean attribute ≡ true
  pub may : writable attribute ≡ true
  pub takes : get_or o.left.store attribute.offset 0 ≡ cond on 1 0
  pub others : (i : ℕ) → i ≢ attribute.offset → get_or o.left.store i 0 ≡ get_or c.given.store i 0
  pub same_work : o.left.work ≡ c.given.work
  pub acknowledged : frames_for c ≡ image_of (Short 1 c.own (cond on write_on_ack write_off_ack)) ∷ []
  pub leaves : o ≡ left_by (write attribute (cond on 1 0 ∷ []) short) c

pub data Served (c : Call) (o : Outcome) : Type 0 where
  switched : ServedShort c o → Served c o
  read : ServedRead c o → Served c o
  written : ServedWrite c o → Served c o
  fragment : ServedFragment c o → Served c o

-- an error frame says why (02, 2026-06): it reads as Error, flag clear, with one byte of data, the code of the only entry that the table has for the refusal
pub record SaysWhy (c : Call) (o : Outcome) : Type 0 where
  pub code : ℕ
  pub entry : entries_of o.number error_codes ≡ (o.number, code) ∷ []
  pub says : read_of (take 10 o.out) ≡ Ok (Plain (answering c.own (header_of c.frame) erroneous) (data_of (code ∷ [])))

pub record Demand2 (D : Device) : Type 0 where
  pub sends : (c : Call) → Sent c (D c)
  pub serves : (c : Call) → ((n : ℕ) → holds_at (checks_of c) n ≡ false) → Served c (D c)
  pub says_why : (c : Call) → 7 ≤ (D c).number → SaysWhy c (D c)
