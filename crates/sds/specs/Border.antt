-- What C sees: a message as 16 bytes, and what each entry point answers.
use Rattle.std.specs.Prelude.{ℕ, ◌+◌, ◌*◌, Bool, cond, not, ◌&&◌, ◌||◌, List, [], ◌∷◌, length, drop, eqb, ltb, Result, Ok, Err, Option, Some, None, if◌then◌else◌}
use Rattle.std.proofs.Math.Path.{refl}
use Rattle.laws.specs.Bytes.{byte_at, zeros}
use Rattle.laws.specs.Checks.{Check, first_of}
use Rattle.octets.specs.declared.Data.{Data}
use Rattle.octets.specs.Data.{data_of, places_of}
use Rattle.codec.specs.declared.Header.{Header}
use Rattle.codec.specs.declared.Subject.{Subject}
use Rattle.codec.specs.declared.Message.{Message}
use Rattle.codec.specs.declared.Message.TheVariants.{Short, Plain, Fragment}
use Rattle.codec.specs.Names.{frame_size}
use Rattle.codec.specs.Fields.{header_of}
use Rattle.codec.specs.Reading.{subject_of, read_of, number_of}
use Rattle.codec.specs.Writing.{carried, image_of}
use Rattle.codec.specs.Code.{payload_data, unprefixed}
use Rattle.table.specs.Descriptor.{descriptor_size}
use Rattle.table.specs.Table.{lengths_fit, well_formed}
use Rattle.guest.specs.Step.{Areas, Outcome}

-- "a message at this border is 16 bytes"
abbrev pub message_size : ℕ
message_size = 16

-- "kind, Dir/Pri, address, service, Request/Response, object, ID, fragment number, total, data length, six data bytes"
unfoldable pub long_bytes : ℕ → Subject → ℕ → ℕ → Data → List ℕ
long_bytes kind u number total b =
    kind ∷ u.dir ∷ u.address ∷ u.service ∷ u.response ∷ u.object ∷ u.id ∷ number ∷ total ∷ b.len ∷ places_of b

-- what a short message says of itself: it has no response, object and ID
abbrev pub short_subject : ℕ → ℕ → ℕ → Subject
short_subject dir address service = record { dir = dir; address = address; service = service; response = 0; object = 0; id = 0 }

-- "kind 0 short, 1 whole, 2 fragment"; "places that its kind does not use are 0"
unfoldable pub message_bytes : Message → List ℕ
message_bytes (Short dir address service) = long_bytes 0 (short_subject dir address service) 0 0 (data_of [])
message_bytes (Plain u b) = long_bytes 1 u 0 0 b
message_bytes (Fragment u number total b) = long_bytes 2 u number total b

-- the same off a record's places: of its header and of what stands behind the ID, flag clear, or number and total in front
unfoldable pub long_message : Header → Data → List ℕ
long_message h p =
    cond (eqb h.flag 1) (long_bytes 2 (subject_of h) (byte_at p.places 0) (byte_at p.places 1) (unprefixed p)) (long_bytes 1 (subject_of h) 0 0 p)

-- and of any record; of one that is read these are its message's bytes (`put_is_message`)
unfoldable pub record_message : List ℕ → List ℕ
record_message r =
    cond (eqb (header_of r).dlc 0)
    (long_bytes 0 (short_subject (header_of r).dir (header_of r).address (header_of r).service) 0 0 (data_of []))
    (long_message (header_of r) (payload_data r))

-- the buffer after a message is put: one of another length stays
abbrev pub put_message : List ℕ → List ℕ → List ℕ
put_message l m = cond (eqb (length m) message_size) l m

-- the places of a message, read
unfoldable pub subject_at : List ℕ → Subject
subject_at l = record {
  dir = byte_at l 1;
  address = byte_at l 2;
  service = byte_at l 3;
  response = byte_at l 4;
  object = byte_at l 5;
  id = byte_at l 6;
}

unfoldable pub data_at : List ℕ → Data
data_at l = record {
  len = byte_at l 9;
  places = byte_at l 10 ∷ byte_at l 11 ∷ byte_at l 12 ∷ byte_at l 13 ∷ byte_at l 14 ∷ byte_at l 15 ∷ [];
  six = refl;
}

-- the message of 16 bytes, by their kind; what they hold besides is looked at by `bordered`
unfoldable pub message_at : List ℕ → Message
message_at l =
    cond (eqb (byte_at l 0) 0)
    (Short (byte_at l 1) (byte_at l 2) (byte_at l 3))
    (cond (eqb (byte_at l 0) 1)
    (Plain (subject_at l) (data_at l))
    (Fragment (subject_at l) (byte_at l 7) (byte_at l 8) (data_at l)))

-- "no other kind", and "places that its kind does not use are 0": all behind the service of a short message, number and total of a whole one
unfoldable pub bordered : List ℕ → Bool
bordered l =
    cond (eqb (byte_at l 0) 0) (zeros (drop 4 l))
    (cond (eqb (byte_at l 0) 1) (eqb (byte_at l 7) 0 && eqb (byte_at l 8) 0) (eqb (byte_at l 0) 2))

-- the message of 16 bytes, where they are a message's
abbrev pub message_in : List ℕ → Option Message
message_in l = if bordered l then Some (message_at l) else None

-- reading: 1 where the message buffer has another length, else the codec's number
unfoldable pub border_read_number : List ℕ → List ℕ → ℕ
border_read_number r l = cond (eqb (length l) message_size) (number_of (read_of r)) 1

-- the message buffer afterwards: the message that was read; "nothing alters" where reading is refused
abbrev pub answered_in : Result Message ℕ → List ℕ → List ℕ
answered_in (Ok m) l = message_bytes m
answered_in (Err n) l = l

unfoldable pub border_read : List ℕ → List ℕ → List ℕ
border_read r l = cond (eqb (length l) message_size) (answered_in (read_of r) l) l

-- "a message buffer of another length is refused with 1, like a record's"
abbrev pub missized : List ℕ → List ℕ → Bool
missized l r = not (eqb (length l) message_size) || not (eqb (length r) frame_size)

-- the refusals of writing: a length, then a message that no readable frame carries
abbrev pub border_write_checks : List ℕ → List ℕ → List Check
border_write_checks l r = (missized l r, 1) ∷ (not (bordered l && carried (message_at l)), 3) ∷ []

unfoldable pub border_write_number : List ℕ → List ℕ → ℕ
border_write_number l r = first_of (border_write_checks l r)

-- the record afterwards
unfoldable pub border_write : List ℕ → List ℕ → List ℕ
border_write l r = cond (eqb (border_write_number l r) 0) (image_of (message_at l)) r

-- "0 where it is refused": a descriptor is 16 bits
unfoldable pub border_size : ℕ → ℕ
border_size d = cond (ltb 65535 d) 0 (descriptor_size d)

-- 01's check 1, as far as it concerns table and store, and then check 2
abbrev pub table_checks : List ℕ → ℕ → List Check
table_checks t size = (not (lengths_fit (length t) size), 1) ∷ (not (well_formed t size), 2) ∷ []

-- one frame: "number + 256 * count", and what is there afterwards
pub record Stepped : Type 0 where
  pub reply : ℕ
  pub left : Areas
  pub out : List ℕ

abbrev pub stepped : ℕ → Areas → List ℕ → Stepped
stepped reply left out = record { reply = reply; left = left; out = out }

abbrev pub border_step : Outcome → Stepped
border_step o = stepped (o.number + 256 * o.count) o.left o.out
