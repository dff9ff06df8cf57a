-- What the code offers besides reading and writing whole messages, for every input. Who sends frames that it knows to fit puts them without a test:
-- each field is cut to the bits that it has in the record; `put_is_written` and `put_short_is_written` say that the cut does not alter what fits.
use Rattle.std.specs.Prelude.{ℕ, ◌+◌, ◌-◌, ◌%◌, cond, ◌&&◌, List, [], ◌∷◌, ◌++◌, length, eqb, leb}
use Rattle.std.proofs.Math.Path.{refl}
use Rattle.laws.specs.Bytes.{byte_at, padded}
use Rattle.octets.specs.declared.Data.{Data}
use Rattle.octets.specs.Data.{data_of, places_of}
use Rattle.codec.specs.declared.Subject.{Subject}
use Rattle.codec.specs.Names.{frame_size, most_dlc}
use Rattle.codec.specs.Fields.{header_of}
use Rattle.codec.specs.Reading.{payload_to, payload_of}
use Rattle.codec.specs.Writing.{can_header, long_header}

-- what stands behind the ID of a record of ten bytes; of another record, or one with a DLC over 8, none of it
unfoldable pub payload_data : List ℕ → Data
payload_data r = cond (eqb (length r) frame_size && leb (header_of r).dlc most_dlc) (data_of (payload_of r)) (data_of [])

-- the same as a part of the record, up to a DLC
unfoldable pub payload_in : ℕ → List ℕ → List ℕ
payload_in dlc r = cond (eqb (length r) frame_size && leb dlc most_dlc) (payload_to dlc r) []

-- what stands behind a fragment's ID: its number, the total byte count, then the data, of which four bytes have room; the length cut to three bits
unfoldable pub prefixed : ℕ → ℕ → Data → Data
prefixed number total d = record {
  len = d.len % 8 + 2;
  places = number ∷ total ∷ byte_at d.places 0 ∷ byte_at d.places 1 ∷ byte_at d.places 2 ∷ byte_at d.places 3 ∷ [];
  six = refl;
}

-- and the way back: what stands behind number and total
unfoldable pub unprefixed : Data → Data
unprefixed p = record {
  len = p.len - 2;
  places = byte_at p.places 2 ∷ byte_at p.places 3 ∷ byte_at p.places 4 ∷ byte_at p.places 5 ∷ 0 ∷ 0 ∷ [];
  six = refl;
}

-- a subject, each field cut to its bits
abbrev pub cut_of : Subject → Subject
cut_of u = record {
  dir = u.dir % 2;
  address = u.address % 128;
  service = u.service % 8;
  response = u.response % 4;
  object = u.object % 32;
  id = u.id;
}

-- the ten bytes of a long form (000, figures 3.13 and 3.15): of its flag, and of what stands behind its ID
unfoldable pub long_places : Subject → ℕ → Data → List ℕ
long_places u flag p = long_header (cut_of u) (flag % 2) (p.len % 8 + 2) ++ places_of p

-- and of a short form (figure 3.3): eight zeros behind the CAN header
unfoldable pub short_places : ℕ → ℕ → ℕ → List ℕ
short_places dir address service = padded frame_size (can_header (dir % 2) (address % 128) (service % 8) 0)

-- the record after ten bytes are put: one of another length stays
abbrev pub put_ten : List ℕ → List ℕ → List ℕ
put_ten l r = cond (eqb (length r) frame_size) l r

unfoldable pub put_long : Subject → ℕ → Data → List ℕ → List ℕ
put_long u flag p r = put_ten (long_places u flag p) r

unfoldable pub put_short : ℕ → ℕ → ℕ → List ℕ → List ℕ
put_short dir address service r = put_ten (short_places dir address service) r
