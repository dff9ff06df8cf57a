-- Reading a record (01, "Frame record": "The codec reads .."; 000, figures 3.3, 3.13 and 3.14).
use Rattle.std.specs.Prelude.{ℕ, ◌-◌, Bool, cond, not, ◌&&◌, ◌||◌, List, [], ◌∷◌, length, take, drop, ltb, leb, eqb, Result, Ok, Err}
use Rattle.laws.specs.Bytes.{byte_at}
use Rattle.laws.specs.Checks.{Check, first_of}
use Rattle.octets.specs.Data.{data_of}
use Rattle.codec.specs.declared.Header.{Header}
use Rattle.codec.specs.declared.Subject.{Subject}
use Rattle.codec.specs.declared.Message.{Message}
use Rattle.codec.specs.declared.Message.TheVariants.{Short, Plain, Fragment}
use Rattle.codec.specs.declared.ReadError.{ReadError}
use Rattle.codec.specs.declared.ReadError.TheVariants.{Size, Barred, Unserved, Cramped}
use Rattle.codec.specs.Names.{frame_size, payload_place, most_address, most_dlc, lowest_long}
use Rattle.codec.specs.Fields.{header_of}

-- "RTR 1, DLC over 8, or address 126 or 127" (check 3)
abbrev pub barred : Header → Bool
barred h = eqb h.rtr 1 || ltb most_dlc h.dlc || ltb most_address h.address

-- "DLC 1, or DLC 2 up with service 0 to 3"
abbrev pub unserved : Header → Bool
unserved h = eqb h.dlc 1 || (leb 2 h.dlc && ltb h.service lowest_long)

-- "flag set, DLC 2 or 3"
abbrev pub cramped : Header → Bool
cramped h = leb 2 h.dlc && eqb h.flag 1 && ltb h.dlc 4

abbrev pub header_checks : Header → List Check
header_checks h = (barred h, 3) ∷ (unserved h, 5) ∷ (cramped h, 8) ∷ []

-- the refusals of reading, in 01's order
abbrev pub read_checks : List ℕ → List Check
read_checks r = (not (eqb (length r) frame_size), 1) ∷ header_checks (header_of r)

abbrev pub subject_of : Header → Subject
subject_of h = record {
  dir = h.dir;
  address = h.address;
  service = h.service;
  response = h.response;
  object = h.object;
  id = h.id;
}

-- the DLC counts bytes from byte 2 on: what stands behind the ID is its last DLC - 2
abbrev pub payload_to : ℕ → List ℕ → List ℕ
payload_to dlc r = take (dlc - 2) (drop payload_place r)

abbrev pub payload_of : List ℕ → List ℕ
payload_of r = payload_to (header_of r).dlc r

-- flag clear: all of that is data. Flag set: the fragment's number, the total byte count, then data
unfoldable pub long_of : Subject → ℕ → List ℕ → Message
long_of u flag p =
    cond (eqb flag 1)
    (Fragment u (byte_at p 0) (byte_at p 1) (data_of (drop 2 p)))
    (Plain u (data_of p))

abbrev pub short_of : Header → Message
short_of h = Short h.dir h.address h.service

-- the message of a readable record: DLC 0 is the short form
unfoldable pub message_of : List ℕ → Message
message_of r =
    cond (eqb (header_of r).dlc 0)
    (short_of (header_of r))
    (long_of (subject_of (header_of r)) (header_of r).flag (payload_of r))

-- the message, or the number of the first refusal that applies
unfoldable pub read_of : List ℕ → Result Message ℕ
read_of r = cond (eqb (first_of (read_checks r)) 0) (Ok (message_of r)) (Err (first_of (read_checks r)))

-- 01's number of an answer: 0 for a message
abbrev pub number_of : {A : Type 0} → Result A ℕ → ℕ
number_of (Ok m) = 0
number_of (Err n) = n

-- 01's numbers of the code's errors, which have the names of these checks
abbrev pub read_error_number : ReadError → ℕ
read_error_number Size = 1
read_error_number Barred = 3
read_error_number Unserved = 5
read_error_number Cramped = 8

-- what the code answers, with 01's number in place of its error
abbrev pub numbered : {A : Type 0} → Result A ReadError → Result A ℕ
numbered (Ok m) = Ok m
numbered (Err e) = Err (read_error_number e)
