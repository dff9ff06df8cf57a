-- Writing a message (01, "Frame record": "Writing refuses .."; 000, figures 3.3, 3.13 and 3.14).
use Rattle.std.specs.Prelude.{ℕ, ◌+◌, ◌*◌, ◌<◌, Bool, cond, not, ◌&&◌, List, [], ◌∷◌, ◌++◌, length, take, leb, eqb, Result, Ok, Err}
use Rattle.laws.specs.Checks.{Check, first_of}
use Rattle.laws.specs.Bytes.{Bytes, padded}
use Rattle.octets.specs.Data.{most_data, places_of, bytes_of, tidy}
use Rattle.codec.specs.declared.Subject.{Subject}
use Rattle.codec.specs.declared.Message.{Message}
use Rattle.codec.specs.declared.Message.TheVariants.{Short, Plain, Fragment}
use Rattle.codec.specs.declared.WriteError.{WriteError}
use Rattle.codec.specs.declared.WriteError.TheVariants as why
use Rattle.codec.specs.Names.{frame_size, most_address, most_fragment_data, lowest_long}
use Rattle.codec.specs.Fields.{header_of}

-- Dir/Pri {0,1}, address {0 .. 125}, services 4 to 7, Request/Response {0 .. 3}, object {0 .. 31}; any ID
unfoldable pub subject_fits : Subject → Bool
subject_fits u =
    leb u.dir 1 && leb u.address most_address && leb lowest_long u.service && leb u.service 7 && leb u.response 3 && leb u.object 31

-- Dir/Pri {0,1}, address {0 .. 125}, service {0 .. 7}
unfoldable pub short_fits : ℕ → ℕ → ℕ → Bool
short_fits dir address service = leb dir 1 && leb address most_address && leb service 7

-- whether some readable frame carries the message (the theorem `carried_exactly` says that this is what is tested)
unfoldable pub carried : Message → Bool
carried (Short dir address service) = short_fits dir address service
carried (Plain u b) = subject_fits u && tidy most_data b
carried (Fragment u number total b) = subject_fits u && tidy most_fragment_data b

-- the CAN header, bytes 0 and 1 (figure 3.3): Dir/Pri and address; service type, RTR 0 and DLC
abbrev pub can_header : ℕ → ℕ → ℕ → ℕ → List ℕ
can_header dir address service dlc = (dir * 128 + address) ∷ (service * 32 + dlc) ∷ []

-- a long form's header (figures 3.5 and 3.13): the CAN header; Request/Response, flag and object; ID
abbrev pub long_header : Subject → ℕ → ℕ → List ℕ
long_header u flag dlc =
    can_header u.dir u.address u.service dlc ++ (u.response * 64 + flag * 32 + u.object) ∷ u.id ∷ []

-- a long form: its DLC counts byte 2, the ID and what stands behind it
unfoldable pub long_frame : Subject → ℕ → List ℕ → List ℕ
long_frame u flag p = long_header u flag (length p + 2) ++ p

-- the bytes of the frame that carries a message, up to its DLC
unfoldable pub frame_of : Message → List ℕ
frame_of (Short dir address service) = can_header dir address service 0
frame_of (Plain u b) = long_frame u 0 (bytes_of b)
frame_of (Fragment u number total b) = long_frame u 1 (number ∷ total ∷ bytes_of b)

-- the record: beyond the DLC it holds zeros
unfoldable pub image_of : Message → List ℕ
image_of m = padded frame_size (frame_of m)

-- the refusals of writing, in 01's order: another record length, a message that no readable frame carries
abbrev pub write_checks : Message → List ℕ → List Check
write_checks m r = (not (eqb (length r) frame_size), 1) ∷ (not (carried m), 3) ∷ []

unfoldable pub write_number : Message → List ℕ → ℕ
write_number m r = first_of (write_checks m r)

-- the numbers of the code's errors, and 0 where it has written
abbrev pub write_error_number : WriteError → ℕ
write_error_number why.Size = 1
write_error_number why.Unfit = 3

abbrev pub written_number : {A : Type 0} → Result A WriteError → ℕ
written_number (Ok x) = 0
written_number (Err e) = write_error_number e

-- the record afterwards: unchanged where writing is refused
unfoldable pub written_of : Message → List ℕ → List ℕ
written_of m r = cond (eqb (write_number m r) 0) (image_of m) r

-- a record with the bytes beyond its DLC cleared
unfoldable pub cleared_of : List ℕ → List ℕ
cleared_of r = padded frame_size (take ((header_of r).dlc + 2) r)

-- the ID, the number, the total and the data of a message are bytes: so is every u8 in the code
abbrev pub Octets : Message → Type 0
Octets (Short dir address service) = Unit {0}
Octets (Plain u b) = (u.id < 256) × Bytes (places_of b)
Octets (Fragment u number total b) = (u.id < 256) × (number < 256) × (total < 256) × Bytes (places_of b)
