-- The refusals of the collector (02, 2026-07), each beside its words, in one ordered list.
use Rattle.std.specs.Prelude.{ℕ, ◌+◌, ◌*◌, Bool, true, false, not, ◌&&◌, ◌||◌, List, [], ◌∷◌, ◌++◌, eqb, ltb}
use Rattle.laws.specs.Checks.{Check, first_of}
use Rattle.octets.specs.declared.Data.{Data}
use Rattle.octets.specs.Data.{bytes_of}
use Rattle.codec.specs.declared.Subject.{Subject}
use Rattle.codec.specs.declared.Message.{Message}
use Rattle.codec.specs.declared.Message.TheVariants.{Short, Plain, Fragment}
use Rattle.codec.specs.Names.{most_address, most_fragment_data, read_service, successful}
use Rattle.codec.specs.Reading.{read_checks, message_of}
use Rattle.join.specs.Work.{record_size, data_size, base, Joiner, collecting, Piece, load, shaped_by, astray}

-- "One 260-byte work record per guest, 126 of them": that of a guest stands at the base of its address
abbrev pub guest_count : ℕ
guest_count = most_address + 1

abbrev pub collect_size : ℕ
collect_size = guest_count * record_size

-- the joiner of the host's side, and a fragment as it sees it: the key is the ID and the object ("byte 259 now holds the object")
abbrev pub joiner : Joiner
joiner = collecting most_fragment_data

abbrev pub piece_of : Subject → ℕ → ℕ → Data → Piece
piece_of u number total b = record { key = u.id ∷ u.object ∷ []; total = total; number = number; bytes = bytes_of b }

-- 1  "wrong work area length"
abbrev pub misfit : ℕ → Bool
misfit size = not (eqb size collect_size)

-- 2  "malformed frame (the codec refuses it)"
abbrev pub malformed : List ℕ → Bool
malformed r = not (eqb (first_of (read_checks r)) 0)

-- 3  "not a Read response": "frames with Dir/Pri 1, service Read, Successful" are; the short form is none
abbrev pub answers_read : Subject → Bool
answers_read u = eqb u.dir 1 && eqb u.service read_service && eqb u.response successful

abbrev pub no_read_response : Message → Bool
no_read_response (Short dir address service) = true
no_read_response (Plain u b) = not (answers_read u)
no_read_response (Fragment u number total b) = not (answers_read u)

-- 4  "total 0", of a fragment
abbrev pub no_total : Message → Bool
no_total (Short dir address service) = false
no_total (Plain u b) = false
no_total (Fragment u number total b) = eqb total 0

-- 5  "bad shape": "Numbers, shapes and totals follow 01's rules", which for a fragment is check 12's, and that a record has room for the total, as it has
-- for every byte; a whole frame "without data is of bad shape"
abbrev pub wrong_piece : (total number len : ℕ) → Bool
wrong_piece total number len = not (shaped_by most_fragment_data total number len) || ltb data_size total

abbrev pub bad_shape : Message → Bool
bad_shape (Short dir address service) = false
bad_shape (Plain u b) = eqb b.len 0
bad_shape (Fragment u number total b) = wrong_piece total number b.len

-- 6  "out of order": as 01's check 14, and "a later fragment from another object is out of order" too
abbrev pub out_of_order : Message → List ℕ → Bool
out_of_order (Short dir address service) work = false
out_of_order (Plain u b) work = false
out_of_order (Fragment u number total b) work = astray joiner (load joiner (base u.address) work) (piece_of u number total b)

-- 1 to 5, of a work area's length and a frame: no state decides them
abbrev pub frame_checks : ℕ → List ℕ → List Check
frame_checks size r = (misfit size, 1) ∷ (malformed r, 2) ∷ (no_read_response (message_of r), 3) ∷ (no_total (message_of r), 4) ∷ (bad_shape (message_of r), 5) ∷ []

-- all six
abbrev pub checks : ℕ → List ℕ → List ℕ → List Check
checks size r work = frame_checks size r ++ (out_of_order (message_of r) work, 6) ∷ []
