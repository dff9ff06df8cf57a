-- Reading a line (02, 2026-02: "one line a frame: `(seconds.micros) interface ID#data`, one space between").
use Rattle.std.specs.Prelude.{ℕ, ◌+◌, ◌-◌, ◌*◌, ◌/◌, ◌%◌, Bool, cond, not, ◌&&◌, ◌||◌, List, [], ◌∷◌, length, take, drop, replicate, ltb, leb, eqb}
use Rattle.laws.specs.Bytes.{byte_at}
use Rattle.laws.specs.Checks.{Check, first_of}
use Rattle.codec.specs.Names.{frame_size, most_dlc}
use Rattle.candump.specs.Text.{opening, point, closing, space, mark, remote, zero_digit, within, hex_value, all_are, index_of, up_to, behind}
use Rattle.candump.specs.Text.Kind.{Decimal, Visible, Hex}
use Rattle.candump.specs.Frame.{most_identifier, can, record_of}

-- "line over 128 bytes"
abbrev pub most_line : ℕ
most_line = 128

-- the interface is "1 to 15 bytes"
abbrev pub most_interface : ℕ
most_interface = 15

-- "micros six"
abbrev pub micro_digits : ℕ
micro_digits = 6

-- the parts of a line: the time stands up to the first space, the interface up to the next one, the frame behind that
abbrev pub time_of : List ℕ → List ℕ
time_of l = up_to space l

abbrev pub interface_of : List ℕ → List ℕ
interface_of l = up_to space (behind space l)

abbrev pub frame_of : List ℕ → List ℕ
frame_of l = behind space (behind space l)

-- "Seconds are decimal digits": at least one
unfoldable pub is_seconds : List ℕ → Bool
is_seconds s = ltb 0 (length s) && all_are Decimal s

-- "micros six", and the closing bracket
unfoldable pub is_micros : List ℕ → Bool
is_micros m = eqb (length m) (micro_digits + 1) && eqb (byte_at m micro_digits) closing && all_are Decimal (take micro_digits m)

-- "(seconds.micros)"
unfoldable pub is_time : List ℕ → Bool
is_time t = eqb (byte_at t 0) opening && is_seconds (up_to point (drop 1 t)) && is_micros (behind point (drop 1 t))

-- "the interface 1 to 15 bytes of 21 to 7E hex"
unfoldable pub is_interface : List ℕ → Bool
is_interface i = ltb 0 (length i) && leb (length i) most_interface && all_are Visible i

-- the number that three hex digits say
unfoldable pub identifier_in : List ℕ → ℕ
identifier_in d = hex_value (byte_at d 0) * 256 + hex_value (byte_at d 1) * 16 + hex_value (byte_at d 2)

-- of a frame, that it has a "#" and "before it three hex digits up to 7FF"
unfoldable pub is_identified : List ℕ → Bool
is_identified f =
    ltb (index_of mark f) (length f) && eqb (index_of mark f) 3 && all_are Hex (up_to mark f) && leb (identifier_in f) most_identifier

-- "`R` with at most a digit up to 8"
unfoldable pub is_remote : List ℕ → Bool
is_remote d = eqb (byte_at d 0) remote && (eqb (length d) 1 || (eqb (length d) 2 && within 48 56 (byte_at d 1)))

-- "up to 8 whole bytes"
unfoldable pub is_bytes : List ℕ → Bool
is_bytes d = eqb (length d % 2) 0 && leb (length d) (2 * most_dlc) && all_are Hex d

-- the bytes that pairs of digits say
unfoldable pub bytes_in : List ℕ → List ℕ
bytes_in [] = []
bytes_in (h ∷ []) = []
bytes_in (h ∷ l ∷ d) = (hex_value h * 16 + hex_value l) ∷ bytes_in d

-- the DLC behind an R; 0 where there is no digit
abbrev pub remote_dlc : List ℕ → ℕ
remote_dlc d = byte_at d 1 - zero_digit

-- the record of a frame with this identifier, by what stands behind the "#"
unfoldable pub record_in : ℕ → List ℕ → List ℕ
record_in i d = cond (is_remote d) (record_of (can i 1 (remote_dlc d)) []) (record_of (can i 0 (length d / 2)) (bytes_in d))

-- the refusals of the importer, in 02's order: of what stands behind the "#", of a frame, and of a line
abbrev pub data_checks : List ℕ → List Check
data_checks d = (not (is_remote d || is_bytes d), 4) ∷ []

abbrev pub frame_checks : List ℕ → List Check
frame_checks f = (not (is_identified f), 3) ∷ data_checks (behind mark f)

abbrev pub import_checks : List ℕ → List Check
import_checks l =
    (ltb most_line (length l), 1) ∷ (not (is_time (time_of l) && is_interface (interface_of l)), 2) ∷ frame_checks (frame_of l)

-- what is imported: 0 and the ten bytes, or a refusal and zeros
pub record Imported : Type 0 where
  pub number : ℕ
  pub frame : List ℕ

abbrev pub not_imported : ℕ → Imported
not_imported n = record { number = n; frame = replicate frame_size 0 }

abbrev pub imported : ℕ → List ℕ → Imported
imported n r = cond (eqb n 0) (record { number = n; frame = r }) (not_imported n)

-- what stands behind a "#" is imported to, a frame, and a line
unfoldable pub data_imported : ℕ → List ℕ → Imported
data_imported i d = imported (first_of (data_checks d)) (record_in i d)

unfoldable pub frame_imported : List ℕ → Imported
frame_imported f = imported (first_of (frame_checks f)) (record_in (identifier_in f) (behind mark f))

unfoldable pub import_of : List ℕ → Imported
import_of l = imported (first_of (import_checks l)) (record_in (identifier_in (frame_of l)) (behind mark (frame_of l)))
