-- THE GRAMMAR of a line, part by part as 02 (2026-02) names them, and the record that a line stands for. `imported_exactly` says that a line is imported to
-- a record exactly when it is one of these.
use Rattle.std.specs.Prelude.{ℕ, ◌+◌, ◌*◌, ◌<◌, ◌≤◌, ◌≡◌, true, List, [], ◌∷◌, ◌++◌, length}
use Rattle.codec.specs.Names.{most_dlc}
use Rattle.candump.specs.Text.{opening, point, closing, space, mark, remote, zero_digit, hex_value, Kind, is_a}
use Rattle.candump.specs.Text.Kind.{Decimal, Visible, Hex}
use Rattle.candump.specs.Frame.{most_identifier, can, record_of}
use Rattle.candump.specs.Importing.{most_line, most_interface, micro_digits}

-- a list of bytes of one kind
pub data All (k : Kind) : List ℕ → Type 0 where
  none : All k []
  more : {c : ℕ} {l : List ℕ} → is_a k c ≡ true → All k l → All k (c ∷ l)

-- two hex digits, of either case, for each byte, the high one first
pub data Spells : List ℕ → List ℕ → Type 0 where
  end : Spells [] []
  pair : {h l : ℕ} {digits bytes : List ℕ} → is_a Hex h ≡ true → is_a Hex l ≡ true → Spells digits bytes
      → Spells (h ∷ l ∷ digits) ((hex_value h * 16 + hex_value l) ∷ bytes)

-- what may stand behind the "#" of a frame with this identifier, and the record that it makes: "up to 8 whole bytes", or "`#R`, with an optional length
-- digit, is RTR and has no data"
pub data Says (identifier : ℕ) : List ℕ → List ℕ → Type 0 where
  whole : (digits bytes : List ℕ) → Spells digits bytes → length bytes ≤ most_dlc → Says identifier digits (record_of (can identifier 0 (length bytes)) bytes)
  bare : Says identifier (remote ∷ []) (record_of (can identifier 1 0) [])
  sized : (dlc : ℕ) → dlc ≤ most_dlc → Says identifier (remote ∷ (zero_digit + dlc) ∷ []) (record_of (can identifier 1 dlc) [])

-- "`(seconds.micros) interface ID#data`, one space between. .. Seconds are decimal digits, micros six, the interface 1 to 15 bytes of 21 to 7E hex", the ID
-- "three hex digits up to 7FF", the line at most 128 bytes
pub record Line (l r : List ℕ) : Type 0 where
  pub seconds : List ℕ
  pub micros : List ℕ
  pub interface : List ℕ
  pub h : ℕ
  pub m : ℕ
  pub n : ℕ
  pub behind : List ℕ
  pub parts : l ≡ (opening ∷ seconds ++ point ∷ micros ++ closing ∷ []) ++ space ∷ (interface ++ space ∷ (h ∷ m ∷ n ∷ mark ∷ behind))
  pub fits : length l ≤ most_line
  pub some_seconds : 0 < length seconds
  pub decimal_seconds : All Decimal seconds
  pub six_micros : length micros ≡ micro_digits
  pub decimal_micros : All Decimal micros
  pub named : 0 < length interface
  pub short_name : length interface ≤ most_interface
  pub visible : All Visible interface
  pub hex_digits : All Hex (h ∷ m ∷ n ∷ [])
  pub eleven_bits : hex_value h * 256 + hex_value m * 16 + hex_value n ≤ most_identifier
  pub says : Says (hex_value h * 256 + hex_value m * 16 + hex_value n) behind r
