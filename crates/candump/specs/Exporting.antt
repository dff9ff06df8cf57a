-- Writing a line (02, 2026-02).
use Rattle.std.specs.Prelude.{ℕ, cond, not, List, [], ◌∷◌, ◌++◌, length, drop, replicate, ltb, eqb}
use Rattle.laws.specs.Bytes.{padded}
use Rattle.laws.specs.Checks.{Check, first_of}
use Rattle.codec.specs.Names.{frame_size, most_dlc}
use Rattle.codec.specs.Fields.{can_of}
use Rattle.candump.specs.Text.{opening, point, closing, space, zero_digit}
use Rattle.candump.specs.Frame.{text}

-- time and interface are "written as `(0.000000) can0`", and a space behind them
abbrev pub front : List ℕ
front =
    opening ∷ zero_digit ∷ point ∷ zero_digit ∷ zero_digit ∷ zero_digit ∷ zero_digit ∷ zero_digit ∷ zero_digit ∷ closing ∷ space
    ∷ 99 ∷ 97 ∷ 110 ∷ zero_digit ∷ space ∷ []

-- the longest line has eight data bytes
abbrev pub line_room : ℕ
line_room = 36

-- the line of a record
unfoldable pub line_of : List ℕ → List ℕ
line_of r = front ++ text (can_of r) (drop 2 r)

-- "The exporter refuses a record not 10 bytes long or with DLC over 8"
abbrev pub export_checks : List ℕ → List Check
export_checks r = (not (eqb (length r) frame_size), 1) ∷ (ltb most_dlc (can_of r).dlc, 2) ∷ []

-- what is exported: 0, the line's length and the line, with zeros behind it; or a refusal and no line
pub record Exported : Type 0 where
  pub number : ℕ
  pub len : ℕ
  pub line : List ℕ

abbrev pub not_exported : ℕ → Exported
not_exported n = record { number = n; len = 0; line = replicate line_room 0 }

abbrev pub exported : ℕ → List ℕ → Exported
exported n l = cond (eqb n 0) (record { number = n; len = length l; line = padded line_room l }) (not_exported n)

unfoldable pub export_of : List ℕ → Exported
export_of r = exported (first_of (export_checks r)) (line_of r)

-- and into a buffer: one without room for the longest line is refused with 3, last
pub record Put : Type 0 where
  pub number : ℕ
  pub len : ℕ

abbrev pub put_checks : List ℕ → List ℕ → List Check
put_checks r b = export_checks r ++ (ltb (length b) line_room, 3) ∷ []

unfoldable pub put_of : List ℕ → List ℕ → Put
put_of r b = record { number = first_of (put_checks r b); len = cond (eqb (first_of (put_checks r b)) 0) (length (line_of r)) 0 }

-- the buffer afterwards: the line at its front; all of it as it was on a refusal
unfoldable pub put_left : List ℕ → List ℕ → List ℕ
put_left r b = cond (eqb (first_of (put_checks r b)) 0) (line_of r ++ drop (length (line_of r)) b) b
