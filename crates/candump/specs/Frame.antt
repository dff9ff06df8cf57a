-- A CAN frame, as text and as a record (02, 2026-02).
use Rattle.std.specs.Prelude.{ℕ, ◌+◌, ◌/◌, ◌%◌, cond, List, [], ◌∷◌, ◌++◌, take, eqb}
use Rattle.laws.specs.Bytes.{padded}
use Rattle.codec.specs.declared.Can.{Can}
use Rattle.codec.specs.Names.{frame_size, most_dlc}
use Rattle.codec.specs.Fields.{can_of, can_bytes}
use Rattle.codec.specs.Writing.{cleared_of}
use Rattle.candump.specs.Text.{mark, remote, zero_digit, hex_digit}

-- the highest identifier, which has 11 bits: "up to 7FF"
abbrev pub most_identifier : ℕ
most_identifier = 2047

abbrev pub can : ℕ → ℕ → ℕ → Can
can identifier rtr dlc = record { identifier = identifier; rtr = rtr; dlc = dlc }

-- two digits for each byte, the high one first
unfoldable pub hex_of : List ℕ → List ℕ
hex_of [] = []
hex_of (b ∷ l) = hex_digit (b / 16) ∷ hex_digit (b % 16) ∷ hex_of l

-- the three digits of an identifier
unfoldable pub identifier_digits : ℕ → List ℕ
identifier_digits i = hex_digit (i / 256 % 16) ∷ hex_digit (i / 16 % 16) ∷ hex_digit (i % 16) ∷ []

-- behind the "#": "RTR with its length digit", else as many data bytes as the DLC says
unfoldable pub data_text : Can → List ℕ → List ℕ
data_text c bytes = cond (eqb c.rtr 1) (remote ∷ (zero_digit + c.dlc) ∷ []) (hex_of (take c.dlc bytes))

-- THE TEXT OF A FRAME, "ID#data"
unfoldable pub text : Can → List ℕ → List ℕ
text c bytes = identifier_digits c.identifier ++ mark ∷ data_text c bytes

-- the record of a frame: its CAN header, then its data bytes, then zeros
unfoldable pub record_of : Can → List ℕ → List ℕ
record_of c bytes = can_bytes c ++ padded most_dlc bytes

-- a record "with unused bytes (all eight under RTR) cleared"
unfoldable pub unused_cleared : List ℕ → List ℕ
unused_cleared r = cond (eqb (can_of r).rtr 1) (padded frame_size (take 2 r)) (cleared_of r)
