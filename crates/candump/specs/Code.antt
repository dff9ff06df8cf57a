-- What only the code has: what bytes say where they say something, as an identifier, a DLC under RTR, and data bytes.
use Rattle.std.specs.Prelude.{ℕ, ◌+◌, ◌*◌, cond, ◌&&◌, List, [], ◌∷◌, leb, Option, Some, None}
use Rattle.laws.specs.Bytes.{padded}
use Rattle.codec.specs.Names.{most_dlc}
use Rattle.candump.specs.Text.{hex_value, all_are}
use Rattle.candump.specs.Text.Kind.{Hex}
use Rattle.candump.specs.Frame.{most_identifier}
use Rattle.candump.specs.Importing.{is_remote, remote_dlc, is_bytes, bytes_in}

-- the number of three digits, up to the highest one
unfoldable pub identifier_said : ℕ → ℕ → ℕ → Option ℕ
identifier_said h m l =
    cond (all_are Hex (h ∷ m ∷ l ∷ []) && leb (hex_value h * 256 + hex_value m * 16 + hex_value l) most_identifier)
    (Some (hex_value h * 256 + hex_value m * 16 + hex_value l)) None

-- the DLC of R alone or with a digit
unfoldable pub dlc_said : List ℕ → Option ℕ
dlc_said d = cond (is_remote d) (Some (remote_dlc d)) None

-- whole bytes, with zeros behind them
unfoldable pub bytes_said : List ℕ → Option (List ℕ)
bytes_said d = cond (is_bytes d) (Some (padded most_dlc (bytes_in d))) None
