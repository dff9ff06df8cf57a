-- What copying leaves.
use mathlib.Core.Path.{◌≡◌}
use mathlib.Core.List.{List, ◌++◌}
use Prim.Native.Nat.{ℕ}
use lib.ListN.{length, take, drop}
use Rattle.laws.proofs.Bytes.{copied}

-- a list over another of its length
pub copied_whole : (from to : List ℕ) → length from ≡ length to → take (length to) from ++ drop (length from) to ≡ from
copied_whole from to e = rw (← e) (copied from to e)
