-- The places of the work records.
use Prim.Native.Nat.{ℕ, ◌+◌, ◌≤◌, ◌<◌}
use mathlib.Core.Path.{◌≡◌}
use native.Mathlib.Omega.{arith}
use Rattle.join.specs.Work.{record_size, area_size, base, record_of}

-- each is inside the work area
pub base_inside : (o : ℕ) → o ≤ 31 → base o + record_size ≤ area_size
base_inside o h = omega arith

-- and its bytes are of it
pub in_record : (o i : ℕ) → base o ≤ i → i < base o + record_size → record_of i ≡ o
in_record o i a b = omega arith
