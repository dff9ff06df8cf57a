-- A part that runs past the end is empty, and any other is taken whole.
use mathlib.Core.Path.{◌≡◌}
use mathlib.Core.List.{List, []}
use Prim.Native.Nat.{ℕ, ◌+◌, ◌-◌, ◌<◌, ◌≤◌}
use native.Mathlib.Omega.{arith}
use lib.ListN.{length, take, drop}
use borrow.Author.Tests.{lt-leb, le-leb}
use Rattle.collect.specs.Step.{cut}

module _ (at n : ℕ) (l : List ℕ) where
  pub past : length l < at + n → [] ≡ cut at n l
  past h = rw (lt-leb (at + n) (length l) h)

  pub within : at + n ≤ length l → take (at + n - at) (drop at l) ≡ cut at n l
  within h =
      let e : at + n - at ≡ n = omega arith in
      rw (le-leb (at + n) (length l) h, e)
