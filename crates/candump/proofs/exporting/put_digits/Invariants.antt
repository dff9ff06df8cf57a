use lib.ListN.{take, drop}
use mathlib.Core.List.{◌++◌}
use Prim.Native.Nat.{◌*◌}
use mathlib.Core.Path.{◌≡◌}
use Rattle.candump.specs.Frame.{hex_of}
use Rattle.candump.proofs.exporting.put_digits.Given as goal

abbrev pub invariant-loop-i : goal.invariant-loop-i
invariant-loop-i l = l.places ≡ hex_of (take l.i l.bytes) ++ drop (2 * l.i) l.initial.places
