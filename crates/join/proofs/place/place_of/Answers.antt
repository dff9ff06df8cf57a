use native.Mathlib.Omega.{arith}
use Rattle.join.proofs.place.place_of.Goals as goal

pub returns : goal.returns
returns c = omega arith
