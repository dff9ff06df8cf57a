use Prim.Native.Nat.{◌+◌}
use mathlib.Core.Path.{◌≡◌, refl}
use denote.Enum.Declared.{tag_of}
use Rattle.candump.specs.contracts.errors.ImportError.{the_type}
use Rattle.candump.specs.declared.errors.ImportError.{ImportError}
use Rattle.candump.specs.declared.errors.ImportError.TheVariants.{TooLong, Front, Identifier, Data}
use Rattle.candump.specs.Refusals.{import_error_number}
use Rattle.candump.proofs.errors.ImportError.number.Goals as goal

numbered : (e : ImportError) → tag_of the_type e + 1 ≡ import_error_number e
numbered TooLong = refl
numbered Front = refl
numbered Identifier = refl
numbered Data = refl

pub returns : goal.returns
returns c = numbered c.args.self
