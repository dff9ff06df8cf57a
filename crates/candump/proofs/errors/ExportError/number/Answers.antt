use Prim.Native.Nat.{◌+◌}
use mathlib.Core.Path.{◌≡◌, refl}
use denote.Enum.Declared.{tag_of}
use Rattle.candump.specs.contracts.errors.ExportError.{the_type}
use Rattle.candump.specs.declared.errors.ExportError.{ExportError}
use Rattle.candump.specs.declared.errors.ExportError.TheVariants.{NotTen, Dlc, Room}
use Rattle.candump.specs.Refusals.{export_error_number}
use Rattle.candump.proofs.errors.ExportError.number.Goals as goal

numbered : (e : ExportError) → tag_of the_type e + 1 ≡ export_error_number e
numbered NotTen = refl
numbered Dlc = refl
numbered Room = refl

pub returns : goal.returns
returns c = numbered c.args.self
