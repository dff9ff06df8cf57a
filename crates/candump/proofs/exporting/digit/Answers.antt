use mathlib.Core.Path.{refl}
use Rattle.candump.proofs.Digits.{capital_at}
use Rattle.candump.proofs.exporting.digit.Goals as goal

pub returns : goal.returns
returns c = capital_at _ refl c.args.value c.requires
