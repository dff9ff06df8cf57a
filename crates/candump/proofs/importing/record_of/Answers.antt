use mathlib.Core.Path.{◌∙◌}
use Rattle.candump.proofs.Places.{joined}
use Rattle.candump.proofs.importing.record_of.Goals as goal

pub returns : goal.returns
returns c = joined _ _ _ _ (c.copy_from_slice.ensures.after ∙ c.can_bytes-header.ensures) c.copy_from_slice.ensures.len c.requires c.copy_from_slice-2.ensures.after
