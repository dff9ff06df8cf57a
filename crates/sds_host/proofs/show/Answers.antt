use mathlib.Core.Path.{refl, sym, ◌∙◌}
use Rattle.octets.proofs.Copies.{copied_whole}
use Rattle.sds_host.specs.Border.{value_bytes}
use Rattle.sds_host.proofs.show.Goals as goal

pub returns-in_default : goal.returns-in_default
unfolding value_bytes
returns-in_default c = c.copy.ensures ∙ copied_whole _ c.args.value.now (sym c.requires) ∙ rw c.in_default.is refl

pub returns-in-Frame : goal.returns-in-Frame
unfolding value_bytes
returns-in-Frame c = c.put_value.ensures ∙ rw (c.in-Some.is, c.in-Frame.is) refl

pub returns-in-Work : goal.returns-in-Work
unfolding value_bytes
returns-in-Work c = c.put_value-in-Work.ensures ∙ rw (c.in-Some.is, c.in-Work.is, c.data_place.ensures) refl
