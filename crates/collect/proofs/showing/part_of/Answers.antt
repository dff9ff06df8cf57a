use mathlib.Core.Path.{refl, ◌∙◌}
use Rattle.collect.specs.Step.{part_of}
use Rattle.collect.proofs.showing.part_of.Goals as goal

pub returns-in_default : goal.returns-in_default
unfolding part_of
returns-in_default c = rw c.in_default.is refl

pub returns-in-Frame : goal.returns-in-Frame
unfolding part_of
returns-in-Frame c = c.cut.ensures ∙ rw (c.in-Some.is, c.in-Frame.is) refl

pub returns-in-Work : goal.returns-in-Work
unfolding part_of
returns-in-Work c = c.cut-in-Work.ensures ∙ rw (c.in-Some.is, c.in-Work.is, c.data_place.ensures) refl
