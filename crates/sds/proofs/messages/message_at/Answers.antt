use mathlib.Core.Path.{sym, ◌∙◌}
use Rattle.sds.proofs.Places.{plain_in, fragment_in}
use Rattle.sds.proofs.messages.message_at.Goals as goal

pub returns-in-1 : goal.returns-in-1
returns-in-1 c =
    rw (c.subject_at.ensures, c.data_at.ensures)
    (plain_in _ (sym c.byte_at.ensures ∙ c.in-1.is) (sym c.unnumbered.ensures ∙ c.if-unnumbered.true))

pub returns-in-2 : goal.returns-in-2
returns-in-2 c =
    rw (c.subject_at-in-2.ensures, c.byte_at-in-2.ensures, c.byte_at-in-2-2.ensures, c.data_at-in-2.ensures)
    (fragment_in _ (sym c.byte_at.ensures ∙ c.in-2.is))
