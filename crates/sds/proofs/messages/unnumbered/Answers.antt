use borrow.Author.Tests.{eq-eqb}
use Rattle.sds.proofs.messages.unnumbered.Goals as goal

pub returns-then-byte_at-eq0 : goal.returns-then-byte_at-eq0
returns-then-byte_at-eq0 c =
    simp (← c.byte_at.ensures, eq-eqb _ 0 c.if-byte_at-eq0.true, c.byte_at-then-byte_at-eq0.ensures)
