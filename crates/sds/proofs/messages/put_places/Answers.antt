use lib.ListN.{length}
use borrow.Author.Tests.{eq-eqb}
use Rattle.laws.proofs.Bytes.{stored}
use Rattle.sds.specs.Border.{long_bytes}
use Rattle.sds.proofs.messages.put_places.Goals as goal

-- Sixteen stores, one for each place, leave the message's bytes.
pub returns : goal.returns
unfolding long_bytes
returns c =
    let a = c.args in
    simp (eq-eqb (length a.message.now) 16 c.if-message-ne-MESSAGE.false)
    (stored a.message.now (long_bytes a.kind a.u a.number a.total a.b) c.if-message-ne-MESSAGE.false)
