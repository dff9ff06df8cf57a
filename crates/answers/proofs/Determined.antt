-- DETERMINATION: two outcomes that meet a public function's contract are equal, in the count and every lent byte, and the contract asks nothing of a caller.
use mathlib.Core.Path.{◌≡◌, sym, ◌∙◌}
use Rattle.answers.proofs.answering.code_of.Reads as code_of_lem
use Rattle.answers.proofs.answering.refuse.Reads as refuse
use Rattle.answers.proofs.answering.Request.refuse.Reads as request-refuse
use Rattle.answers.proofs.answering.Request.acknowledge.Reads as acknowledge
use Rattle.answers.proofs.answering.Request.acknowledge_short.Reads as acknowledge-short
use Rattle.answers.proofs.answering.Request.send_part.Reads as send-part

pub code_of_determined : (κs : _) (args : _) (r r' : _) (s s' : _) → code_of_lem.Post κs args r s → code_of_lem.Post κs args r' s' → r ≡ r'
code_of_determined κs args r r' s s' p q = p ∙ sym q

pub code_of_asks_nothing : (κs : _) (args : _) → code_of_lem.Asked κs args
code_of_asks_nothing κs args = tt

pub refuse_determined : (κs : _) (args : _) (r r' : _) (s s' : _) → refuse.Post κs args r s → refuse.Post κs args r' s'
    → s.1.1.1.0.now ≡ s'.1.1.1.0.now
refuse_determined κs args r r' s s' p q = p ∙ sym q

pub refuse_asks_nothing : (κs : _) (args : _) → refuse.Asked κs args
refuse_asks_nothing κs args = tt

pub request_refuse_determined : (κs : _) (args : _) (r r' : _) (s s' : _) → request-refuse.Post κs args r s → request-refuse.Post κs args r' s'
    → s.1.1.0.now ≡ s'.1.1.0.now
request_refuse_determined κs args r r' s s' p q = p ∙ sym q

pub request_refuse_asks_nothing : (κs : _) (args : _) → request-refuse.Asked κs args
request_refuse_asks_nothing κs args = tt

pub acknowledge_determined : (κs : _) (args : _) (r r' : _) (s s' : _) → acknowledge.Post κs args r s → acknowledge.Post κs args r' s'
    → s.1.0.now ≡ s'.1.0.now
acknowledge_determined κs args r r' s s' p q = p ∙ sym q

pub acknowledge_asks_nothing : (κs : _) (args : _) → acknowledge.Asked κs args
acknowledge_asks_nothing κs args = tt

pub send_part_determined : (κs : _) (args : _) (r r' : _) (s s' : _) → send-part.Post κs args r s → send-part.Post κs args r' s'
    → (r ≡ r') × (s.1.1.0.now ≡ s'.1.1.0.now)
send_part_determined κs args r r' s s' p q = (p.0 ∙ sym q.0, p.1 ∙ sym q.1)

pub send_part_asks_nothing : (κs : _) (args : _) → send-part.Asked κs args
send_part_asks_nothing κs args = tt

pub acknowledge_short_determined : (κs : _) (args : _) (r r' : _) (s s' : _) → acknowledge-short.Post κs args r s → acknowledge-short.Post κs args r' s'
    → s.1.0.now ≡ s'.1.0.now
acknowledge_short_determined κs args r r' s s' p q = p ∙ sym q

pub acknowledge_short_asks_nothing : (κs : _) (args : _) → acknowledge-short.Asked κs args
acknowledge_short_asks_nothing κs args = tt
