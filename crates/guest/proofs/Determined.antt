-- Each public function's contract leaves one outcome, and asks nothing of a caller.
use mathlib.Core.Path.{◌≡◌, sym, ◌∙◌}
use Rattle.guest.proofs.Refusal.number.Reads as number
use Rattle.guest.proofs.Refusal.of_number.Reads as of-number
use Rattle.guest.proofs.Refusal.frames.Reads as frames

pub number_determined : (κs : _) (args : _) (r r' : _) (s s' : _) → number.Post κs args r s → number.Post κs args r' s' → r ≡ r'
number_determined κs args r r' s s' p q = p ∙ sym q

pub of_number_determined : (κs : _) (args : _) (r r' : _) (s s' : _) → of-number.Post κs args r s → of-number.Post κs args r' s' → r ≡ r'
of_number_determined κs args r r' s s' p q = p ∙ sym q

pub frames_determined : (κs : _) (args : _) (r r' : _) (s s' : _) → frames.Post κs args r s → frames.Post κs args r' s' → r ≡ r'
frames_determined κs args r r' s s' p q = p ∙ sym q

pub number_asks_nothing : (κs : _) (args : _) → number.Asked κs args
number_asks_nothing κs args = tt

pub of_number_asks_nothing : (κs : _) (args : _) → of-number.Asked κs args
of_number_asks_nothing κs args = tt

pub frames_asks_nothing : (κs : _) (args : _) → frames.Asked κs args
frames_asks_nothing κs args = tt
