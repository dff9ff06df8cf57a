-- DETERMINATION: two outcomes of a call that meet its contract are equal, in number, count and every lent byte, and the contract asks nothing of a caller.
use mathlib.Core.Path.{◌≡◌, sym, ◌∙◌}
use Rattle.guest.specs.Step.{areas, outcome_in}
use Rattle.device.proofs.stepping.step.Reads as step

pub step_determined : (κs : _) (args : _) (r r' : _) (s s' : _) → step.Post κs args r s → step.Post κs args r' s'
    → outcome_in r (areas s.1.1.1.0.now s.1.1.1.1.0.now) s.1.1.1.1.1.0.now
    ≡ outcome_in r' (areas s'.1.1.1.0.now s'.1.1.1.1.0.now) s'.1.1.1.1.1.0.now
step_determined κs args r r' s s' p q = p ∙ sym q

pub step_asks_nothing : (κs : _) (args : _) → step.Asked κs args
step_asks_nothing κs args = tt
