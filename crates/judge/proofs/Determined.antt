-- Each public function's contract leaves one outcome, and asks nothing of a caller.
use mathlib.Core.Path.{◌≡◌, sym, ◌∙◌}
use Rattle.guest.proofs.Refusals.{passed_by_number}
use Rattle.judge.proofs.frame_checks.route.Reads as route
use Rattle.judge.proofs.frame_checks.misfit.Reads as misfit
use Rattle.judge.proofs.judging.request_plan.Reads as request-plan
use Rattle.judge.proofs.switching.point_for.Reads as point-for
use Rattle.judge.proofs.switching.state_of.Reads as state-of

pub point_for_determined : (κs : _) (args : _) (r r' : _) (s s' : _) → point-for.Post κs args r s → point-for.Post κs args r' s' → r ≡ r'
point_for_determined κs args r r' s s' p q = p ∙ sym q

pub state_of_determined : (κs : _) (args : _) (r r' : _) (s s' : _) → state-of.Post κs args r s → state-of.Post κs args r' s' → r ≡ r'
state_of_determined κs args r r' s s' p q = p ∙ sym q

pub route_determined : (κs : _) (args : _) (r r' : _) (s s' : _) → route.Post κs args r s → route.Post κs args r' s' → r ≡ r'
route_determined κs args r r' s s' p q = passed_by_number r r' (p ∙ sym q)

pub misfit_determined : (κs : _) (args : _) (r r' : _) (s s' : _) → misfit.Post κs args r s → misfit.Post κs args r' s' → r ≡ r'
misfit_determined κs args r r' s s' p q = p ∙ sym q

pub request_plan_determined : (κs : _) (args : _) (r r' : _) (s s' : _) → request-plan.Post κs args r s → request-plan.Post κs args r' s' → r ≡ r'
request_plan_determined κs args r r' s s' p q = p ∙ sym q

pub point_for_asks_nothing : (κs : _) (args : _) → point-for.Asked κs args
point_for_asks_nothing κs args = tt

pub state_of_asks_nothing : (κs : _) (args : _) → state-of.Asked κs args
state_of_asks_nothing κs args = tt

pub route_asks_nothing : (κs : _) (args : _) → route.Asked κs args
route_asks_nothing κs args = tt

pub misfit_asks_nothing : (κs : _) (args : _) → misfit.Asked κs args
misfit_asks_nothing κs args = tt

pub request_plan_asks_nothing : (κs : _) (args : _) → request-plan.Asked κs args
request_plan_asks_nothing κs args = tt
