-- DETERMINATION: two outcomes that meet a public function's contract are equal, and no contract asks anything of a caller. Of a value's part, its bytes.
use mathlib.Core.Path.{◌≡◌, sym, ◌∙◌}
use Rattle.collect.proofs.Refusals.{same_collected}
use Rattle.collect.proofs.collecting.collect.Reads as collect
use Rattle.collect.proofs.counting.counted.Reads as counted
use Rattle.collect.proofs.counting.tallied.Reads as tallied
use Rattle.collect.proofs.showing.part_of.Reads as part_of
use Rattle.collect.proofs.Refusal.number.Reads as number

pub collect_determined : (κs : _) (args : _) (r r' : _) (s s' : _) → collect.Post κs args r s → collect.Post κs args r' s'
    → (r ≡ r') × (s.1.0.now ≡ s'.1.0.now)
collect_determined κs args r r' s s' p q = (same_collected r r' (p.0 ∙ sym q.0), p.1 ∙ sym q.1)

pub counted_determined : (κs : _) (args : _) (r r' : _) (s s' : _) → counted.Post κs args r s → counted.Post κs args r' s' → r ≡ r'
counted_determined κs args r r' s s' p q = p 0 ∙ sym (q 0)

pub tallied_determined : (κs : _) (args : _) (r r' : _) (s s' : _) → tallied.Post κs args r s → tallied.Post κs args r' s' → r ≡ r'
tallied_determined κs args r r' s s' p q = p ∙ sym q

pub part_of_determined : (κs : _) (args : _) (r r' : _) (s s' : _) → part_of.Post κs args r s → part_of.Post κs args r' s' → r.now ≡ r'.now
part_of_determined κs args r r' s s' p q = p ∙ sym q

pub number_determined : (κs : _) (args : _) (r r' : _) (s s' : _) → number.Post κs args r s → number.Post κs args r' s' → r ≡ r'
number_determined κs args r r' s s' p q = p ∙ sym q

pub collect_asks_nothing : (κs : _) (args : _) → collect.Asked κs args
collect_asks_nothing κs args = tt

pub counted_asks_nothing : (κs : _) (args : _) → counted.Asked κs args
counted_asks_nothing κs args = tt

pub tallied_asks_nothing : (κs : _) (args : _) → tallied.Asked κs args
tallied_asks_nothing κs args = tt

pub part_of_asks_nothing : (κs : _) (args : _) → part_of.Asked κs args
part_of_asks_nothing κs args = tt

pub number_asks_nothing : (κs : _) (args : _) → number.Asked κs args
number_asks_nothing κs args = tt
