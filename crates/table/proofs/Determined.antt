-- Each public function's contract leaves one outcome, and asks nothing of a caller.
use mathlib.Core.Path.{◌≡◌, sym, ◌∙◌}
use Rattle.table.proofs.descriptor.descriptor_size.Reads as descriptor-size
use Rattle.table.proofs.sizes.lengths_fit.Reads as lengths-fit
use Rattle.table.proofs.entries.well_formed.Reads as well-formed
use Rattle.table.proofs.entries.may_read.Reads as may_read_lem
use Rattle.table.proofs.entries.may_write.Reads as may_write_lem
use Rattle.table.proofs.entries.single_boolean.Reads as single-boolean
use Rattle.table.proofs.finding.find.Reads as find
use Rattle.table.proofs.finding.first_network.Reads as first-network
use Rattle.table.proofs.finding.part.Reads as part

-- ---- determination: two outcomes that meet a function's contract are equal. Of a part of the store, its bytes

pub descriptor_size_determined : (κs : _) (args : _) (r r' : _) (s s' : _) → descriptor-size.Post κs args r s → descriptor-size.Post κs args r' s' → r ≡ r'
descriptor_size_determined κs args r r' s s' p q = p ∙ sym q

pub lengths_fit_determined : (κs : _) (args : _) (r r' : _) (s s' : _) → lengths-fit.Post κs args r s → lengths-fit.Post κs args r' s' → r ≡ r'
lengths_fit_determined κs args r r' s s' p q = p ∙ sym q

pub well_formed_determined : (κs : _) (args : _) (r r' : _) (s s' : _) → well-formed.Post κs args r s → well-formed.Post κs args r' s' → r ≡ r'
well_formed_determined κs args r r' s s' p q = p ∙ sym q

pub may_read_determined : (κs : _) (args : _) (r r' : _) (s s' : _) → may_read_lem.Post κs args r s → may_read_lem.Post κs args r' s' → r ≡ r'
may_read_determined κs args r r' s s' p q = p ∙ sym q

pub may_write_determined : (κs : _) (args : _) (r r' : _) (s s' : _) → may_write_lem.Post κs args r s → may_write_lem.Post κs args r' s' → r ≡ r'
may_write_determined κs args r r' s s' p q = p ∙ sym q

pub find_determined : (κs : _) (args : _) (r r' : _) (s s' : _) → find.Post κs args r s → find.Post κs args r' s' → r ≡ r'
find_determined κs args r r' s s' p q = p ∙ sym q

pub single_boolean_determined : (κs : _) (args : _) (r r' : _) (s s' : _) → single-boolean.Post κs args r s → single-boolean.Post κs args r' s' → r ≡ r'
single_boolean_determined κs args r r' s s' p q = p ∙ sym q

pub first_network_determined : (κs : _) (args : _) (r r' : _) (s s' : _) → first-network.Post κs args r s → first-network.Post κs args r' s' → r ≡ r'
first_network_determined κs args r r' s s' p q = p ∙ sym q

pub part_determined : (κs : _) (args : _) (r r' : _) (s s' : _) → part.Post κs args r s → part.Post κs args r' s' → r.now ≡ r'.now
part_determined κs args r r' s s' p q = p ∙ sym q

-- ---- nothing is asked of a caller

pub descriptor_size_asks_nothing : (κs : _) (args : _) → descriptor-size.Asked κs args
descriptor_size_asks_nothing κs args = tt

pub lengths_fit_asks_nothing : (κs : _) (args : _) → lengths-fit.Asked κs args
lengths_fit_asks_nothing κs args = tt

pub well_formed_asks_nothing : (κs : _) (args : _) → well-formed.Asked κs args
well_formed_asks_nothing κs args = tt

pub may_read_asks_nothing : (κs : _) (args : _) → may_read_lem.Asked κs args
may_read_asks_nothing κs args = tt

pub may_write_asks_nothing : (κs : _) (args : _) → may_write_lem.Asked κs args
may_write_asks_nothing κs args = tt

pub find_asks_nothing : (κs : _) (args : _) → find.Asked κs args
find_asks_nothing κs args = tt

pub single_boolean_asks_nothing : (κs : _) (args : _) → single-boolean.Asked κs args
single_boolean_asks_nothing κs args = tt

pub first_network_asks_nothing : (κs : _) (args : _) → first-network.Asked κs args
first_network_asks_nothing κs args = tt

pub part_asks_nothing : (κs : _) (args : _) → part.Asked κs args
part_asks_nothing κs args = tt
