-- Each public function's contract leaves one outcome, and asks nothing of a caller.
use mathlib.Core.Path.{◌≡◌, sym, ◌∙◌}
use Rattle.octets.proofs.bodies.data_from.Reads as data-from
use Rattle.octets.proofs.bodies.no_data.Reads as no-data
use Rattle.octets.proofs.bodies.places_of.Reads as places_of
use Rattle.octets.proofs.bodies.is_tidy.Reads as is-tidy
use Rattle.octets.proofs.copying.copy.Reads as copy
use Rattle.octets.proofs.places.byte_at.Reads as byte_at
use Rattle.octets.proofs.places.zeros.Reads as all-zeros

-- ---- determination: two outcomes that meet a function's contract are equal

pub data_from_determined : (κs : _) (args : _) (r r' : _) (s s' : _) → data-from.Post κs args r s → data-from.Post κs args r' s' → r ≡ r'
data_from_determined κs args r r' s s' p q = p ∙ sym q

pub no_data_determined : (κs : _) (args : _) (r r' : _) (s s' : _) → no-data.Post κs args r s → no-data.Post κs args r' s' → r ≡ r'
no_data_determined κs args r r' s s' p q = p ∙ sym q

pub places_of_determined : (κs : _) (args : _) (r r' : _) (s s' : _) → places_of.Post κs args r s → places_of.Post κs args r' s' → r ≡ r'
places_of_determined κs args r r' s s' p q = p ∙ sym q

pub is_tidy_determined : (κs : _) (args : _) (r r' : _) (s s' : _) → is-tidy.Post κs args r s → is-tidy.Post κs args r' s' → r ≡ r'
is_tidy_determined κs args r r' s s' p q = p ∙ sym q

pub copy_determined : (κs : _) (args : _) (r r' : _) (s s' : _) → copy.Post κs args r s → copy.Post κs args r' s' → s.1.0.now ≡ s'.1.0.now
copy_determined κs args r r' s s' p q = p ∙ sym q

pub byte_at_determined : (κs : _) (args : _) (r r' : _) (s s' : _) → byte_at.Post κs args r s → byte_at.Post κs args r' s' → r ≡ r'
byte_at_determined κs args r r' s s' p q = p ∙ sym q

pub zeros_determined : (κs : _) (args : _) (r r' : _) (s s' : _) → all-zeros.Post κs args r s → all-zeros.Post κs args r' s' → r ≡ r'
zeros_determined κs args r r' s s' p q = p ∙ sym q

-- ---- nothing is asked of a caller

pub data_from_asks_nothing : (κs : _) (args : _) → data-from.Asked κs args
data_from_asks_nothing κs args = tt

pub no_data_asks_nothing : (κs : _) (args : _) → no-data.Asked κs args
no_data_asks_nothing κs args = tt

pub places_of_asks_nothing : (κs : _) (args : _) → places_of.Asked κs args
places_of_asks_nothing κs args = tt

pub is_tidy_asks_nothing : (κs : _) (args : _) → is-tidy.Asked κs args
is_tidy_asks_nothing κs args = tt

pub copy_asks_nothing : (κs : _) (args : _) → copy.Asked κs args
copy_asks_nothing κs args = tt

pub byte_at_asks_nothing : (κs : _) (args : _) → byte_at.Asked κs args
byte_at_asks_nothing κs args = tt

pub zeros_asks_nothing : (κs : _) (args : _) → all-zeros.Asked κs args
zeros_asks_nothing κs args = tt
