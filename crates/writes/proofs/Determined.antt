-- DETERMINATION: two outcomes that meet a public function's contract are equal in every lent byte, and no contract asks anything of a caller.
use mathlib.Core.Path.{◌≡◌, sym, ◌∙◌}
use Rattle.writes.proofs.writing.store_data.Reads as store-data
use Rattle.writes.proofs.writing.store_state.Reads as store-state
use Rattle.writes.proofs.writing.store_joined.Reads as store-joined
use Rattle.writes.proofs.writing.keep_piece.Reads as keep-piece

pub store_data_determined : (κs : _) (args : _) (r r' : _) (s s' : _) → store-data.Post κs args r s → store-data.Post κs args r' s'
    → s.1.1.0.now ≡ s'.1.1.0.now
store_data_determined κs args r r' s s' p q = p ∙ sym q

pub store_data_asks_nothing : (κs : _) (args : _) → store-data.Asked κs args
store_data_asks_nothing κs args = tt

pub store_state_determined : (κs : _) (args : _) (r r' : _) (s s' : _) → store-state.Post κs args r s → store-state.Post κs args r' s'
    → s.1.1.0.now ≡ s'.1.1.0.now
store_state_determined κs args r r' s s' p q = p ∙ sym q

pub store_state_asks_nothing : (κs : _) (args : _) → store-state.Asked κs args
store_state_asks_nothing κs args = tt

pub store_joined_determined : (κs : _) (args : _) (r r' : _) (s s' : _) → store-joined.Post κs args r s → store-joined.Post κs args r' s'
    → s.1.1.1.1.0.now ≡ s'.1.1.1.1.0.now
store_joined_determined κs args r r' s s' p q = p ∙ sym q

pub store_joined_asks_nothing : (κs : _) (args : _) → store-joined.Asked κs args
store_joined_asks_nothing κs args = tt

pub keep_piece_determined : (κs : _) (args : _) (r r' : _) (s s' : _) → keep-piece.Post κs args r s → keep-piece.Post κs args r' s'
    → s.1.1.1.1.0.now ≡ s'.1.1.1.1.0.now
keep_piece_determined κs args r r' s s' p q = p ∙ sym q

pub keep_piece_asks_nothing : (κs : _) (args : _) → keep-piece.Asked κs args
keep_piece_asks_nothing κs args = tt
