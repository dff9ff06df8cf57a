-- DETERMINATION: two outcomes that meet a public function's contract are equal, and no contract asks anything of a caller.
use Prim.Native.Nat.{ℕ, ◌^◌, ◌≤◌}
use borrow.Author.Rules.{rules}
use mir.Syntax.{w64}
use mir.Val.{Fits}
use mathlib.Core.Path.{◌≡◌, sym, ◌∙◌}
use native.Mathlib.Omega.{arith}
use Rattle.join.proofs.place.place_of.Reads as place_of
use Rattle.join.proofs.place.data_place.Reads as data-place
use Rattle.join.proofs.order.is_shaped.Reads as is-shaped
use Rattle.join.proofs.order.is_astray.Reads as is-astray
use Rattle.join.proofs.order.is_last.Reads as is_last
use Rattle.join.proofs.keeping.keep.Reads as keep
use Rattle.join.proofs.keeping.clear.Reads as clear
use Rattle.join.proofs.joining.join_into.Reads as join-into
use Rattle.join.proofs.order.is_filling.Reads as is-filling
use Rattle.join.proofs.keeping.finish.Reads as finish

-- ---- the result

pub place_of_determined : (κs : _) (args : _) (r r' : _) (s s' : _) → place_of.Post κs args r s → place_of.Post κs args r' s' → r ≡ r'
place_of_determined κs args r r' s s' p q = p ∙ sym q

pub is_shaped_determined : (κs : _) (args : _) (r r' : _) (s s' : _) → is-shaped.Post κs args r s → is-shaped.Post κs args r' s' → r ≡ r'
is_shaped_determined κs args r r' s s' p q = p ∙ sym q

pub is_astray_determined : (K : ℕ) (fits : _) (κs : _) (args : _) (r r' : _) (s s' : _) → is-astray.Post K fits κs args r s → is-astray.Post K fits κs args r' s' → r ≡ r'
is_astray_determined K fits κs args r r' s s' p q = p ∙ sym q

pub is_last_determined : (K : ℕ) (fits : _) (κs : _) (args : _) (r r' : _) (s s' : _) → is_last.Post K fits κs args r s → is_last.Post K fits κs args r' s' → r ≡ r'
is_last_determined K fits κs args r r' s s' p q = p ∙ sym q

pub data_place_determined : (κs : _) (args : _) (r r' : _) (s s' : _) → data-place.Post κs args r s → data-place.Post κs args r' s' → r ≡ r'
data_place_determined κs args r r' s s' p q = p ∙ sym q

pub is_filling_determined : (κs : _) (args : _) (r r' : _) (s s' : _) → is-filling.Post κs args r s → is-filling.Post κs args r' s' → r ≡ r'
is_filling_determined κs args r r' s s' p q = p ∙ sym q

-- ---- the lent slice at exit

pub keep_determined : (K : ℕ) (fits : _) (κs : _) (args : _) (r r' : _) (s s' : _) → keep.Post K fits κs args r s → keep.Post K fits κs args r' s' → s.0.now ≡ s'.0.now
keep_determined K fits κs args r r' s s' p q = p ∙ sym q

pub clear_determined : (κs : _) (args : _) (r r' : _) (s s' : _) → clear.Post κs args r s → clear.Post κs args r' s' → s.0.now ≡ s'.0.now
clear_determined κs args r r' s s' p q = p ∙ sym q

pub join_into_determined : (K : ℕ) (fits : _) (κs : _) (args : _) (r r' : _) (s s' : _) → join-into.Post K fits κs args r s → join-into.Post K fits κs args r' s'
    → s.1.1.1.1.0.now ≡ s'.1.1.1.1.0.now
join_into_determined K fits κs args r r' s s' p q = p ∙ sym q

pub finish_determined : (K : ℕ) (fits : _) (κs : _) (args : _) (r r' : _) (s s' : _) → finish.Post K fits κs args r s → finish.Post K fits κs args r' s' → s.0.now ≡ s'.0.now
finish_determined K fits κs args r r' s s' p q = p ∙ sym q

-- ---- nothing is asked of a caller. (Of a type with a parameter the language wants that it has a size: a key of 2 ^ 62 bytes, of which one and two are used.)

pub place_of_asks_nothing : (κs : _) (args : _) → place_of.Asked κs args
place_of_asks_nothing κs args = tt

pub is_shaped_asks_nothing : (κs : _) (args : _) → is-shaped.Asked κs args
is_shaped_asks_nothing κs args = tt

pub is_astray_of_any_asks_nothing : (K : ℕ) (small : K ≤ 2 ^ 62) (fits : _) (κs : _) (args : _) → is-astray.Asked K fits κs args
is_astray_of_any_asks_nothing K small fits κs args = search rules

pub is_last_of_any_asks_nothing : (K : ℕ) (small : K ≤ 2 ^ 62) (fits : _) (κs : _) (args : _) → is_last.Asked K fits κs args
is_last_of_any_asks_nothing K small fits κs args = search rules

pub keep_of_any_asks_nothing : (K : ℕ) (small : K ≤ 2 ^ 62) (fits : _) (κs : _) (args : _) → keep.Asked K fits κs args
keep_of_any_asks_nothing K small fits κs args = search rules

pub clear_asks_nothing : (κs : _) (args : _) → clear.Asked κs args
clear_asks_nothing κs args = tt

pub join_into_of_any_asks_nothing : (K : ℕ) (small : K ≤ 2 ^ 62) (fits : _) (κs : _) (args : _) → join-into.Asked K fits κs args
join_into_of_any_asks_nothing K small fits κs args = search rules

pub data_place_asks_nothing : (κs : _) (args : _) → data-place.Asked κs args
data_place_asks_nothing κs args = tt

pub is_filling_asks_nothing : (κs : _) (args : _) → is-filling.Asked κs args
is_filling_asks_nothing κs args = tt

pub finish_of_any_asks_nothing : (K : ℕ) (small : K ≤ 2 ^ 62) (fits : _) (κs : _) (args : _) → finish.Asked K fits κs args
finish_of_any_asks_nothing K small fits κs args = search rules

-- ---- and of a key of none, one or two bytes, which are in use, nothing at all

abbrev pub none_fits : Fits w64 0
none_fits = record { fits = omega arith }

abbrev pub one_fits : Fits w64 1
one_fits = record { fits = omega arith }

abbrev pub two_fits : Fits w64 2
two_fits = record { fits = omega arith }

pub is_astray_asks_nothing : (κs : _) (args : _) → is-astray.Asked 1 one_fits κs args
is_astray_asks_nothing = is_astray_of_any_asks_nothing 1 (omega arith) one_fits

pub is_astray_of_two_asks_nothing : (κs : _) (args : _) → is-astray.Asked 2 two_fits κs args
is_astray_of_two_asks_nothing = is_astray_of_any_asks_nothing 2 (omega arith) two_fits

pub is_last_asks_nothing : (κs : _) (args : _) → is_last.Asked 1 one_fits κs args
is_last_asks_nothing = is_last_of_any_asks_nothing 1 (omega arith) one_fits

pub is_last_of_two_asks_nothing : (κs : _) (args : _) → is_last.Asked 2 two_fits κs args
is_last_of_two_asks_nothing = is_last_of_any_asks_nothing 2 (omega arith) two_fits

pub keep_asks_nothing : (κs : _) (args : _) → keep.Asked 1 one_fits κs args
keep_asks_nothing = keep_of_any_asks_nothing 1 (omega arith) one_fits

pub keep_of_two_asks_nothing : (κs : _) (args : _) → keep.Asked 2 two_fits κs args
keep_of_two_asks_nothing = keep_of_any_asks_nothing 2 (omega arith) two_fits

pub join_into_asks_nothing : (κs : _) (args : _) → join-into.Asked 0 none_fits κs args
join_into_asks_nothing = join_into_of_any_asks_nothing 0 (omega arith) none_fits

pub finish_asks_nothing : (κs : _) (args : _) → finish.Asked 2 two_fits κs args
finish_asks_nothing = finish_of_any_asks_nothing 2 (omega arith) two_fits
