use Prim.Native.Nat.{ℕ, ◌-◌}
use mathlib.Core.Path.{◌≡◌, ◌∙◌}
use mathlib.Core.Bool.{◌||◌}
use lib.Dec.{eqb, ltb}
use native.Mathlib.Omega.{arith}
use Rattle.std.proofs.Common.{rules}
use Rattle.std.proofs.lemmas.Iterator.{YieldsList-from_slice}
use Rattle.std.proofs.lemmas.Iterator.Consumers.{YieldsList-from_enumerate}
use Rattle.std.proofs.lemmas.Iterator.Search.{all_from_yields_List}
use borrow.Author.Tests.{tests}
use Rattle.octets.proofs.Datas.{zeros_behind}
use Rattle.octets.proofs.bodies.rest_is_zero.Goals as goal

pub returns-else-held-ge-MOST : goal.returns-else-held-ge-MOST
returns-else-held-ge-MOST c =
    let held = c.args.held in
    let all : held.len - 0 ≡ held.len = omega arith in
    all_from_yields_List (λ (p : ℕ × ℕ). ltb p.0 held.len || eqb p.1 0) _ _ _ c.all.ensures.ran (YieldsList-from_enumerate (YieldsList-from_slice held.places (cc)) (cc))
    (λ x b q k. search (rules, tests))
    ∙ rw all at (zeros_behind held.len 0 held.places)
