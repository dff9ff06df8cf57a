use mathlib.Core.Path.{◌∙◌}
use mathlib.Core.Bool.{and-false}
use Rattle.octets.proofs.Datas.{places_got, places_enough, places_lack}
use Rattle.laws.proofs.Tests.{tests}
use Rattle.writes.specs.Code.{stored_joined, joined_fits}
use Rattle.writes.proofs.Storing.{joined_back}
use Rattle.writes.proofs.writing.store_joined.Goals as goal

pub returns-in_default : goal.returns-in_default
unfolding stored_joined joined_fits
returns-in_default c = simp (places_lack c.args.body c.places_of-places.result c.places_of-places.ensures c.in_default.ensures.lookup.0)

pub returns-then-store-end : goal.returns-then-store-end
unfolding stored_joined joined_fits
returns-then-store-end c = search (tests, and-false)

pub returns : goal.returns
returns c =
    let a = c.args in
    let places = c.places_of-places in
    let got = c.in-Some.ensures.lookup.0 in
    let room = places_enough a.body places.result places.ensures got.1 in
    let body = got.2 ∙ places_got a.body places.result places.ensures in
    joined_back a.to a.number a.body room a.work.now _ c.place_of.ensures _ body a.store.now _ c.if-store-end.false c.join_into.ensures
