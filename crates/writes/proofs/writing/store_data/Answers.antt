use Prim.Native.Nat.{◌+◌}
use mathlib.Core.Path.{◌∙◌}
use mathlib.Core.Bool.{and-false}
use native.Mathlib.Omega.{arith}
use lib.ListN.{length}
use borrow.Author.Tests.{lt-leb}
use Rattle.octets.proofs.Datas.{places_got, places_enough, places_lack}
use Rattle.writes.specs.Code.{stored_data}
use Rattle.writes.proofs.Storing.{data_back}
use Rattle.writes.proofs.writing.store_data.Goals as goal

pub returns-in_default : goal.returns-in_default
unfolding stored_data
returns-in_default c = simp (places_lack c.args.body c.places_of-places.result c.places_of-places.ensures c.in_default.ensures.lookup.0)

pub returns-then-store-end : goal.returns-then-store-end
unfolding stored_data
returns-then-store-end c =
    let a = c.args in
    simp (lt-leb (a.to.offset + a.body.len) (length a.store.now) (omega (arith, c.in-Some.ensures.lookup.0.3)), and-false)

pub returns : goal.returns
returns c =
    let a = c.args in
    let places = c.places_of-places in
    let got = c.in-Some.ensures.lookup.0 in
    let room = places_enough a.body places.result places.ensures got.1 in
    let body = got.2 ∙ places_got a.body places.result places.ensures in
    data_back a.to a.body room _ body a.store.now _ c.if-store-end.false c.copy.ensures
