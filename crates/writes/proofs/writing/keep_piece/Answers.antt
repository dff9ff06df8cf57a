use mathlib.Core.Path.{◌∙◌}
use Rattle.octets.proofs.Datas.{places_got, places_enough, places_lack}
use Rattle.join.specs.Code.{key_fits}
use Rattle.writes.specs.Code.{kept_piece}
use Rattle.writes.proofs.Storing.{kept_back}
use Rattle.writes.proofs.writing.keep_piece.Goals as goal

pub returns-in_default : goal.returns-in_default
unfolding kept_piece
returns-in_default c = simp (places_lack c.args.body c.places_of-places.result c.places_of-places.ensures c.in_default.ensures.lookup.0)

pub returns : goal.returns
unfolding key_fits
returns c =
    let a = c.args in
    let places = c.places_of-places in
    let got = c.in-Some.ensures.lookup.0 in
    let room = places_enough a.body places.result places.ensures got.1 in
    let body = got.2 ∙ places_got a.body places.result places.ensures in
    kept_back a.to a.number a.body room a.work.now _ c.place_of.ensures _ body a.total _ c.keep.ensures
