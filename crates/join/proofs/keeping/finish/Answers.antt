use mathlib.Core.Path.{sym, ap, ◌∙◌}
use native.Mathlib.Omega.{arith}
use lib.ListN.{length}
use borrow.Author.Rules.{rules}
use Rattle.laws.proofs.Put.{length_put}
use Rattle.join.specs.Code.{fragment}
use Rattle.join.proofs.Two.{room_in, in_room, last_put}
use Rattle.join.proofs.keeping.finish.Goals as goal

pub put_data-requires : goal.put_data-requires
put_data-requires g c =
    let room = room_in _ _ _ _ _ (sym c.fits_record.ensures ∙ c.if-fits_record.true) in
    (search rules, omega (arith, room.inside, room.body_fits))

pub returns-then-fits_record : goal.returns-then-fits_record
returns-then-fits_record g c =
    let a = c.args in
    let p = fragment a.piece.now in
    let room = room_in _ _ _ _ _ (sym c.fits_record.ensures ∙ c.if-fits_record.true) in
    let long = ap length c.put_data.ensures ∙ length_put a.work.now _ p.bytes (omega (arith, room.inside, room.body_fits)) in
    rw (in_room _ _ _ _ _ room) (last_put a.width a.at p a.work.now _ _ (omega (arith, room.inside, long)) c.put_data.ensures c.clear.ensures)
