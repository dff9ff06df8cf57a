use Rattle.device.proofs.Outcomes.{lost_outcome, done_outcome, kept_outcome}
use Rattle.device.proofs.applying.apply_join.Goals as goal

pub returns-then-is_astray : goal.returns-then-is_astray
returns-then-is_astray c =
    let a = c.args in
    lost_outcome a.to a.part.number a.part.total a.part.body a.request.own a.request.h a.store.now a.work.now a.out.now c.requires.0 c.requires.1
    _ c.place_of-at.ensures _ c.is_astray.ensures c.if-is_astray.true _ _ c.clear.ensures c.refuse.ensures

pub returns-then-is_last : goal.returns-then-is_last
returns-then-is_last c =
    let a = c.args in
    done_outcome a.to a.part.number a.part.total a.part.body a.request.own a.request.h a.store.now a.work.now a.out.now c.requires.0 c.requires.1
    _ c.place_of-at.ensures _ c.is_astray.ensures c.if-is_astray.false _ c.is_last.ensures c.if-is_last.true
    _ _ _ c.store_joined.ensures c.clear-then-is_last.ensures c.acknowledge.ensures

pub returns : goal.returns
returns c =
    let a = c.args in
    kept_outcome a.to a.part.number a.part.total a.part.body a.request.own a.request.h a.store.now a.work.now a.out.now c.requires.0 c.requires.1
    _ c.place_of-at.ensures _ c.is_astray.ensures c.if-is_astray.false _ c.is_last.ensures c.if-is_last.false
    _ c.keep_piece.ensures
