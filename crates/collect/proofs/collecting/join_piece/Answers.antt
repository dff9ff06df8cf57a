use Rattle.codec.specs.Reading.{subject_of}
use Rattle.join.specs.Code.{fragment}
use Rattle.collect.proofs.Taking.{lost_join, taken_join}
use Rattle.collect.proofs.collecting.join_piece.Goals as goal

pub returns-then-is_astray : goal.returns-then-is_astray
returns-then-is_astray c =
    let a = c.args in
    lost_join (subject_of a.h) (fragment a.part.now) a.work.now c.requires _ c.place_of-at.ensures _ c.is_astray.ensures c.if-is_astray.true
    _ c.is_filling-filled.ensures _ c.refused.ensures _ c.clear.ensures

pub returns : goal.returns
returns c =
    let a = c.args in
    taken_join (subject_of a.h) (fragment a.part.now) a.work.now c.requires _ c.place_of-at.ensures _ c.is_astray.ensures c.if-is_astray.false
    _ c.begins_over-dropped.ensures _ c.take_piece-value.ensures.0 _ c.take_piece-value.ensures.1
