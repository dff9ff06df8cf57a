use Rattle.pipes.specs.Buffers.{complaint_room}
use Rattle.pipes.proofs.Filling.{filled_none, filled_more, complaint_made}
use Rattle.pipes.proofs.complaint.complaint_of.Goals as goal

pub returns : goal.returns
returns c =
    let f0 = filled_none complaint_room _ _ c.new-text.ensures in
    let f1 = filled_more complaint_room _ _ _ _ f0 _ _ c.append.ensures in
    let f2 = filled_more complaint_room _ _ _ _ f1 _ _ c.append-2.ensures in
    let f3 = filled_more complaint_room _ _ _ _ f2 _ _ c.append-3.ensures in
    let f4 = filled_more complaint_room _ _ _ _ f3 _ _ c.append-4.ensures in
    let f5 = filled_more complaint_room _ _ _ _ f4 _ _ c.append-5.ensures in
    complaint_made _ _ _ _ (filled_more complaint_room _ _ _ _ f5 _ _ c.append-6.ensures)
