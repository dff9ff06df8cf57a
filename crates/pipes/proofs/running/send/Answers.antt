use mathlib.Core.Path.{sym, ◌∙◌}
use Rattle.pipes.proofs.Filling.{from_front, from_behind}
use Rattle.pipes.proofs.running.send.Goals as goal

pub returns-then-lacks_room : goal.returns-then-lacks_room
returns-then-lacks_room c =
    let x = c.args in
    let e = from_front x.part.now x.used x.buffer.now (sym c.lacks_room.ensures ∙ c.if-lacks_room.true) in
    rw e c.append.ensures

pub returns : goal.returns
returns c =
    let x = c.args in
    let e = from_behind x.part.now x.used x.buffer.now (sym c.lacks_room.ensures ∙ c.if-lacks_room.false) in
    rw e c.append-2.ensures
