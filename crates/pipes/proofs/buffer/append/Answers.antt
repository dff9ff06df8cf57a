use Rattle.pipes.proofs.Filling.{no_room, put_in}
use native.Mathlib.Omega.{arith}
use Rattle.pipes.proofs.buffer.append.Goals as goal

pub returns-then-buffer-used : goal.returns-then-buffer-used
returns-then-buffer-used c = let x = c.args in no_room x.part.now x.used x.buffer.now c.if-buffer-used.true

pub returns : goal.returns
returns c =
    let x = c.args in
    put_in x.part.now x.used x.buffer.now (omega arith) c.min-n.result c.min-n.ensures _ c.copy_from_slice.ensures.after
