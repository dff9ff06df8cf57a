use Prim.Native.Nat.{◌<◌}
use lib.ListN.{length}
use native.Mathlib.Omega.{arith}
use Rattle.pipes.specs.Buffers.{appended_count}
use Rattle.export.proofs.ExportWork.take.Goals as goal

pub returns : goal.returns
unfolding appended_count
returns c =
    let rest : length c.remainder-behind.result.now < 10 = rw c.remainder-behind.ensures (omega (arith, c.chunks_exact-records.ensures.remainder_len)) in
    omega (arith, c.append-3.ensures.0, c.loop-record.invariant, rest)
