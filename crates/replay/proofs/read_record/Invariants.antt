use Rattle.std.proofs.Common.{◌-◌, ◌≤◌}
use Rattle.codec.specs.Names.{frame_size}
use Rattle.replay.proofs.read_record.Given as goal

abbrev pub invariant-loop-have : goal.invariant-loop-have
invariant-loop-have l = l.have ≤ frame_size

abbrev pub decreases-loop-have : goal.decreases-loop-have
decreases-loop-have l = frame_size - l.have
