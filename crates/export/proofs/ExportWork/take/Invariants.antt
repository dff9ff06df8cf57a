use Rattle.std.proofs.Common.{◌≡◌}
use Rattle.export.proofs.ExportWork.take.Given as goal

-- between two records nothing is held
abbrev pub invariant-loop-record : goal.invariant-loop-record
invariant-loop-record l = l.self.held.used ≡ 0
