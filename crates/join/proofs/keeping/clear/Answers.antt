use mathlib.Core.List.{[], ◌∷◌}
use native.Mathlib.Omega.{arith}
use lib.Seq.{sets-eq}
use borrow.Author.Tests.{lt-ltb}
use Rattle.laws.specs.Put.{put}
use Rattle.join.proofs.keeping.clear.Goals as goal

pub returns-then-at-work : goal.returns-then-at-work
unfolding put
returns-then-at-work c =
    let a = c.args in
    simp (lt-ltb _ _ c.if-at-work.true) (sets-eq (0 ∷ []) a.work.now a.at (omega arith))
