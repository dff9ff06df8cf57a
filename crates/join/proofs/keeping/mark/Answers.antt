use mathlib.Core.List.{[], ◌∷◌}
use native.Mathlib.Numerals.{add-one, add-two, add-three}
use native.Mathlib.Omega.{arith}
use lib.ListN.{length-set}
use lib.Seq.{sets-eq}
use Rattle.laws.specs.Put.{put}
use Rattle.join.proofs.keeping.mark.Goals as goal

pub bounds-work-at-2 : goal.bounds-work-at-2
bounds-work-at-2 c = simp length-set (omega arith)

pub bounds-work-at-3 : goal.bounds-work-at-3
bounds-work-at-3 c = simp length-set (omega arith)

pub bounds-work-at-4 : goal.bounds-work-at-4
bounds-work-at-4 c = simp length-set (omega arith)

pub returns : goal.returns
unfolding put
returns c =
    let a = c.args in
    simp (add-one, add-two, add-three) (sets-eq (1 ∷ a.key ∷ a.total ∷ a.next ∷ []) a.work.now a.at (omega arith))
