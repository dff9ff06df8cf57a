use mathlib.Core.List.{[], ◌∷◌}
use native.Mathlib.Omega.{arith}
use lib.Seq.{sets-eq}
use Rattle.laws.specs.Put.{put}
use Rattle.laws.proofs.Tests.{tests}
use borrow.Author.Tests.{lt-ltb}
use Rattle.writes.specs.Code.{stored_state}
use Rattle.writes.proofs.writing.store_state.Goals as goal

pub returns-else-place-store : goal.returns-else-place-store
unfolding stored_state
returns-else-place-store c = search tests

pub returns-then-place-store : goal.returns-then-place-store
unfolding stored_state put
returns-then-place-store c =
    let a = c.args in
    simp (lt-ltb _ _ c.if-place-store.true) (sets-eq (a.state ∷ []) a.store.now a.to.offset (omega arith))
