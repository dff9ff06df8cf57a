use Prim.Native.Nat.{◌*◌, ◌<◌, ◌≤◌}
use native.Mathlib.Omega.{arith}
use borrow.Author.Tests.{lt-ltb}
use Rattle.laws.proofs.Tests.{tests}
use Rattle.join.specs.Work.{shaped_by}
use Rattle.join.proofs.order.is_shaped.Goals as goal

pub returns-then-start-end : goal.returns-then-start-end
unfolding shaped_by
returns-then-start-end c =
    let a = c.args in
    let inside : a.width * a.number < a.total = omega (arith, c.start_of-start.ensures.times) in
    rw (c.min.ensures, c.start_of-start.ensures.times) (simp (lt-ltb (a.width * a.number) a.total inside))

pub returns-else-start-end : goal.returns-else-start-end
unfolding shaped_by
returns-else-start-end c =
    let a = c.args in
    let h : a.total ≤ a.width * a.number = omega (arith, c.start_of-start.ensures.times) in
    search tests
