use Prim.Native.Nat.{◌+◌, ◌<◌, ◌≤◌}
use mathlib.Core.Bool.{and-false}
use native.Mathlib.Omega.{arith}
use borrow.Author.Tests.{le-leb, lt-leb, lt-ltb, le-ltb}
use Rattle.join.specs.Work.{record_size}
use Rattle.join.specs.Code.{record_fits}
use Rattle.join.proofs.keeping.fits_record.Goals as goal
use Rattle.join.proofs.keeping.fits_record.Goals.{then-saturating_sub-lt-RECORD-via-then-saturating_sub-lt-RECORD, then-saturating_sub-lt-RECORD-via-else-saturating_sub-lt-RECORD+then-piece}

pub returns-then-saturating_sub-lt-RECORD : goal.returns-then-saturating_sub-lt-RECORD
unfolding record_fits
returns-then-saturating_sub-lt-RECORD g c =
    let a = c.args in
    elim c.then-saturating_sub-lt-RECORD.branch [
      | then-saturating_sub-lt-RECORD-via-then-saturating_sub-lt-RECORD w ↦
          let none : a.size < a.at + record_size = omega (arith, c.saturating_sub.ensures, w.if-saturating_sub-lt-RECORD.true) in
          simp (lt-leb _ _ none, and-false)
      | then-saturating_sub-lt-RECORD-via-else-saturating_sub-lt-RECORD+then-piece w ↦
          let most : 255 ≤ a.piece.now.number = omega (arith, w.if-piece.true) in
          simp (le-ltb _ _ most)
    ]

pub returns : goal.returns
unfolding record_fits
returns g c =
    let a = c.args in
    let room : a.at + record_size ≤ a.size = omega (arith, c.saturating_sub.ensures) in
    let next : a.piece.now.number < 255 = omega arith in
    rw c.start_of.ensures.times (simp (lt-ltb _ _ next, le-leb _ _ room))
