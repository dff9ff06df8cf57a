use Prim.Native.Nat.{ℕ, ◌+◌, ◌*◌, ◌-◌, ◌≤◌}
use mathlib.Core.Path.{◌≡◌, ap, ◌∙◌}
use lib.Dec.{leb}
use native.Mathlib.Omega.{arith}
use lib.ListN.{length}
use borrow.Author.Tests.{eq-eqb, ne_eqb}
use Rattle.join.specs.Work.{head_size}
use Rattle.join.specs.Code.{keep_fits}
use Rattle.join.proofs.Parts.{room_as, next_byte}
use Rattle.join.proofs.keeping.fits_area.Goals as goal

pub returns-then-piece : goal.returns-then-piece
unfolding keep_fits
returns-then-piece g c =
    let a = c.args in
    let n = a.piece.now.number in
    let byte : n ≤ 255 = omega arith in
    let end = head_size + a.width * n + length a.piece.now.body.now in
    let room : leb end (a.size - a.at) ≡ leb (a.at + head_size + a.width * n + length a.piece.now.body.now) a.size =
    room_as a.size a.at end (omega arith) ∙ ap (λ (k : ℕ). leb k a.size) (omega arith) in
    rw (← next_byte n byte, c.saturating_sub.ensures, c.start_of.ensures.times, ← room) (simp (ne_eqb n 255 c.if-piece.true))

pub returns-else-piece : goal.returns-else-piece
unfolding keep_fits
returns-else-piece g c =
    let n = c.args.piece.now.number in
    let byte : n ≤ 255 = omega arith in
    rw (← next_byte n byte) (simp (eq-eqb n 255 c.if-piece.false))
