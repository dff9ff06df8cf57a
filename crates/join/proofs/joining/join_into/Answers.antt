use Prim.Native.Nat.{◌+◌, ◌*◌, ◌<◌}
use mathlib.Core.Path.{◌≡◌, ap, ◌∙◌}
use mathlib.Core.Bool.{and-false}
use native.Mathlib.Omega.{arith}
use lib.ListN.{length, take, drop, length-drop}
use borrow.Author.Tests.{lt-leb, ne_eqb}
use Rattle.join.specs.Work.{head_size}
use Rattle.join.specs.Code.{join_fits}
use Rattle.join.proofs.Parts.{held_range, both_copied, joins}
use Rattle.join.proofs.joining.join_into.Goals as goal

pub returns-in_default : goal.returns-in_default
unfolding join_fits
returns-in_default g c =
    let a = c.args in
    let few : length c.record_at.result.now < head_size + c.start_of-held.result = omega (arith, c.in_default.ensures.lookup) in
    let h : length a.work.now < a.at + head_size + a.width * a.piece.now.number =
    omega (arith, few, ap length c.record_at.ensures ∙ length-drop a.at a.work.now, c.start_of-held.ensures.times) in
    simp (lt-leb _ _ h)

pub returns-then-part-held : goal.returns-then-part-held
returns-then-part-held g c =
    let a = c.args in
    let l = a.work.now in
    let held = c.start_of-held.result in
    let its = c.in-Some.ensures.lookup in
    let times = c.start_of-held.ensures.times in
    let size = ap length c.record_at.ensures ∙ length-drop a.at l in
    let fits = joins (length l) a.at a.width a.piece.now.number (length a.piece.now.body.now) (length a.part.now) (omega arith) (omega arith) in
    let front : c.in-Some.front.now ≡ take (a.width * a.piece.now.number) (drop (a.at + head_size) l) =
    held_range a.at held _ l c.record_at.result.now _ c.record_at.ensures times its.0.2 in
    both_copied held c.in-Some.front.now a.piece.now.body.now a.part.now _ _ (omega arith) c.if-part-held.true c.copy.ensures c.copy-then-part-held.ensures
    ∙ rw front (simp fits)

pub returns-else-part-held : goal.returns-else-part-held
unfolding join_fits
returns-else-part-held g c =
    let a = c.args in
    let long = c.in-Some.ensures.lookup in
    let other : length a.part.now ≡ a.width * a.piece.now.number + length a.piece.now.body.now → ⊥ = λ e. omega (arith, c.start_of-held.ensures.times) in
    simp (ne_eqb _ _ other, and-false)
