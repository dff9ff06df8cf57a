use mathlib.Core.Path.{◌≡◌, refl, sym, ◌∙◌}
use mathlib.Core.Bool.{not, ◌&&◌}
use lib.Dec.{eqb}
use borrow.Author.Tests.{eq-eqb, ne_eqb}
use Rattle.laws.specs.Bytes.{byte_at}
use Rattle.join.specs.Work.{collecting}
use Rattle.join.proofs.Parts.{few, lacking_idle, filling_as}
use Rattle.join.proofs.order.is_filling.Goals as goal
use Rattle.join.proofs.order.is_filling.Goals.{then-status-eq1, else-status-eq1}

pub returns-in_default : goal.returns-in_default
returns-in_default c =
    let a = c.args in
    sym (lacking_idle (collecting a.width) a.at a.work.now (few a.at a.work.now _ c.record_at.ensures c.in_default.len_below))

pub returns-then-next-ne0 : goal.returns-then-next-ne0
returns-then-next-ne0 c =
    let a = c.args in
    let b = c.record_at.result.now in
    let both : c.if-status-eq1.value ≡ (eqb (byte_at b 0) 1 && not (eqb (byte_at b 3) 0)) = elim c.if-status-eq1.branch [
      | then-status-eq1 w ↦ w.value-is ∙ simp (eq-eqb _ _ w.if-status-eq1.true)
      | else-status-eq1 w ↦ w.value-is ∙ simp (ne_eqb _ _ w.if-status-eq1.false)
    ] in
    rw (filling_as (collecting a.width) a.at a.work.now _ c.record_at.ensures, ← both, c.if-next-ne0.true, c.start_of.ensures.times) refl

pub returns-else-next-ne0 : goal.returns-else-next-ne0
returns-else-next-ne0 c =
    let a = c.args in
    let b = c.record_at.result.now in
    let both : c.if-status-eq1.value ≡ (eqb (byte_at b 0) 1 && not (eqb (byte_at b 3) 0)) = elim c.if-status-eq1.branch [
      | then-status-eq1 w ↦ w.value-is ∙ simp (eq-eqb _ _ w.if-status-eq1.true)
      | else-status-eq1 w ↦ w.value-is ∙ simp (ne_eqb _ _ w.if-status-eq1.false)
    ] in
    rw (filling_as (collecting a.width) a.at a.work.now _ c.record_at.ensures, ← both, c.if-next-ne0.false) refl
