use mathlib.Core.Path.{sym, ◌∙◌}
use mathlib.Core.Bool.{or-true}
use borrow.Author.Tests.{eq-eqb, ne_eqb}
use Rattle.laws.proofs.Tests.{tests}
use Rattle.join.specs.Work.{astray}
use Rattle.join.specs.Code.{keyed_by, fragment}
use Rattle.join.proofs.Parts.{few, lacking, astray_as}
use Rattle.join.proofs.order.is_astray.Goals as goal
use Rattle.join.proofs.order.is_astray.Goals.{then-status-ne1-via-then-status-ne1, then-status-ne1-via-else-status-ne1+then-next-piece, then-status-ne1-via-else-status-ne1+else-next-piece+then-total-piece, then-status-ne1-via-else-status-ne1+else-next-piece+else-total-piece+then-not-has_key}

pub returns-then-piece-eq0 : goal.returns-then-piece-eq0
unfolding astray
returns-then-piece-eq0 g c = search tests

pub returns-in_default : goal.returns-in_default
returns-in_default g c =
    let a = c.args in
    sym (lacking (keyed_by g.row.K a.width) a.at a.work.now (fragment a.piece.now) c.if-piece-eq0.false (few a.at a.work.now _ c.record_at-bytes.ensures c.in_default.len_below))

pub returns-then-status-ne1 : goal.returns-then-status-ne1
returns-then-status-ne1 g c =
    let a = c.args in
    rw (astray_as (keyed_by g.row.K a.width) a.at a.work.now _ c.record_at-bytes.ensures (fragment a.piece.now) c.if-piece-eq0.false)
    (elim c.then-status-ne1.branch [
      | then-status-ne1-via-then-status-ne1 w ↦ simp (ne_eqb _ _ w.if-status-ne1.true)
      | then-status-ne1-via-else-status-ne1+then-next-piece w ↦ simp (ne_eqb _ _ w.if-next-piece.true, or-true)
      | then-status-ne1-via-else-status-ne1+else-next-piece+then-total-piece w ↦ simp (ne_eqb _ _ w.if-total-piece.true, or-true)
      | then-status-ne1-via-else-status-ne1+else-next-piece+else-total-piece+then-not-has_key w ↦ simp (sym w.has_key.ensures ∙ w.if-not-has_key.true, or-true)
    ])

pub returns : goal.returns
returns g c =
    let a = c.args in
    let key = sym c.has_key.ensures ∙ c.if-not-has_key.false in
    rw (astray_as (keyed_by g.row.K a.width) a.at a.work.now _ c.record_at-bytes.ensures (fragment a.piece.now) c.if-piece-eq0.false, c.start_of.ensures.times)
    (simp (eq-eqb _ _ c.if-status-ne1.false, eq-eqb _ _ c.if-next-piece.false, eq-eqb _ _ c.if-total-piece.false, key))
