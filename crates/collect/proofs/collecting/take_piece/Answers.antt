use mathlib.Core.Path.{sym, ◌∙◌}
use Rattle.codec.specs.Reading.{subject_of}
use Rattle.join.specs.Code.{fragment}
use Rattle.collect.specs.Code.{taken_value}
use Rattle.collect.proofs.Taking.{finished_work, kept_work}
use Rattle.collect.proofs.collecting.take_piece.Goals as goal

pub returns-then-is_last : goal.returns-then-is_last
unfolding taken_value
returns-then-is_last c =
    let a = c.args in
    let is = sym c.is_last.ensures ∙ c.if-is_last.true in
    (simp is, finished_work (subject_of a.h) (fragment a.part.now) a.work.now c.requires _ c.place_of-at.ensures _ is c.finish.ensures)

pub returns : goal.returns
unfolding taken_value
returns c =
    let a = c.args in
    let is = sym c.is_last.ensures ∙ c.if-is_last.false in
    (simp is, kept_work (subject_of a.h) (fragment a.part.now) a.work.now c.requires _ c.place_of-at.ensures _ is c.keep.ensures)
