use mathlib.Core.Path.{sym, ◌∙◌}
use native.Mathlib.Omega.{arith}
use lib.ListN.{length}
use borrow.Author.Tests.{le-leb, lt-leb}
use Rattle.answers.specs.Code.{part_fits, part_count, part_sent}
use Rattle.answers.proofs.Sending.{answerable_exactly, part_count_lem, part_sent_lem}
use Rattle.answers.proofs.answering.Request.send_part.Goals as goal

pub returns-then-part-gt255 : goal.returns-then-part-gt255
unfolding part_count part_sent part_fits
returns-then-part-gt255 c =
    let t = lt-leb (length c.args.part.now) 255 (omega (arith, c.if-part-gt255.true)) in
    (simp t, simp t)

pub send_fitting-requires : goal.send_fitting-requires
send_fitting-requires c = ((answerable_exactly _ _ _).0 (sym c.answerable.ensures ∙ c.if-answerable.true), omega (arith, c.if-part-gt255.false))

pub returns-then-answerable : goal.returns-then-answerable
returns-then-answerable c =
    let a = c.args in
    let e = (answerable_exactly _ _ _).0 (sym c.answerable.ensures ∙ c.if-answerable.true) in (
      c.send_fitting.ensures.0 ∙ sym (part_count_lem a.self.own a.self.h a.out.now e a.part.now c.if-part-gt255.false),
      c.send_fitting.ensures.1 ∙ sym (part_sent_lem a.self.own a.self.h a.out.now e a.part.now c.if-part-gt255.false),
    )

pub returns : goal.returns
unfolding part_count part_sent part_fits
returns c =
    let t = le-leb (length c.args.part.now) 255 c.if-part-gt255.false in
    let f = sym c.answerable.ensures ∙ c.if-answerable.false in
    (simp (t, f), simp (t, f))
