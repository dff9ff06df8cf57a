use mathlib.Core.Path.{refl, sym, ap, ◌∙◌}
use native.Mathlib.Omega.{arith}
use lib.ListN.{length}
use lib.Seq.{take_all}
use borrow.Author.Tests.{le-leb, lt-leb}
use Rattle.octets.specs.Data.{most_data, data_of}
use Rattle.codec.specs.Names.{successful}
use Rattle.guest.specs.Step.{read_frames}
use Rattle.guest.proofs.Frames.{read_count}
use Rattle.answers.proofs.Sending.{subject_ready, single_sent}
use Rattle.answers.proofs.answering.Request.send_fitting.Goals as goal

pub returns-then-part-le-MOST_DATA : goal.returns-then-part-le-MOST_DATA
unfolding read_frames
returns-then-part-le-MOST_DATA c =
    let a = c.args in
    let bs = a.part.now in
    let t = le-leb (length bs) most_data c.if-part-le-MOST_DATA.true in
    let body = c.data_from.ensures ∙ ap data_of (take_all most_data bs c.if-part-le-MOST_DATA.true) in (
      simp t,
      c.send_single.ensures ∙ rw body (simp t (single_sent a.self.own a.self.h a.out.now c.requires.0 successful bs (omega arith) c.if-part-le-MOST_DATA.true)),
    )

pub send_fragments-requires : goal.send_fragments-requires
send_fragments-requires c =
    let a = c.args in
    (rw c.answering.ensures (subject_ready a.self.own a.self.h a.out.now c.requires.0 successful (omega arith)), c.requires.1, refl, c.requires.0.room)

pub returns : goal.returns
unfolding read_frames
returns c =
    let a = c.args in
    let t = lt-leb (length a.part.now) most_data c.if-part-le-MOST_DATA.false in (
      sym (read_count a.self.own a.self.h a.part.now ∙ simp t),
      c.send_fragments.ensures ∙ rw c.answering.ensures (simp t),
    )
