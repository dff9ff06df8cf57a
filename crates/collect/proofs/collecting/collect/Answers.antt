use Prim.Native.Nat.{ℕ}
use mathlib.Core.Path.{sym, ap, ◌∙◌}
use Rattle.codec.specs.declared.Header.{Header}
use Rattle.codec.specs.Code.{payload_in}
use Rattle.codec.proofs.Errors.{readable_unrefused, unreadable}
use Rattle.collect.proofs.Groups.{guest_below, payload_part, numbered, misfit_call, malformed_call, short_call, unanswering_call, whole_call, fragment_call}
use Rattle.collect.proofs.collecting.collect.Goals as goal
use Rattle.collect.proofs.collecting.collect.Goals.{then-h-eq0-via-then-h-eq0, then-h-eq0-via-else-h-eq0+then-not-answers_read}

pub returns-then-work-ne-AREA : goal.returns-then-work-ne-AREA
returns-then-work-ne-AREA c =
    let a = c.args in
    misfit_call a.frame.now a.work.now c.if-work-ne-AREA.true _ c.refused.ensures

pub returns-then-is_err : goal.returns-then-is_err
returns-then-is_err c =
    let a = c.args in
    malformed_call a.frame.now a.work.now c.if-work-ne-AREA.false (unreadable _ _ c.readable.ensures (sym c.is_err.ensures.value ∙ c.if-is_err.true)) _ c.refused-then-is_err.ensures

pub returns-then-h-eq0 : goal.returns-then-h-eq0
returns-then-h-eq0 c =
    let a = c.args in
    let is = c.header_of-h.ensures in
    let got = readable_unrefused _ _ c.readable.ensures (sym c.is_err.ensures.value ∙ c.if-is_err.false) in
    elim c.then-h-eq0.branch [
      | then-h-eq0-via-then-h-eq0 w ↦
          short_call a.frame.now a.work.now c.if-work-ne-AREA.false got (rw is at w.if-h-eq0.true) _ c.refused-then-h-eq0.ensures
      | then-h-eq0-via-else-h-eq0+then-not-answers_read w ↦
          unanswering_call a.frame.now a.work.now c.if-work-ne-AREA.false got (rw is at w.if-h-eq0.false)
          (rw is at (sym w.answers_read.ensures ∙ w.if-not-answers_read.true)) _ c.refused-then-h-eq0.ensures
    ]

pub returns-then-h-ne1 : goal.returns-then-h-ne1
returns-then-h-ne1 c =
    let a = c.args in
    let is = c.header_of-h.ensures in
    let got = readable_unrefused _ _ c.readable.ensures (sym c.is_err.ensures.value ∙ c.if-is_err.false) in
    whole_call a.frame.now a.work.now c.if-work-ne-AREA.false got (rw is at c.if-h-eq0.false) (rw is at (sym c.answers_read.ensures ∙ c.if-not-answers_read.false)) (rw is at c.if-h-ne1.true) _ (rw is at c.whole.ensures)

pub fragment-requires : goal.fragment-requires
fragment-requires c =
    let a = c.args in
    let is = c.header_of-h.ensures in
    let got = readable_unrefused _ _ c.readable.ensures (sym c.is_err.ensures.value ∙ c.if-is_err.false) in
    let payload = c.payload_in.ensures ∙ ap (λ (d : ℕ). payload_in d a.frame.now) (ap (λ (h : Header). h.dlc) is) ∙ payload_part a.frame.now got in
    (record { sized = c.if-work-ne-AREA.false; below = rw is (guest_below a.frame.now got) }, rw payload (numbered a.frame.now got (rw is at c.if-h-eq0.false) (rw is at c.if-h-ne1.false)))

pub returns : goal.returns
returns c =
    let a = c.args in
    let is = c.header_of-h.ensures in
    let got = readable_unrefused _ _ c.readable.ensures (sym c.is_err.ensures.value ∙ c.if-is_err.false) in
    let payload = c.payload_in.ensures ∙ ap (λ (d : ℕ). payload_in d a.frame.now) (ap (λ (h : Header). h.dlc) is) ∙ payload_part a.frame.now got in
    fragment_call a.frame.now a.work.now c.if-work-ne-AREA.false got (rw is at c.if-h-eq0.false) (rw is at (sym c.answers_read.ensures ∙ c.if-not-answers_read.false)) (rw is at c.if-h-ne1.false) _ _ (rw (is, payload) at c.fragment.ensures)
