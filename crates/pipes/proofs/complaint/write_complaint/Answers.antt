use Prim.Native.Nat.{ℕ}
use mathlib.Core.Path.{◌≡◌, ap, ◌∙◌}
use mathlib.Core.List.{List}
use Rattle.std.specs.Prelude.{decimal}
use Rattle.pipes.specs.Buffers.{complaint_text}
use Rattle.pipes.proofs.Filling.{complaint_read}
use Rattle.pipes.proofs.complaint.write_complaint.Goals as goal

pub returns : goal.returns
returns g c =
    let x = c.args in
    let digits : c.as_bytes.result.now ≡ decimal x.place = c.as_bytes.ensures.value ∙ c.format.ensures.text in
    let written : c.held.result.now ≡ complaint_text x.kind.now (decimal x.place) x.number x.rule.now =
    c.held.ensures
    ∙ complaint_read x.kind.now c.as_bytes.result.now x.number x.rule.now c.complaint_of-line.result c.complaint_of-line.ensures
    ∙ ap (λ (p : List ℕ). complaint_text x.kind.now p x.number x.rule.now) digits in
    rw written at c.write_all.ensures.bytes
