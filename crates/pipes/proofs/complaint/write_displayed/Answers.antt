use Prim.Native.Nat.{ℕ}
use mathlib.Core.Path.{ap, ◌∙◌}
use mathlib.Core.Bool.{not}
use mathlib.Core.List.{List}
use Rattle.std.specs.Prelude.{decimal, OnOk}
use Rattle.std.specs.Io.KnownBytes.{Appends}
use Rattle.pipes.proofs.Filling.{displayed, told}
use Rattle.pipes.proofs.complaint.write_displayed.Goals as goal

pub returns : goal.returns
returns g c =
    let x = c.args in
    let words = displayed _ c.new-words.result c.write.new.self c.write.result c.new-words.ensures (c.is_err.ensures.negation ∙ ap not c.if-is_err.false) c.write.ensures.writes in
    told x.kind.now (decimal x.place) x.number (λ (t : List ℕ). OnOk c.write_complaint.result (Appends (g.W.Write.contents x.to.now) (g.W.Write.contents c.write_complaint.new.to) t))
    _ c.held.result.now (rw c.held.ensures words) c.write_complaint.ensures
