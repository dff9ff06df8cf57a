use Prim.Native.Nat.{ℕ, ◌+◌, ◌-◌, ◌*◌}
use mathlib.Core.Path.{◌≡◌, refl, ap, ◌∙◌}
use native.Mathlib.Omega.{arith}
use lib.ListN.{length, take, drop}
use borrow.Rule.Slice.PartMut.{mid_len}
use Rattle.laws.specs.Put.{put}
use Rattle.octets.proofs.Copies.{copied_whole}
use Rattle.join.specs.Work.{head_size}
use Rattle.join.proofs.Parts.{put_mid_lem}
use Rattle.join.proofs.keeping.put_data.Goals as goal

pub returns : goal.returns
returns g c =
    let a = c.args in
    let l = a.work.now in
    let body = a.piece.now.body.now in
    let start = a.at + head_size + c.start_of.result in
    let end = start + length body in
    let place : start ≡ a.at + head_size + a.width * a.piece.now.number = omega (arith, c.start_of.ensures.times) in
    let room = mid_len start end l (omega (arith, place)) in
    put_mid_lem start end l _ body refl (c.copy.ensures ∙ copied_whole body (take (end - start) (drop start l)) (omega (arith, room)))
    ∙ ap (λ (n : ℕ). put l n body) place
