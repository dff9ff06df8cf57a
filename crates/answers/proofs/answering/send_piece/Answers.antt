use mathlib.Core.Path.{◌∙◌}
use native.Mathlib.Omega.{arith}
use Rattle.codec.specs.Writing.{frame_of, image_of}
use Rattle.codec.proofs.Images.{places_are_image, prefixed_is, fragment_payload}
use Rattle.answers.proofs.answering.send_piece.Goals as goal

pub returns : goal.returns
unfolding image_of frame_of
returns c =
    let a = c.args in
    let t = c.requires.1 in
    let e = c.prefixed.ensures ∙ prefixed_is _ _ _ t in
    let p = fragment_payload a.n a.total a.body t in
    c.send.ensures
    ∙ rw (e, places_are_image a.about 1 _ c.requires.0.subject (omega arith) p.0, p.1)
