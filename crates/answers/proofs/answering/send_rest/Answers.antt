use mathlib.Core.Path.{ap, ◌∙◌}
use Rattle.octets.specs.Data.{data_of}
use Rattle.guest.specs.Step.{fragment_frame}
use Rattle.answers.proofs.Sending.{part_tidy, rest_cut}
use Rattle.answers.proofs.answering.send_rest.Goals as goal

pub send_piece-requires : goal.send_piece-requires
send_piece-requires c =
    let a = c.args in
    let body = c.data_from-body.ensures ∙ ap data_of (rest_cut a.part.now a.n c.requires.2) in
    (c.requires.0, rw body (part_tidy a.part.now a.n))

pub returns : goal.returns
unfolding fragment_frame
returns c =
    let a = c.args in
    c.send_piece.ensures ∙ rw (c.data_from-body.ensures ∙ ap data_of (rest_cut a.part.now a.n c.requires.2))
