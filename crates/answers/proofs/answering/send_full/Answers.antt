use Prim.Native.Nat.{◌*◌}
use mathlib.Core.Path.{◌≡◌, ap, ◌∙◌}
use Rattle.std.proofs.Common.{arith}
use Rattle.laws.specs.Put.{put}
use Rattle.octets.specs.declared.Data.{Data}
use Rattle.octets.specs.Data.{data_of}
use Rattle.codec.specs.declared.Message.TheVariants.{Fragment}
use Rattle.codec.specs.Names.{frame_size}
use Rattle.codec.specs.Writing.{image_of}
use Rattle.answers.proofs.Sending.{full_data, four_bytes, full_tidy}
use Rattle.answers.proofs.answering.send_full.Goals as goal

pub send_piece-requires : goal.send_piece-requires
send_piece-requires c =
    let four = c.args.four.now in
    let whole = full_data four c.requires.1 in
    let bytes = four_bytes four c.requires.1 in
    let same : c.data_from.result ≡ data_of four = grind (arith, whole, bytes) in
    (c.requires.0, rw same (full_tidy four c.requires.1))

pub returns : goal.returns
returns c =
    let a = c.args in
    let whole = full_data a.four.now c.requires.1 in
    let bytes = four_bytes a.four.now c.requires.1 in
    let same : c.data_from.result ≡ data_of a.four.now = grind (arith, whole, bytes) in
    c.send_piece.ensures
    ∙ ap (λ (d : Data). put a.out.now (a.n * frame_size) (image_of (Fragment a.about a.n a.total d))) same
