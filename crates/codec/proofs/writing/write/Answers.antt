use Rattle.codec.proofs.Images.{fragment_written}
use Rattle.codec.proofs.writing.write.Goals as goal

pub returns-in-Fragment : goal.returns-in-Fragment
returns-in-Fragment c =
    rw c.in-Fragment.is
    (fragment_written _ c.if-frame-ne-FRAME_SIZE.false _ _ _ _ c.if-long_fits-2.ensures _ (rw c.prefixed.ensures at c.put_long-in-Fragment.ensures))
