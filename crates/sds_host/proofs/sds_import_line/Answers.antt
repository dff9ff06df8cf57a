use mathlib.Core.Path.{refl}
use Rattle.candump.proofs.Answering.{import_refusal_counts}
use Rattle.sds_host.proofs.Buffers.{no_record, not_imported_lem, imported}
use Rattle.sds_host.proofs.sds_import_line.Goals as goal

pub returns-then-frame-ne-FRAME_SIZE : goal.returns-then-frame-ne-FRAME_SIZE
returns-then-frame-ne-FRAME_SIZE c = let x = c.args in no_record x.line.now x.frame.now c.if-frame-ne-FRAME_SIZE.true

pub returns-in-Ok : goal.returns-in-Ok
returns-in-Ok c =
    let x = c.args in
    imported x.line.now x.frame.now c.if-frame-ne-FRAME_SIZE.false _ c.in-Ok.ensures refl _ c.copy.ensures

pub returns-in-Err : goal.returns-in-Err
returns-in-Err c =
    let x = c.args in
    rw c.number.ensures (not_imported_lem x.line.now x.frame.now c.if-frame-ne-FRAME_SIZE.false _ c.in-Err.ensures (import_refusal_counts c.in-Err.refusal))
