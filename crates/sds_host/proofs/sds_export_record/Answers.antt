use Rattle.sds_host.proofs.Buffers.{put_fits, put_shown}
use native.Mathlib.Omega.{arith}
use Rattle.sds_host.proofs.sds_export_record.Goals as goal

-- what was put is a small number and a small length
pub overflow_cast-result : goal.overflow_cast-result
overflow_cast-result c = omega (arith, put_fits _ _ _ c.in-Ok.ensures.0)

pub overflow_mul-result : goal.overflow_mul-result
overflow_mul-result c = omega (arith, put_fits _ _ _ c.in-Ok.ensures.0)

pub returns-in-Ok : goal.returns-in-Ok
returns-in-Ok c = (omega (arith, put_shown _ _ _ c.in-Ok.ensures.0), c.in-Ok.ensures.1)

pub returns-in-Err : goal.returns-in-Err
returns-in-Err c = (omega (arith, c.number.ensures, put_shown _ _ _ c.in-Err.ensures.0), c.in-Err.ensures.1)
