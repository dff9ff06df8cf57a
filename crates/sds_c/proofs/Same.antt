-- Each entry point says what sds's function of its name says, of the same values: so it leaves one outcome and asks nothing of a caller, as that one
-- does (`Determined` of sds).
use Rattle.sds.proofs.sds_step.Reads as sds_step
use Rattle.sds_c.proofs.sds_step.Reads as c-sds_step
use Rattle.sds.proofs.sds_read.Reads as sds_read
use Rattle.sds_c.proofs.sds_read.Reads as c-sds_read
use Rattle.sds.proofs.sds_write.Reads as sds_write
use Rattle.sds_c.proofs.sds_write.Reads as c-sds_write
use Rattle.sds.proofs.sds_descriptor_size.Reads as sds_descriptor_size
use Rattle.sds_c.proofs.sds_descriptor_size.Reads as c-sds_descriptor_size
use Rattle.sds.proofs.sds_table_check.Reads as sds_table_check
use Rattle.sds_c.proofs.sds_table_check.Reads as c-sds_table_check
use Rattle.sds.proofs.sds_error_code.Reads as sds_error_code
use Rattle.sds_c.proofs.sds_error_code.Reads as c-sds_error_code

pub sds_step_same : (κs : _) (args : _) (r : _) (s : _) → c-sds_step.Post κs args r s → sds_step.Post κs args r s
sds_step_same κs args r s p = p

pub sds_read_same : (κs : _) (args : _) (r : _) (s : _) → c-sds_read.Post κs args r s → sds_read.Post κs args r s
sds_read_same κs args r s p = p

pub sds_write_same : (κs : _) (args : _) (r : _) (s : _) → c-sds_write.Post κs args r s → sds_write.Post κs args r s
sds_write_same κs args r s p = p

pub sds_descriptor_size_same : (κs : _) (args : _) (r : _) (s : _) → c-sds_descriptor_size.Post κs args r s → sds_descriptor_size.Post κs args r s
sds_descriptor_size_same κs args r s p = p

pub sds_table_check_same : (κs : _) (args : _) (r : _) (s : _) → c-sds_table_check.Post κs args r s → sds_table_check.Post κs args r s
sds_table_check_same κs args r s p = p

pub sds_error_code_same : (κs : _) (args : _) (r : _) (s : _) → c-sds_error_code.Post κs args r s → sds_error_code.Post κs args r s
sds_error_code_same κs args r s p = p

-- ---- nothing is asked of a caller

pub sds_step_asks_nothing : (κs : _) (args : _) → c-sds_step.Asked κs args
sds_step_asks_nothing κs args = tt

pub sds_read_asks_nothing : (κs : _) (args : _) → c-sds_read.Asked κs args
sds_read_asks_nothing κs args = tt

pub sds_write_asks_nothing : (κs : _) (args : _) → c-sds_write.Asked κs args
sds_write_asks_nothing κs args = tt

pub sds_descriptor_size_asks_nothing : (κs : _) (args : _) → c-sds_descriptor_size.Asked κs args
sds_descriptor_size_asks_nothing κs args = tt

pub sds_table_check_asks_nothing : (κs : _) (args : _) → c-sds_table_check.Asked κs args
sds_table_check_asks_nothing κs args = tt

pub sds_error_code_asks_nothing : (κs : _) (args : _) → c-sds_error_code.Asked κs args
sds_error_code_asks_nothing κs args = tt
