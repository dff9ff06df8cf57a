-- Each entry point says what sds_host's function of its name says, of the same values: so it leaves one outcome and asks nothing of a caller, as that one
-- does (`Determined` of sds_host).
use Rattle.sds_host.proofs.sds_import_line.Reads as sds_import_line
use Rattle.sds_host_c.proofs.sds_import_line.Reads as c-sds_import_line
use Rattle.sds_host.proofs.sds_export_record.Reads as sds_export_record
use Rattle.sds_host_c.proofs.sds_export_record.Reads as c-sds_export_record
use Rattle.sds_host.proofs.sds_collect.Reads as sds_collect
use Rattle.sds_host_c.proofs.sds_collect.Reads as c-sds_collect

pub sds_import_line_same : (κs : _) (args : _) (r : _) (s : _) → c-sds_import_line.Post κs args r s → sds_import_line.Post κs args r s
sds_import_line_same κs args r s p = p

pub sds_export_record_same : (κs : _) (args : _) (r : _) (s : _) → c-sds_export_record.Post κs args r s → sds_export_record.Post κs args r s
sds_export_record_same κs args r s p = p

pub sds_collect_same : (κs : _) (args : _) (r : _) (s : _) → c-sds_collect.Post κs args r s → sds_collect.Post κs args r s
sds_collect_same κs args r s p = p

-- ---- nothing is asked of a caller

pub sds_import_line_asks_nothing : (κs : _) (args : _) → c-sds_import_line.Asked κs args
sds_import_line_asks_nothing κs args = tt

pub sds_export_record_asks_nothing : (κs : _) (args : _) → c-sds_export_record.Asked κs args
sds_export_record_asks_nothing κs args = tt

pub sds_collect_asks_nothing : (κs : _) (args : _) → c-sds_collect.Asked κs args
sds_collect_asks_nothing κs args = tt
