-- Each entry point's contract leaves one outcome, and asks nothing of a caller.
use mathlib.Core.Path.{◌≡◌, sym, ◌∙◌}
use Rattle.guest.specs.Step.{areas}
use Rattle.sds.specs.Border.{stepped}
use Rattle.sds.proofs.sds_step.Reads as sds-step
use Rattle.sds.proofs.sds_read.Reads as sds-read
use Rattle.sds.proofs.sds_write.Reads as sds-write
use Rattle.sds.proofs.sds_descriptor_size.Reads as sds-descriptor-size
use Rattle.sds.proofs.sds_table_check.Reads as sds-table-check
use Rattle.sds.proofs.sds_error_code.Reads as sds-error-code

-- ---- determination: two outcomes that meet a function's contract are equal, the number and each lent byte

pub sds_step_determined : (κs : _) (args : _) (r r' : _) (s s' : _) → sds-step.Post κs args r s → sds-step.Post κs args r' s'
    → stepped r (areas s.1.1.1.0.now s.1.1.1.1.0.now) s.1.1.1.1.1.0.now
    ≡ stepped r' (areas s'.1.1.1.0.now s'.1.1.1.1.0.now) s'.1.1.1.1.1.0.now
sds_step_determined κs args r r' s s' p q = p ∙ sym q

pub sds_read_determined : (κs : _) (args : _) (r r' : _) (s s' : _) → sds-read.Post κs args r s → sds-read.Post κs args r' s'
    → (r ≡ r') × (s.1.0.now ≡ s'.1.0.now)
sds_read_determined κs args r r' s s' p q = (p.0 ∙ sym q.0, p.1 ∙ sym q.1)

pub sds_write_determined : (κs : _) (args : _) (r r' : _) (s s' : _) → sds-write.Post κs args r s → sds-write.Post κs args r' s'
    → (r ≡ r') × (s.1.0.now ≡ s'.1.0.now)
sds_write_determined κs args r r' s s' p q = (p.0 ∙ sym q.0, p.1 ∙ sym q.1)

pub sds_descriptor_size_determined : (κs : _) (args : _) (r r' : _) (s s' : _) → sds-descriptor-size.Post κs args r s
    → sds-descriptor-size.Post κs args r' s' → r ≡ r'
sds_descriptor_size_determined κs args r r' s s' p q = p ∙ sym q

pub sds_table_check_determined : (κs : _) (args : _) (r r' : _) (s s' : _) → sds-table-check.Post κs args r s → sds-table-check.Post κs args r' s' → r ≡ r'
sds_table_check_determined κs args r r' s s' p q = p ∙ sym q

pub sds_error_code_determined : (κs : _) (args : _) (r r' : _) (s s' : _) → sds-error-code.Post κs args r s → sds-error-code.Post κs args r' s' → r ≡ r'
sds_error_code_determined κs args r r' s s' p q = p ∙ sym q

-- ---- nothing is asked of a caller

pub sds_step_asks_nothing : (κs : _) (args : _) → sds-step.Asked κs args
sds_step_asks_nothing κs args = tt

pub sds_read_asks_nothing : (κs : _) (args : _) → sds-read.Asked κs args
sds_read_asks_nothing κs args = tt

pub sds_write_asks_nothing : (κs : _) (args : _) → sds-write.Asked κs args
sds_write_asks_nothing κs args = tt

pub sds_descriptor_size_asks_nothing : (κs : _) (args : _) → sds-descriptor-size.Asked κs args
sds_descriptor_size_asks_nothing κs args = tt

pub sds_table_check_asks_nothing : (κs : _) (args : _) → sds-table-check.Asked κs args
sds_table_check_asks_nothing κs args = tt

pub sds_error_code_asks_nothing : (κs : _) (args : _) → sds-error-code.Asked κs args
sds_error_code_asks_nothing κs args = tt
