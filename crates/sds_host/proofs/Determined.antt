-- Each entry point's contract leaves one outcome, and asks nothing of a caller.
use Prim.Native.Nat.{ℕ}
use mathlib.Core.Path.{◌≡◌, sym, ◌∙◌}
use mathlib.Core.List.{List}
use Rattle.sds_host.proofs.sds_import_line.Reads as sds-import-line
use Rattle.sds_host.proofs.sds_export_record.Reads as sds-export-record
use Rattle.sds_host.proofs.collected.Reads as collected
use Rattle.collect.specs.declared.Tally.{Tally}
use Rattle.sds_host.specs.Border.{BorderCollected}

pub sds_import_line_determined : (κs : _) (args : _) (r r' : _) (s s' : _) → sds-import-line.Post κs args r s → sds-import-line.Post κs args r' s'
    → (r ≡ r') × (s.1.0.now ≡ s'.1.0.now)
sds_import_line_determined κs args r r' s s' p q = (p.0 ∙ sym q.0, p.1 ∙ sym q.1)

pub sds_export_record_determined : (κs : _) (args : _) (r r' : _) (s s' : _) → sds-export-record.Post κs args r s → sds-export-record.Post κs args r' s'
    → (r ≡ r') × (s.1.0.now ≡ s'.1.0.now)
sds_export_record_determined κs args r r' s s' p q = (p.0 ∙ sym q.0, p.1 ∙ sym q.1)

pub collected_determined : (κs : _) (args : _) (r r' : _) (s s' : _) → collected.Post κs args r s → collected.Post κs args r' s'
    → (r.number ≡ r'.number) × (r.tally ≡ r'.tally) × (s.1.0.now ≡ s'.1.0.now) × (s.1.1.0.now ≡ s'.1.1.0.now)
collected_determined κs args r r' s s' p q =
    (p.answers ∙ sym q.answers, p.counts ∙ sym q.counts, p.leaves ∙ sym q.leaves, p.shows ∙ sym q.shows)

-- sds_collect says the same of a tally that is lent: one outcome for each frame, work area, value buffer and tally
pub sds_collect_determined : {r work value : List ℕ} {t : Tally} {n n' : ℕ} {w w' v v' : List ℕ} {u u' : Tally}
    → BorderCollected r work value t n w v u → BorderCollected r work value t n' w' v' u' → (n ≡ n') × (w ≡ w') × (v ≡ v') × (u ≡ u')
sds_collect_determined p q = (p.answers ∙ sym q.answers, p.leaves ∙ sym q.leaves, p.shows ∙ sym q.shows, p.counts ∙ sym q.counts)

pub sds_import_line_asks_nothing : (κs : _) (args : _) → sds-import-line.Asked κs args
sds_import_line_asks_nothing κs args = tt

pub sds_export_record_asks_nothing : (κs : _) (args : _) → sds-export-record.Asked κs args
sds_export_record_asks_nothing κs args = tt

pub collected_asks_nothing : (κs : _) (args : _) → collected.Asked κs args
collected_asks_nothing κs args = tt
