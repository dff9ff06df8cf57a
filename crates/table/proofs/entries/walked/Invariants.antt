use mathlib.Core.Path.{◌≡◌}
use mathlib.Core.List.{map}
use lib.ListN.{drop}
use Rattle.table.specs.Table.{attribute_of, well_from, well_formed}
use Rattle.table.proofs.entries.walked.Given as goal

-- from here on, with this least pair and this end, is as from the start
abbrev pub invariant-loop-entry : goal.invariant-loop-entry
invariant-loop-entry l = well_from l.least l.end (map attribute_of (drop l.entry-index l.records)) l.store_len ≡ well_formed l.table l.store_len
