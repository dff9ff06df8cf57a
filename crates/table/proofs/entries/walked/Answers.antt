use mathlib.Core.Path.{sym, ◌∙◌}
use mathlib.Core.Bool.{true, false}
use Rattle.table.specs.Table.{well_formed}
use Rattle.table.proofs.Records.{attributes_said, well_turn, well_ends}
use Rattle.table.proofs.entries.walked.Goals as goal

pub loop-entry-init : goal.loop-entry-init
unfolding well_formed
loop-entry-init c = rw (c.records-records.ensures, attributes_said c.args.table.now)

pub returns-then-not-follows : goal.returns-then-not-follows
returns-then-not-follows c =
    let n = sym c.follows.ensures ∙ c.if-not-follows.true in
    sym (sym c.loop-entry.invariant ∙ well_turn _ _ _ c.loop-entry-test.true c.attribute_of-a.ensures _ _ _ false n)

pub loop-entry-preserved : goal.loop-entry-preserved
loop-entry-preserved c =
    let y = sym c.follows.ensures ∙ c.if-not-follows.false in
    let w = well_turn _ _ _ c.loop-entry-test.true c.attribute_of-a.ensures _ _ _ true y in
    rw (c.end_of-end.ensures, c.pair_of-least.ensures) (sym w ∙ c.loop-entry.invariant)

pub returns : goal.returns
returns c = sym (well_ends _ _ c.loop-entry-test.false _ _ _) ∙ c.loop-entry.invariant
