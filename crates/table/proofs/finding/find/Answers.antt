use Rattle.std.proofs.Common.{rules, tests, arith}
use Rattle.std.proofs.lemmas.Grind.{common_steps}
use Rattle.table.specs.Table.{named, find}
use Rattle.table.proofs.finding.find.Goals as goal

pub returns : goal.returns
unfolding find
returns c =
    let e = c.first.ensures (named c.args.object c.args.id) (λ a yes k. search (rules, tests)) in
    grind (arith, common_steps, e)
