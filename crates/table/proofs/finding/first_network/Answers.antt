use Rattle.std.proofs.Common.{rules, tests, arith}
use Rattle.std.proofs.lemmas.Grind.{common_steps}
use Rattle.table.specs.Table.{network_of, first_network}
use Rattle.table.proofs.finding.first_network.Goals as goal

pub returns : goal.returns
unfolding first_network
returns c =
    let e = c.first.ensures (network_of c.args.object) (λ a yes k. search (rules, tests)) in
    grind (arith, common_steps, e)
