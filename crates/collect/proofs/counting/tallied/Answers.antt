use mathlib.Core.Path.{ap, ◌∙◌}
use Rattle.collect.specs.Step.{gives}
use Rattle.collect.specs.Tally.{tallied}
use Rattle.collect.specs.Code.{number_of}
use Rattle.collect.proofs.Refusals.{unwrapped}
use Rattle.collect.proofs.counting.tallied.Goals as goal

pub returns : goal.returns
returns c =
    let outcome = c.args.c.outcome in
    let value = c.unwrap_or.ensures ∙ unwrapped outcome in
    c.counted.ensures (number_of outcome) ∙ ap (λ v. tallied c.args.t (gives (number_of outcome) v c.args.c.dropped)) value
