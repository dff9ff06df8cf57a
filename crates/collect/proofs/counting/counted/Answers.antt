use mathlib.Core.Path.{ap, ◌∙◌}
use Rattle.std.specs.Prelude.{Ok}
use Rattle.collect.specs.Tally.{one_more, tallied}
use Rattle.collect.proofs.Refusals.{handed}
use Rattle.collect.proofs.counting.counted.Goals as goal

pub returns : goal.returns
unfolding tallied
returns c = λ number. λ i. record {
  seen = c.one_more.ensures i;
  finished = (c.one_more-2.ensures ∙ ap (one_more c.args.t.finished) (c.is_some.ensures ∙ handed (Ok c.args.value))) i;
  dropped = c.one_more-3.ensures i;
}
