use mathlib.Core.Path.{sym, ◌∙◌}
use Rattle.octets.proofs.Copies.{copied_whole}
use Rattle.sds_host.proofs.put_value.Goals as goal

pub returns : goal.returns
returns c = c.copy.ensures ∙ copied_whole _ c.args.value.now (sym c.requires)
