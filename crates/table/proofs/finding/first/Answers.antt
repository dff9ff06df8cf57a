use Rattle.std.proofs.Common.{Option, Some, None, rules}
use mathlib.Core.Path.{◌≡◌, refl, sym, ap, ◌∙◌}
use Rattle.std.specs.List.{find}
use Rattle.std.specs.Option.{option_map}
use Rattle.std.proofs.lemmas.Iterator.Search.{find_from_yields_List}
use Rattle.std.proofs.lemmas.Iterator.{YieldsList-from_slice, YieldsList-from_map}
use Rattle.std.proofs.lemmas.Iterator.Consumers.{YieldsList-at}
use Rattle.table.specs.declared.Attribute.{Attribute}
use Rattle.table.specs.Table.{attribute_of}
use Rattle.table.proofs.Records.{attributes_said, first_found}
use Rattle.table.proofs.finding.first.Goals as goal

same : (found : Option Attribute) → option_map (λ a. a) found ≡ found
same None = refl
same (Some a) = refl

pub returns : goal.returns
returns g c = λ test says.
    sym (same c.find.result)
    ∙ find_from_yields_List test _ _ c.find.result c.find.ensures.ran
    (YieldsList-from_map _ attribute_of (YieldsList-at c.map.ensures.source (YieldsList-from_slice c.records.result.now cc)) c.map.ensures.closure (λ x r q k. search rules))
    (λ x b q k.
    let w = k.called in (
      g.met.F.Fn.1.step_stays _ _ _ _ (record { met = w.met }),
      says x b (record { shown = k.shown; shows = k.shows; says = record { met = (g.met.F.FnMut.1.post_iff _ _ _).1 (q, record { met = w.met }) } }),
    ))
    ∙ ap (find test) (rw c.records.ensures (attributes_said c.args.table.now))
    ∙ first_found test _
