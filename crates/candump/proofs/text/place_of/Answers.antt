use Rattle.std.proofs.Common.{rules, ◌≡◌, ◌∙◌}
use Rattle.std.specs.List.{position}
use Rattle.std.proofs.lemmas.Iterator.{YieldsList-from_slice}
use Rattle.std.proofs.lemmas.Iterator.Search.{position_from_yields_List}
use borrow.Author.Tests.{tests}
use lib.Dec.{eqb}
use Rattle.candump.proofs.Cuts.{found_place}
use Rattle.candump.proofs.text.place_of.Goals as goal

pub returns : goal.returns
returns c =
    let x = c.args in
    let found : c.position.result ≡ position (λ b. eqb b x.byte) x.text.now =
    position_from_yields_List (λ b. eqb b x.byte) _ _ c.position.result c.position.ensures.ran (YieldsList-from_slice x.text.now c.iter.ensures.rest) (λ y b q k. search (rules, tests)) in
    c.unwrap_or.ensures ∙ found_place x.byte x.text.now c.position.result found
