use Rattle.std.proofs.Common.{rules, ◌≡◌, ◌∙◌, ◌<◌, length}
use Rattle.std.specs.Char.{is_ascii_graphic}
use Rattle.std.specs.List.{list_all}
use Rattle.std.proofs.lemmas.Iterator.{YieldsList-from_slice}
use Rattle.std.proofs.lemmas.Iterator.Search.{all_from_yields_List}
use borrow.Author.Tests.{tests, lt-ltb, le-leb}
use native.Mathlib.Omega.{arith}
use Rattle.candump.specs.Importing.{is_interface}
use Rattle.candump.proofs.Cuts.{all_visible}
use Rattle.candump.proofs.importing.is_interface.Goals as goal

pub returns-then-text-le-MOST_INTERFACE : goal.returns-then-text-le-MOST_INTERFACE
unfolding is_interface
returns-then-text-le-MOST_INTERFACE c =
    let text = c.args.text.now in
    let all : c.all.result ≡ list_all (λ x. is_ascii_graphic x) text =
    all_from_yields_List (λ x. is_ascii_graphic x) _ _ c.all.result c.all.ensures.ran (YieldsList-from_slice text c.iter.ensures.rest) (λ x b q k. search (rules, tests)) in
    let some : 0 < length text = grind arith in
    all ∙ simp (lt-ltb 0 (length text) some, le-leb (length text) 15 c.if-text-le-MOST_INTERFACE.true.1, all_visible text)
