-- Assumes nothing.
use Rattle.arithmetic.proofs.Kit.{rules}
use Rattle.std.proofs.lemmas.Iterator.{YieldsList-from_slice}
use Rattle.std.proofs.lemmas.Iterator.Search.{position_from_yields_List}
use borrow.Author.Tests.{tests}
use lib.Dec.{eqb}
use Rattle.pages.proofs.Sought.{at_some, at_none}
use Rattle.park_text.proofs.Numbers.{before_end, with_point, without_point}
use Rattle.park_text.proofs.typed_word.three_decimals.Goals as goal

pub returns-in-Some : goal.returns-in-Some
returns-in-Some c =
    let d = c.args.number.now in
    let sought = position_from_yields_List (λ b. eqb b 46) _ _ c.position.result c.position.ensures.ran (YieldsList-from_slice d cc) (λ x b q k. search (rules, tests)) in
    with_point d (before_end 46 d sought c.in-Some.is) (at_some 46 d sought c.in-Some.is)

pub returns-in-None : goal.returns-in-None
returns-in-None c =
    let d = c.args.number.now in
    let sought = position_from_yields_List (λ b. eqb b 46) _ _ c.position.result c.position.ensures.ran (YieldsList-from_slice d cc) (λ x b q k. search (rules, tests)) in
    without_point d (at_none 46 d sought c.in-None.is)
