-- The first place is that of the definition. Assumes nothing.
use Rattle.arithmetic.proofs.Kit.{ap, ◌∙◌, ℕ, ◌+◌, arith, rules, take, length-take, length-drop}
use Rattle.std.proofs.lemmas.Iterator.{YieldsList-from_slice}
use Rattle.std.proofs.lemmas.Iterator.Search.{position_from_yields_List}
use borrow.Author.Tests.{tests}
use lib.Dec.{eqb}
use Rattle.pages.specs.Scan.{slice}
use Rattle.pages.proofs.Sought.{at_some, at_none, slice_is}
use Rattle.pages.proofs.scan.find.Goals as goal

pub returns-in-Some-clause-found : goal.returns-in-Some-clause-found
returns-in-Some-clause-found c =
    let part = slice c.args.from c.args.to c.args.s.now in
    let lent = YieldsList-from_slice part (c.iter.ensures.rest ∙ slice_is c.args.from c.args.to c.args.s.now (omega arith)) in
    let sought = position_from_yields_List (λ b. eqb b c.args.byte) _ _ c.position.result c.position.ensures.ran lent (λ x b q k. search (rules, tests)) in
    ap (λ (n : ℕ). c.args.from + n) (at_some c.args.byte part sought c.in-Some.is)

pub returns-in-None-clause-found : goal.returns-in-None-clause-found
returns-in-None-clause-found c =
    let s = c.args.s.now in
    let part = slice c.args.from c.args.to s in
    let lent = YieldsList-from_slice part (c.iter.ensures.rest ∙ slice_is c.args.from c.args.to s (omega arith)) in
    let sought = position_from_yields_List (λ b. eqb b c.args.byte) _ _ c.position.result c.position.ensures.ran lent (λ x b q k. search (rules, tests)) in
    omega (arith, at_none c.args.byte part sought c.in-None.is, length-drop c.args.from (take c.args.to s), length-take c.args.to s)
