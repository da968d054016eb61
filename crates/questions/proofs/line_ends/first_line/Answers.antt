-- By whether a newline is found, and whether the input has ended. Assumes nothing.
use Rattle.arithmetic.proofs.Kit.{sym, ◌∙◌, rules, arith, eqb, eqb-true, eqb-false, length}
use Rattle.std.proofs.lemmas.Iterator.{YieldsList-from_slice}
use Rattle.std.proofs.lemmas.Iterator.Search.{position_from_yields_List}
use borrow.Author.Tests.{tests}
use Rattle.pages.proofs.Sought.{at_some, at_none}
use Rattle.questions.proofs.Ends.{some_within, newline_ends, input_ends, nothing_left, not_yet}
use Rattle.questions.proofs.line_ends.first_line.Goals as goal

pub returns-in-Some-clause-answered : goal.returns-in-Some-clause-answered
returns-in-Some-clause-answered c =
    let s = c.args.input.now in
    let sought = position_from_yields_List (λ b. eqb b 10) _ _ c.position.result c.position.ensures.ran (YieldsList-from_slice s cc) (λ x b q k. search (rules, tests)) in
    newline_ends s c.args.ended (at_some 10 s sought c.in-Some.is) (some_within s sought c.in-Some.is) c.before_return.ensures

pub returns-in-None-clause-answered : goal.returns-in-None-clause-answered
returns-in-None-clause-answered c =
    let s = c.args.input.now in
    let sought = position_from_yields_List (λ b. eqb b 10) _ _ c.position.result c.position.ensures.ran (YieldsList-from_slice s cc) (λ x b q k. search (rules, tests)) in
    input_ends s c.args.ended (at_none 10 s sought c.in-None.is) c.if-ended.true (omega (arith, eqb-false (length s) 0 (sym c.is_empty.ensures ∙ c.if-not-is_empty.true))) c.before_return-in-None.ensures

pub returns-in-None-2-clause-answered : goal.returns-in-None-2-clause-answered
returns-in-None-2-clause-answered c =
    let s = c.args.input.now in
    let sought = position_from_yields_List (λ b. eqb b 10) _ _ c.position.result c.position.ensures.ran (YieldsList-from_slice s cc) (λ x b q k. search (rules, tests)) in
    nothing_left s c.args.ended (at_none 10 s sought c.in-None.is) (eqb-true _ 0 (sym c.is_empty.ensures ∙ c.if-not-is_empty.false))

pub returns-in-None-2-2-clause-answered : goal.returns-in-None-2-2-clause-answered
returns-in-None-2-2-clause-answered c =
    let s = c.args.input.now in
    let sought = position_from_yields_List (λ b. eqb b 10) _ _ c.position.result c.position.ensures.ran (YieldsList-from_slice s cc) (λ x b q k. search (rules, tests)) in
    not_yet s c.args.ended (at_none 10 s sought c.in-None.is) c.if-ended.false
