-- The words are the parts between blanks, and there are no bytes where there is no such word. Assumes nothing.
use Rattle.arithmetic.proofs.Kit.{refl, ap, ◌∙◌, rules, List, [], ℕ, get_or, eqb}
use Rattle.std.specs.List.{slice_split}
use Rattle.std.proofs.lemmas.Iterator.Consumers.{nth_from_yields_List}
use Rattle.std.proofs.lemmas.Iterator.Splits.{YieldsList-from_slice_split}
use borrow.Author.Tests.{tests}
use Rattle.questions.proofs.Split.{parts, nth_or}
use Rattle.questions.proofs.words.nth_word.Goals as goal

pub returns-clause-answered : goal.returns-clause-answered
returns-clause-answered c =
    let word = nth_from_yields_List c.nth.result _ c.args.number c.nth.ensures.ran
    (YieldsList-from_slice_split _ (λ b. eqb b 32) c.args.line.now c.split.ensures.rest c.split.ensures.done c.split.ensures.closure (λ x b q k. search (rules, tests))) in
    nth_or (slice_split (λ b. eqb b 32) c.args.line.now) c.args.number c.nth.result _ refl word c.unwrap_or.ensures ∙ ap (λ (ws : List (List ℕ)). get_or ws c.args.number []) (parts c.args.line.now)
