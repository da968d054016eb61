-- The names before the word's place are those that are another, and they are counted. Assumes nothing.
use Rattle.arithmetic.proofs.Kit.{ap, ◌∙◌, rules, List, ℕ, not, eqb}
use Rattle.std.proofs.lemmas.Iterator.Consumers.{count_from_yields_List}
use Rattle.std.proofs.lemmas.Iterator.Search.{YieldsList-from_take_while}
use Rattle.std.proofs.lemmas.Iterator.Splits.{YieldsList-from_slice_split}
use borrow.Author.Tests.{tests}
use lib.Pointwise.{pointwise}
use Rattle.questions.specs.Words.{place_in}
use Rattle.questions.proofs.Split.{parts}
use Rattle.questions.proofs.Names.{counted}
use Rattle.questions.proofs.words.place.Goals as goal

pub returns-clause-answered : goal.returns-clause-answered
returns-clause-answered c =
    let w = c.args.word.now in
    count_from_yields_List c.take_while.result _ c.count.ensures.ran
    (YieldsList-from_take_while _ (λ n. not (pointwise eqb n w))
    (YieldsList-from_slice_split _ (λ b. eqb b 32) c.args.names.now (cc) (cc) (cc) (λ x b q k. search (rules, tests)))
    c.take_while.ensures.closure c.take_while.ensures.done (λ x b q k. search (rules, tests)))
    ∙ counted w _ ∙ ap (λ (ws : List (List ℕ)). place_in ws w) (parts c.args.names.now)
