-- The words are the parts between blanks. Assumes nothing.
use Rattle.arithmetic.proofs.Kit.{ap, ◌∙◌, rules, length, eqb}
use Rattle.std.proofs.lemmas.Iterator.Consumers.{count_from_yields_List}
use Rattle.std.proofs.lemmas.Iterator.Splits.{YieldsList-from_slice_split}
use borrow.Author.Tests.{tests}
use Rattle.questions.proofs.Split.{parts}
use Rattle.questions.proofs.words.word_count.Goals as goal

pub returns-clause-answered : goal.returns-clause-answered
returns-clause-answered c =
    count_from_yields_List _ _ c.count.ensures.ran
    (YieldsList-from_slice_split _ (λ b. eqb b 32) c.args.line.now c.split.ensures.rest c.split.ensures.done c.split.ensures.closure (λ x b q k. search (rules, tests)))
    ∙ ap length (parts c.args.line.now)
