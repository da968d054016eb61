-- All bytes are tried. Assumes nothing.
use Rattle.arithmetic.proofs.Kit.{◌∙◌, rules, ltb}
use Rattle.std.proofs.lemmas.Iterator.{YieldsList-from_slice}
use Rattle.std.proofs.lemmas.Iterator.Search.{all_from_yields_List}
use borrow.Author.Tests.{tests}
use Rattle.questions.specs.Digits.{digit_of}
use Rattle.questions.proofs.Passed.{all_hex}
use Rattle.questions.proofs.digits.are_hex.Goals as goal

pub returns-clause-answered : goal.returns-clause-answered
returns-clause-answered c =
    let s = c.args.text.now in
    all_from_yields_List (λ b. ltb (digit_of b) 16) _ _ c.all.result c.all.ensures.ran (YieldsList-from_slice s cc) (λ x b q k. search (rules, tests)) ∙ all_hex s
