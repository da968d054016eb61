-- Assumes nothing.
use Rattle.arithmetic.proofs.Kit.{◌∙◌, rules}
use Rattle.std.proofs.lemmas.Iterator.{YieldsList-from_slice}
use Rattle.std.proofs.lemmas.Iterator.Search.{position_from_yields_List}
use borrow.Author.Tests.{tests}
use Rattle.park_text.proofs.Numbers.{ends, ends-found}
use Rattle.park_text.proofs.typed_word.number_length.Goals as goal

pub returns : goal.returns
returns c =
    let s = c.args.text.now in
    c.unwrap_or.ensures
    ∙ ends-found s (position_from_yields_List ends _ _ c.position.result c.position.ensures.ran (YieldsList-from_slice s cc) (λ x b q k. search (rules, tests)))
