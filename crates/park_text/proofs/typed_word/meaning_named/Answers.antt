-- A name's place in the table is its meaning. Assumes nothing.
use Rattle.arithmetic.proofs.Kit.{ap, ◌∙◌, rules}
use Rattle.std.proofs.lemmas.Iterator.{YieldsList-from_slice}
use Rattle.std.proofs.lemmas.Iterator.Search.{position_from_yields_List}
use borrow.Author.Tests.{tests}
use lib.Dec.{eqb}
use lib.Pointwise.{pointwise}
use Rattle.park_text.specs.Word.{meaning_at, meaning_named}
use Rattle.park_text.proofs.Tables.{place_among}
use Rattle.park_text.proofs.typed_word.meaning_named.Goals as goal

pub returns : goal.returns
unfolding meaning_named
returns c =
    let w = c.args.name.now in
    let lent = YieldsList-from_slice _ c.iter.ensures.rest in
    position_from_yields_List (λ n. pointwise eqb w n.now) _ _ c.position.result c.position.ensures.ran lent (λ x b q k. search (rules, tests))
    ∙ ap meaning_at (place_among w lent)
