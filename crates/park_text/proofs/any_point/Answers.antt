-- Assumes nothing.
use Rattle.arithmetic.proofs.Kit.{◌≡◌, refl, ap, ◌∙◌, Bool, ◌||◌, List, [], ◌∷◌, ℕ, rules}
use Rattle.std.specs.List.{list_any}
use Rattle.std.proofs.lemmas.Iterator.Consumers.{YieldsList-from_first}
use Rattle.std.proofs.lemmas.Iterator.Search.{any_from_yields_List}
use borrow.Author.Tests.{tests}
use Rattle.park_text.specs.Words.{words_left}
use Rattle.park_text.specs.Word.{read_word}
use Rattle.park_text.specs.ParkText.{point_typed, any_point}
use Rattle.park_text.proofs.any_point.Goals as goal

any_is : (ws : List (List ℕ)) → list_any (λ w. point_typed (read_word w)) ws ≡ any_point ws
unfolding any_point
any_is [] = refl
any_is (w ∷ ws) = ap (λ (b : Bool). point_typed (read_word w) || b) (any_is ws)

pub returns : goal.returns
returns c =
    any_from_yields_List (λ w. point_typed (read_word w)) c.any.new.self _ c.any.result c.any.ensures.ran (YieldsList-from_first (λ x. x.now) words_left {s = c.args.words} _ refl) (λ x b q k. search (rules, tests))
    ∙ any_is _
