-- Assumes nothing.
use Rattle.arithmetic.proofs.Kit.{◌≡◌, refl, ap, ◌∙◌, List, [], ◌∷◌, ℕ, zero, suc, get_or}
use Rattle.std.proofs.Common.{Bor, Option, Some, None}
use Rattle.std.specs.List.{slice_get}
use Rattle.std.specs.Option.{unwrap_or, option_map}
use Rattle.std.proofs.lemmas.Iterator.Consumers.{YieldsList-from_first, nth_from_yields_List}
use Rattle.park_text.specs.Words.{words_left}
use Rattle.park_text.proofs.nth_word.Goals as goal

got : (ws : List (List ℕ)) (n : ℕ) → unwrap_or (slice_get ws n) [] ≡ get_or ws n []
got [] n = refl
got (w ∷ ws) zero = refl
got (w ∷ ws) (suc n) = got ws n

lent : (r : Option (Bor (List ℕ))) (d : Bor (List ℕ)) → (unwrap_or r d).now ≡ unwrap_or (option_map (λ x. x.now) r) d.now
lent None d = refl
lent (Some x) d = refl

pub returns : goal.returns
returns c =
    let ws = words_left c.args.words in
    let sought = nth_from_yields_List c.nth.result c.nth.new.self c.args.number c.nth.ensures.ran (YieldsList-from_first (λ x. x.now) words_left {s = c.args.words} ws refl) in
    ap (λ (x : Bor (List ℕ)). x.now) c.unwrap_or.ensures ∙ lent c.nth.result _ ∙ ap (λ (o : Option (List ℕ)). unwrap_or o []) sought ∙ got ws c.args.number
