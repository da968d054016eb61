-- The position of the first byte that is no digit, and the text's length where there is none.
use Rattle.std.proofs.Common.{◌≡◌, ◌∙◌, ap, refl, rules, arith, ℕ, suc, ◌+◌, Bool, true, false, not, cond, ltb, List, [], ◌∷◌, length, Option, Some, None, unwrap_or}
use borrow.Author.Tests.{tests}
use Rattle.arithmetic.proofs.Kit.{ltb-false}
use Rattle.std.specs.List.{position_or_len}
use Rattle.std.proofs.lemmas.Iterator.{YieldsList-from_slice}
use Rattle.std.proofs.lemmas.Iterator.Search.{position_from_yields_List}
use Rattle.decimals.specs.Typed.{is_digit, digits_in}
use Rattle.decimals.proofs.TypedDigits.{digits_within_lem}
use Rattle.decimals.proofs.typed.digits_in.Goals as goal

abbrev ends : ℕ → Bool
ends b = not (is_digit b)

first-end : (s : List ℕ) → position_or_len ends s ≡ digits_in s
unfolding digits_in
first-end [] = refl
first-end (b ∷ s) = go (is_digit b) (first-end s)
  where
    go : (t : Bool) → position_or_len ends s ≡ digits_in s → cond (not (not t)) (1 + position_or_len ends s) 0 ≡ cond t (suc (digits_in s)) 0
    go true e = omega arith
    go false e = refl

within : (s : List ℕ) (b : Bool) → ltb (digits_in s) (length s) ≡ b → unwrap_or (cond b (Some (digits_in s)) None) (length s) ≡ digits_in s
within s true e = refl
within s false e = omega (arith, digits_within_lem s, ltb-false (digits_in s) (length s) e)

pub returns : goal.returns
returns c =
    let s = c.args.text.now in
    let found = position_from_yields_List ends _ _ c.position.result c.position.ensures.ran (YieldsList-from_slice s cc) (λ x b q k. search (rules, tests)) in
    c.unwrap_or.ensures
    ∙ ap (λ (o : Option ℕ). unwrap_or o (length s)) (found ∙ ap (λ (n : ℕ). cond (ltb n (length s)) (Some n) None) (first-end s))
    ∙ within s (ltb (digits_in s) (length s)) refl
