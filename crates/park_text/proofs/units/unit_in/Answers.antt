-- The first name that is the word. Assumes nothing.
use Rattle.arithmetic.proofs.Kit.{◌≡◌, refl, sym, ap, ◌∙◌, Bool, true, false, cond, List, [], ◌∷◌, ℕ, rules}
use Rattle.std.proofs.Common.{Bor, Option, Some, None}
use Rattle.std.specs.List.{find}
use Rattle.std.specs.Option.{option_map}
use Rattle.std.proofs.lemmas.Iterator.{YieldsList-from_slice}
use Rattle.std.proofs.lemmas.Iterator.Search.{find_from_yields_List}
use borrow.Author.Tests.{tests}
use lib.Dec.{eqb}
use lib.Pointwise.{pointwise}
use Rattle.pages.specs.Characters.{same}
use Rattle.pages.proofs.Same.{same_is}
use Rattle.park_text.specs.declared.units.Unit.{Unit}
use Rattle.park_text.specs.Units.{unit_in}
use Rattle.park_text.proofs.units.unit_in.Goals as goal

abbrev Name : Type 0
Name = Bor (List ℕ) × Unit

abbrev unit_of : Option Name → Option Unit
unit_of None = None
unit_of (Some n) = Some n.1

found : (w : List ℕ) (names : List Name) → unit_of (find (λ n. pointwise eqb w n.0.now) names) ≡ unit_in names w
found w [] = refl
found w (n ∷ names) = go (pointwise eqb w n.0.now) (same_is w n.0.now) (found w names)
  where
    go : (b : Bool) → same w n.0.now ≡ b → unit_of (find (λ n. pointwise eqb w n.0.now) names) ≡ unit_in names w
        → unit_of (cond b (Some n) (find (λ n. pointwise eqb w n.0.now) names)) ≡ cond (same w n.0.now) (Some n.1) (unit_in names w)
    go true e h = ap (λ (b : Bool). cond b (Some n.1) (unit_in names w)) (sym e)
    go false e h = h ∙ ap (λ (b : Bool). cond b (Some n.1) (unit_in names w)) (sym e)

lent : (o : Option (Bor Name)) → unit_of (option_map (λ x. x.now) o) ≡ option_map (λ x. x.now.1) o
lent None = refl
lent (Some n) = refl

pub returns : goal.returns
returns c =
    let w = c.args.name.now in
    let sought = find_from_yields_List (λ n. pointwise eqb w n.0.now) _ _ c.find.result c.find.ensures.ran (YieldsList-from_slice c.args.names.now cc) (λ x b q k. search (rules, tests)) in
    let unit : c.map.result ≡ option_map (λ x. x.now.1) c.find.result = search (rules, tests) in
    unit ∙ sym (lent c.find.result) ∙ ap unit_of sought ∙ found w c.args.names.now
