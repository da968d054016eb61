-- A name's place in a table of names, and the unit that it stands for there. Assumes nothing.
use Rattle.arithmetic.proofs.Kit.{◌≡◌, refl, sym, ap, ◌∙◌, Bool, true, false, cond, List, [], ◌∷◌, ℕ, suc, ◌+◌, arith, eqb}
use Rattle.std.proofs.Common.{Bor, Option}
use Rattle.std.specs.List.{position_or_len}
use Rattle.std.proofs.lemmas.Iterator.{YieldsList}
use Rattle.std.proofs.lemmas.List.Recursion.{is_position_or_len}
use lib.Pointwise.{pointwise}
use Rattle.pages.specs.Characters.{same}
use Rattle.pages.proofs.Same.{same_is}
use Rattle.questions.specs.Words.{place_in}

abbrev texts : List (Bor (List ℕ)) → List (List ℕ)
texts [] = []
texts (n ∷ ns) = n.now ∷ texts ns

module _ (w : List ℕ) where
  place_is : (ns : List (Bor (List ℕ))) → position_or_len (λ n. pointwise eqb w n.now) ns ≡ place_in (texts ns) w
  place_is ns = sym (is_position_or_len (λ l. place_in (texts l) w) (λ n. pointwise eqb w n.now) refl (λ n l. step (same w n.now) (place_in (texts l) w) ∙ ap (λ (b : Bool). cond b 0 (1 + place_in (texts l) w)) (same_is w n.now)) ns)
    where
      step : (b : Bool) (k : ℕ) → cond b 0 (suc k) ≡ cond b 0 (1 + k)
      step true k = refl
      step false k = omega arith

  -- of the names that an iterator gives
  pub place_among : {S A : Type 0} {steps : S → Option A → S → Type 0} {v : A → Bor (List ℕ)} {s : S} {ns : List (Bor (List ℕ))} → YieldsList steps v s ns
      → position_or_len (λ n. pointwise eqb w n.now) ns ≡ place_in (texts ns) w
  place_among {ns = ns} e = place_is ns
