-- A name's place in a list is how many names stand before the first that the library's comparison finds alike. Assumes nothing.
use Rattle.arithmetic.proofs.Kit.{◌≡◌, refl, sym, ap, ◌∙◌, Bool, true, false, not, cond, List, [], ◌∷◌, ℕ, suc, ◌+◌, arith, length, take, eqb}
use Rattle.std.specs.List.{prefix_len}
use Rattle.std.proofs.lemmas.List.Folds.{length-prefix_len}
use lib.Pointwise.{pointwise}
use Rattle.pages.specs.Characters.{same}
use Rattle.pages.proofs.Same.{Compared, compared, same_is, is_same, same_self}
use Rattle.questions.specs.Words.{place_in}

-- the same either way round
turned : (w n : List ℕ) → same w n ≡ same n w
turned w n = go (same w n) (same n w) refl refl
  where
    go : (a b : Bool) → same w n ≡ a → same n w ≡ b → a ≡ b
    go true true e f = refl
    go false false e f = refl
    go true false e f = let h : same n w ≡ true = ap (same n) (is_same w n e) ∙ same_self n in sym h ∙ f
    go false true e f = let h : same w n ≡ true = ap (same w) (is_same n w f) ∙ same_self w in sym e ∙ h

module _ (w : List ℕ) where
  abbrev test : List ℕ → Bool
  test n = pointwise eqb n w

  pub counted : (ns : List (List ℕ)) → length (take (prefix_len (λ n. not (test n)) ns) ns) ≡ place_in ns w
  counted ns = length-prefix_len (λ n. not (test n)) ns ∙ go ns
    where
      step : (b : Bool) (k : ℕ) → cond (not b) (1 + k) 0 ≡ cond b 0 (suc k)
      step true k = refl
      step false k = omega arith

      go : (l : List (List ℕ)) → prefix_len (λ n. not (test n)) l ≡ place_in l w
      go [] = refl
      go (n ∷ l) = ap (λ (k : ℕ). cond (not (test n)) (1 + k) 0) (go l) ∙ step (test n) (place_in l w) ∙ ap (λ (b : Bool). cond b 0 (suc (place_in l w))) (sym (turned w n ∙ same_is n w))

-- the first name of a list, and those after it
module _ (ns : List (List ℕ)) {w n : List ℕ} {r : Bool} (h : Compared w n r) where
  pub first : r ≡ true → 0 ≡ place_in (n ∷ ns) w
  first is = ap (λ (b : Bool). cond b 0 (suc (place_in ns w))) (sym (compared w n r h ∙ is))

  pub later : {k : ℕ} → r ≡ false → k ≡ place_in ns w → suc k ≡ place_in (n ∷ ns) w
  later other e = ap suc e ∙ ap (λ (b : Bool). cond b 0 (suc (place_in ns w))) (sym (compared w n r h ∙ other))
