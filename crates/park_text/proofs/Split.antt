-- The words of a text one after the other: the first one ends at the first newline, and the others are those of what follows it. Assumes nothing.
use Rattle.arithmetic.proofs.Kit.{◌≡◌, refl, sym, ap, ap₂, ◌∙◌, Bool, true, false, List, [], ◌∷◌, ℕ, suc, ◌+◌, ◌-◌, ◌≤◌, ◌<◌, arith, add-one, eqb, length, take, drop, length-drop, take_all, drop_of_length-le}
use Rattle.pages.specs.Scan.{index_of, index_after}
use Rattle.park_text.specs.Words.{before, arguments}

-- ---- the first word and the others
abbrev by_first : List ℕ → List (List ℕ)
by_first [] = []
by_first (b ∷ s) = take (index_of 10 (b ∷ s)) (b ∷ s) ∷ arguments (drop (suc (index_of 10 (b ∷ s))) (b ∷ s))

words-by_first : (s : List ℕ) → arguments s ≡ by_first s
unfolding arguments index_of index_after
words-by_first [] = refl
words-by_first (b ∷ s) = go (eqb b 10) s (words-by_first s)
  where
    go : (t : Bool) (s : List ℕ) → arguments s ≡ by_first s
        → before t b (arguments s) ≡ take (index_after t (index_of 10 s)) (b ∷ s) ∷ arguments (drop (suc (index_after t (index_of 10 s))) (b ∷ s))
    go true s h = refl
    go false [] h = refl
    go false (a ∷ s) h = ap (before false b) h

pub some_word : (s : List ℕ) → 0 < length s → arguments s ≡ take (index_of 10 s) s ∷ arguments (drop (suc (index_of 10 s)) s)
some_word [] h = absurd (omega arith)
some_word (b ∷ s) h = words-by_first (b ∷ s)

pub no_words : (s : List ℕ) → length s ≡ 0 → arguments s ≡ []
unfolding arguments
no_words [] h = refl
no_words (b ∷ s) h = absurd (omega arith)

module _ (s : List ℕ) (some : 0 < length s) where
  -- what follows the newline is lent to the end of the text
  pub first_word : {end : ℕ} → end ≡ index_of 10 s → arguments s ≡ take end s ∷ arguments (take (length s - (end + 1)) (drop (end + 1) s))
  first_word {end} is =
      let rest : take (length s - (end + 1)) (drop (end + 1) s) ≡ drop (end + 1) s = take_all (length s - (end + 1)) (drop (end + 1) s) (rw length-drop (omega arith)) in
      some_word s some
      ∙ ap (λ (k : ℕ). take k s ∷ arguments (drop (suc k) s)) (sym is)
      ∙ ap (λ (k : ℕ). take end s ∷ arguments (drop k s)) (sym (add-one end))
      ∙ ap (λ (l : List ℕ). take end s ∷ arguments l) (sym rest)

  pub last_word : index_of 10 s ≡ length s → arguments s ≡ s ∷ arguments []
  last_word is =
      some_word s some
      ∙ ap (λ (k : ℕ). take k s ∷ arguments (drop (suc k) s)) is
      ∙ ap₂ (λ (a b : List ℕ). a ∷ arguments b) (take_all (length s) s (omega arith)) (drop_of_length-le s {i = suc (length s)} (omega arith))

-- a text has no more words than bytes
pub arguments_short : (s : List ℕ) → length (arguments s) ≤ length s
unfolding arguments
arguments_short [] = omega arith
arguments_short (b ∷ s) = go (eqb b 10) (arguments s) (arguments_short s)
  where
    go : (t : Bool) (ws : List (List ℕ)) → length ws ≤ length s → length (before t b ws) ≤ suc (length s)
    go true ws h = omega arith
    go false [] h = omega arith
    go false (w ∷ ws) h = omega arith
