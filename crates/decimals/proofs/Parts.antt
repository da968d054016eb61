-- What follows the sign, by its parts: whole digits alone, whole digits and a point, or whole digits and another byte. Assumes nothing.
use Rattle.arithmetic.proofs.Kit.{◌≡◌, refl, sym, ap, ap₂, ◌∙◌, Bool, true, false, List, [], ◌∷◌, ℕ, ◌-◌, ◌≤◌, ◌<◌, arith, length, get_or, take, drop, take_all, eq-eqb, ne_eqb}
use Rattle.std.specs.Prelude.{Err}
use Rattle.decimals.specs.declared.typed.NotACount.TheVariants.{NotANumber}
use Rattle.decimals.specs.Typed.{digits_in, scaled_to, in_counts, with_decimals, after_whole, after_sign, typed}

module _ (k : ℕ) (s : Bool) (t : List ℕ) (n : ℕ) (is : n ≡ digits_in t) where
  pub no_digits : n ≡ 0 → Err NotANumber ≡ after_sign k s t
  unfolding after_sign
  no_digits none = rw (eq-eqb (digits_in t) 0 (sym is ∙ none))

  pub split : (n ≡ 0 → ⊥) → {whole rest : List ℕ} → whole ≡ take n t → rest ≡ drop n t → after_whole k s whole rest ≡ after_sign k s t
  unfolding after_sign
  split some front back =
      rw (ne_eqb (digits_in t) 0 (λ none. some (is ∙ none)))
      (ap₂ (after_whole k s) (front ∙ ap (λ (i : ℕ). take i t) is) (back ∙ ap (λ (i : ℕ). drop i t) is))

-- ---- the bytes after the whole digits, and after a sign: without the first one
rest_of : (b : ℕ) (s : List ℕ) → take (length (b ∷ s) - 1) (drop 1 (b ∷ s)) ≡ s
rest_of b s = take_all (length (b ∷ s) - 1) s (omega arith)

module _ (k : ℕ) (s : Bool) (whole : List ℕ) where
  pub whole-only : (rest : List ℕ) → length rest < 1 → in_counts s (scaled_to k whole rest) ≡ after_whole k s whole rest
  unfolding after_whole
  whole-only [] h = refl
  whole-only (b ∷ d) h = absurd (omega arith)

  pub after-point : (rest : List ℕ) → 1 ≤ length rest → get_or rest 0 0 ≡ 46 → with_decimals k s whole (take (length rest - 1) (drop 1 rest)) ≡ after_whole k s whole rest
  unfolding after_whole
  after-point [] h point = absurd (omega arith)
  after-point (b ∷ d) h point = rw (eq-eqb b 46 point) (ap (with_decimals k s whole) (rest_of b d))

  pub other_byte : (rest : List ℕ) → 1 ≤ length rest → (get_or rest 0 0 ≡ 46 → ⊥) → Err NotANumber ≡ after_whole k s whole rest
  unfolding after_whole
  other_byte [] h other = absurd (omega arith)
  other_byte (b ∷ d) h other = rw (ne_eqb b 46 other)

-- ---- the text, by its first byte
module _ (k : ℕ) where
  pub no_bytes : (s : List ℕ) → length s < 1 → Err NotANumber ≡ typed k s
  unfolding typed
  no_bytes [] h = refl
  no_bytes (b ∷ s) h = absurd (omega arith)

  pub after_minus : (s : List ℕ) → 1 ≤ length s → get_or s 0 0 ≡ 45 → after_sign k true (take (length s - 1) (drop 1 s)) ≡ typed k s
  unfolding typed
  after_minus [] h e = absurd (omega arith)
  after_minus (b ∷ s) h e = rw (eq-eqb b 45 e) (ap (after_sign k true) (rest_of b s))

  pub after_plus : (s : List ℕ) → 1 ≤ length s → get_or s 0 0 ≡ 43 → after_sign k false (take (length s - 1) (drop 1 s)) ≡ typed k s
  unfolding typed
  after_plus [] h e = absurd (omega arith)
  after_plus (b ∷ s) h e = rw (ne_eqb b 45 (λ m. omega arith), eq-eqb b 43 e) (ap (after_sign k false) (rest_of b s))

  pub no_sign : (s : List ℕ) → 1 ≤ length s → (get_or s 0 0 ≡ 45 → ⊥) → (get_or s 0 0 ≡ 43 → ⊥) → after_sign k false s ≡ typed k s
  unfolding typed
  no_sign [] h n p = absurd (omega arith)
  no_sign (b ∷ s) h n p = rw (ne_eqb b 45 n, ne_eqb b 43 p)
