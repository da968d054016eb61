-- The table of the exponents: no entry is zero, by one test that antt computes; and where 3 and 4 stand in it.
-- Assumes nothing.
use Rattle.arithmetic.proofs.Kit.{◌≡◌, refl, ◌∙◌, Bool, true, false, ℕ, ◌<◌, eq-eqb, ne_eqb, T, eqb, ltb, ltb→lt}
use mathlib.Core.Bool.{beq}
use Rattle.arithmetic.proofs.Every.{at}
use Rattle.elementary.specs.Exponents.{exponents, exponent_at, is_three, is_four}

same : (a b : Bool) → T (beq a b) → a ≡ b
same true true t = refl
same true false t = absurd t
same false true t = absurd t
same false false t = refl

pub magnitude_pos : (i : ℕ) → i < 27 → 0 < (exponent_at i).magnitude
unfolding exponents
magnitude_pos i h = ltb→lt 0 (exponent_at i).magnitude (at 27 (λ k. ltb 0 (exponent_at k).magnitude) tt i h)

-- ---- 3 and 4 have the numbers 23 and 25
three-at : (i : ℕ) → i < 27 → is_three (exponent_at i) ≡ eqb i 23
unfolding exponents
three-at i h = same (is_three (exponent_at i)) (eqb i 23) (at 27 (λ k. beq (is_three (exponent_at k)) (eqb k 23)) tt i h)

four-at : (i : ℕ) → i < 27 → is_four (exponent_at i) ≡ eqb i 25
unfolding exponents
four-at i h = same (is_four (exponent_at i)) (eqb i 25) (at 27 (λ k. beq (is_four (exponent_at k)) (eqb k 25)) tt i h)

-- by a test of the number
pub is_three_lem : (i : ℕ) → i < 27 → i ≡ 23 → is_three (exponent_at i) ≡ true
is_three_lem i h e = three-at i h ∙ eq-eqb i 23 e

pub not_three : (i : ℕ) → i < 27 → (i ≡ 23 → ⊥) → is_three (exponent_at i) ≡ false
not_three i h n = three-at i h ∙ ne_eqb i 23 n

pub is_four_lem : (i : ℕ) → i < 27 → i ≡ 25 → is_four (exponent_at i) ≡ true
is_four_lem i h e = four-at i h ∙ eq-eqb i 25 e

pub not_four : (i : ℕ) → i < 27 → (i ≡ 25 → ⊥) → is_four (exponent_at i) ≡ false
not_four i h n = four-at i h ∙ ne_eqb i 25 n
