-- floor(x * 2^p) of a double of n = q * 2^k units of 2 ^ -1074, as the quotient that `floor_word` computes from q, for any p up to 64.
-- Assumes nothing.
use Rattle.arithmetic.proofs.Kit.{◌≡◌, sym, ap, ap₂, ◌∙◌, subst, ⊎_elim, ℕ, ◌+◌, ◌-◌, ◌*◌, ◌/◌, ◌^◌, ◌≤◌, ◌<◌, le_trans, le_of_eq, lt_of_le_of_lt, lt_of_not-le, not-le_of_lt, mul-pos, mul_comm, mul_assoc, mul_right_comm, mul-le-mul_right, mul-lt-mul_of_pos_right, div-div-eq-div-mul, mul-div-mul_right, div-lt_iff_lt-mul, arith, pos, negsuc, neg_ℤ, digits_div, pow_pos, pow-add, pow_mono}
use lib.Arith.{mul_pred}
use Rattle.arithmetic.specs.Parts.{Digits}
use Rattle.arithmetic.proofs.Integers.{opposite-of}

-- a fraction's numerator, one less, keeps the floor under a common factor
pred_div : (x d c : ℕ) → 0 < x → 0 < c → (x - 1) / d ≡ (x * c - 1) / (d * c)
pred_div x d c X C =
    ap (λ (n : ℕ). n / d) (sym (ap (λ (n : ℕ). n / c) (mul_pred X C) ∙ digits_div (x - 1) (omega arith)))
    ∙ div-div-eq-div-mul (x * c - 1) c d
    ∙ ap (λ (n : ℕ). (x * c - 1) / n) (mul_comm c d)

module _ (p q k : ℕ) (places-le : p ≤ 64) (digits : Digits q k) (small : q * 2 ^ k < 2 ^ 1085) where
  pub moved_by : k ≤ 1138 - p
  moved_by =
      ⊎_elim (λ e. omega arith)
      (λ f. let below : 52 + k < 1085 = lt_of_not-le (λ h. not-le_of_lt small (le_trans (pow_mono h) (le_trans (le_of_eq (pow-add 2 52 k)) (mul-le-mul_right (2 ^ k) f)))) in omega arith)
      digits.full

  -- both fractions over 2^(1138 - p)
  over : 2 ^ (1138 - p - k) * 2 ^ k ≡ 2 ^ 1074 * 2 ^ (64 - p)
  over = let sum : 1138 - p - k + k ≡ 1074 + (64 - p) = omega (arith, moved_by) in sym (pow-add 2 (1138 - p - k) k) ∙ ap (λ (n : ℕ). 2 ^ n) sum ∙ pow-add 2 1074 (64 - p)

  under : q * 2 ^ 64 * 2 ^ k ≡ q * 2 ^ k * 2 ^ p * 2 ^ (64 - p)
  under =
      let sum : 64 ≡ p + (64 - p) = omega arith in
      mul_right_comm q (2 ^ 64) (2 ^ k)
      ∙ ap (λ (n : ℕ). q * 2 ^ k * n) (ap (λ (n : ℕ). 2 ^ n) sum ∙ pow-add 2 p (64 - p))
      ∙ sym (mul_assoc (q * 2 ^ k) (2 ^ p) (2 ^ (64 - p)))

  pub floor_is : q * 2 ^ 64 / 2 ^ (1138 - p - k) ≡ q * 2 ^ k * 2 ^ p / 2 ^ 1074
  floor_is =
      sym (mul-div-mul_right (q * 2 ^ 64) (2 ^ (1138 - p - k)) (pow_pos k))
      ∙ ap₂ (λ (a b : ℕ). a / b) under over
      ∙ mul-div-mul_right (q * 2 ^ k * 2 ^ p) (2 ^ 1074) (pow_pos (64 - p))

  some : 0 < q * 2 ^ k * 2 ^ p
  some = mul-pos (mul-pos digits.positive (pow_pos k)) (pow_pos p)

  pub floor_below : (q * 2 ^ 64 - 1) / 2 ^ (1138 - p - k) ≡ (q * 2 ^ k * 2 ^ p - 1) / 2 ^ 1074
  floor_below =
      pred_div (q * 2 ^ 64) (2 ^ (1138 - p - k)) (2 ^ k) (mul-pos digits.positive (pow_pos 64)) (pow_pos k)
      ∙ ap₂ (λ (a b : ℕ). (a - 1) / b) under over
      ∙ sym (pred_div (q * 2 ^ k * 2 ^ p) (2 ^ 1074) (2 ^ (64 - p)) some (pow_pos (64 - p)))

  pub opposite-is : neg_ℤ (pos (q * 2 ^ k * 2 ^ p)) ≡ negsuc (q * 2 ^ k * 2 ^ p - 1)
  opposite-is = opposite-of (q * 2 ^ k * 2 ^ p) some

  -- the quotients have 11 digits above the point at most
  pub quotient-lt : (n : ℕ) → n ≤ q * 2 ^ k * 2 ^ p → n / 2 ^ 1074 / 2 ^ p < 2 ^ 11
  quotient-lt n h =
      (div-lt_iff_lt-mul (pow_pos p)).1
      ((div-lt_iff_lt-mul (pow_pos 1074)).1
      (lt_of_le_of_lt h (subst (λ (x : ℕ). q * 2 ^ k * 2 ^ p < x) (mul_right_comm (2 ^ 11) (2 ^ 1074) (2 ^ p)) (mul-lt-mul_of_pos_right small (pow_pos p)))))

-- q * 2^64 - 1 by its words
pub one_less : (q : ℕ) → 0 < q → (q - 1) * 2 ^ 64 + 0xffff_ffff_ffff_ffff ≡ q * 2 ^ 64 - 1
one_less q h = sym (mul_pred h (pow_pos 64))
