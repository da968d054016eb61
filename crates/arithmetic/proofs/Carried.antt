-- The words that `times` computes, as numbers, over any number of places up to 60: nothing is carried out of 128 bits, and what stands above the
-- point fits a word. Assumes nothing.
use Rattle.arithmetic.proofs.Kit.{◌≡◌, sym, ap, ap₂, ◌∙◌, subst, ℕ, zero, suc, ◌+◌, ◌-◌, ◌*◌, ◌/◌, ◌%◌, ◌^◌, ◌≤◌, ◌<◌, le_trans, le_of_eq, le_of_lt, lt_of_lt_of_le, lt_of_le_of_lt, not-le_of_lt, zero-add, add-zero, one-mul, mul_assoc, suc-mul, mul-le-mul_left, mul-le-mul_right, mod-lt, mod-eq_of_lt, mul-add-mod_self_right, div-lt_iff_lt-mul, arith, lit<, lit≤, digits_lt, pow_pos, pow_mono, pow-add, shl_exact}
use Rattle.std.proofs.Common.{le-add_left}
use native.Mathlib.Nat.{mul-lt-mul_of_pos_left}
use Rattle.arithmetic.specs.declared.wide.Wide.{Wide}
use Rattle.arithmetic.specs.Value.{value}
use Rattle.arithmetic.proofs.Times.{remaining}

-- ---- what a word says of a number
pub no_carry : (v c s : ℕ) → v + c * 2 ^ 128 ≡ s → s < 2 ^ 128 → v ≡ s
no_carry v zero s e h = sym (add-zero v) ∙ e
no_carry v (suc c) s e h = absurd (not-le_of_lt h (subst (λ (x : ℕ). 2 ^ 128 ≤ x) e (le_trans (le-add_left (2 ^ 128) (c * 2 ^ 128)) (le_trans (le_of_eq (sym (suc-mul c (2 ^ 128)))) (le-add_left (suc c * 2 ^ 128) v)))))

pub low_word : (w : Wide) → value w < 2 ^ 64 → w.lo ≡ value w
low_word w h = omega arith

pub low-remainder : (w : Wide) (k : ℕ) → k ≤ 64 → w.lo % 2 ^ k ≡ value w % 2 ^ k
low-remainder w k h =
    let there : 64 - k + k ≡ 64 = omega arith in
    let multiple : w.hi * 2 ^ 64 ≡ w.hi * 2 ^ (64 - k) * 2 ^ k = ap (λ (n : ℕ). w.hi * 2 ^ n) (sym there) ∙ ap (λ (n : ℕ). w.hi * n) (pow-add 2 (64 - k) k) ∙ sym (mul_assoc w.hi (2 ^ (64 - k)) (2 ^ k)) in
    sym (ap (λ (n : ℕ). (n + w.lo) % 2 ^ k) multiple ∙ mul-add-mod_self_right (w.hi * 2 ^ (64 - k)) (2 ^ k) w.lo)

-- a unit as the machine shifts it
pub one-moved : (k : ℕ) → k ≤ 63 → (1 * 2 ^ k) % 2 ^ 64 ≡ 2 ^ k
one-moved k h = shl_exact 1 k 64 (lit< tt) (omega arith) ∙ one-mul (2 ^ k)

-- what is shown of the words that the answer is made of
pub record Quotients (p whole part factor extra shift quotient high low : ℕ) : Type 0 where
  pub quotient_is : quotient ≡ whole * factor / 2 ^ shift
  pub quotient-small : quotient < 2 ^ 18
  pub high_is : high ≡ remaining p whole part factor extra (2 ^ shift) / 2 ^ (shift + p)
  pub high_small : high < 2 ^ 8
  pub low-is : low % 2 ^ p ≡ remaining p whole part factor extra (2 ^ shift) / 2 ^ shift % 2 ^ p

module _ (p whole part factor extra shift : ℕ) (places-le : p ≤ 60) (whole-lt : whole < 2 ^ 12) (part-lt : part < 2 ^ p) (factor-lt : factor < 2 ^ 64) (extra-lt : extra < factor)
    (shift-ge : 58 ≤ shift) (shift_le : shift ≤ 62) where
  below-lt : part * factor + extra < 2 ^ p * 2 ^ 64
  below-lt = lt_of_lt_of_le (digits_lt part-lt extra-lt) (mul-le-mul_left (2 ^ p) (le_of_lt factor-lt))

  rest_lt : whole * factor % 2 ^ shift < 2 ^ 62
  rest_lt = lt_of_lt_of_le (mod-lt (whole * factor) (pow_pos shift)) (pow_mono {j = 62} shift_le)

  left_lt : remaining p whole part factor extra (2 ^ shift) < 2 ^ p * 2 ^ 65
  left_lt = omega (arith, mul-le-mul_right (2 ^ p) (le_of_lt rest_lt), below-lt)

  -- so much has room in two words
  fits : (n : ℕ) → n < 2 ^ p * 2 ^ 65 → n < 2 ^ 128
  fits n h = lt_of_lt_of_le h (le_trans (mul-le-mul_right (2 ^ 65) (pow_mono {j = 60} places-le)) (lit≤ tt))

  quotient-lt : whole * factor / 2 ^ shift < 2 ^ 18
  quotient-lt =
      (div-lt_iff_lt-mul (pow_pos shift)).1
      (lt_of_le_of_lt (mul-le-mul_right factor (le_of_lt whole-lt)) (lt_of_lt_of_le (mul-lt-mul_of_pos_left factor-lt (pow_pos 12)) (mul-le-mul_left (2 ^ 18) (pow_mono {i = 58} shift-ge))))

  high_lt : remaining p whole part factor extra (2 ^ shift) / 2 ^ (shift + p) < 2 ^ 8
  high_lt =
      let unit : 2 ^ 58 * 2 ^ p ≤ 2 ^ (shift + p) = le_trans (mul-le-mul_right (2 ^ p) (pow_mono {i = 58} shift-ge)) (le_of_eq (sym (pow-add 2 shift p))) in
      (div-lt_iff_lt-mul (pow_pos (shift + p))).1 (omega (arith, left_lt))

  -- ---- the words in the order in which they are made
  module _ (above products below quotient moved carried high low : Wide) (carry₁ carry₂ : ℕ) (above-is : value above ≡ whole * factor) (products-is : value products ≡ part * factor)
      (below-is : value below + carry₁ * 2 ^ 128 ≡ value products + (0 + extra)) (quotient_is : value quotient ≡ value above / 2 ^ shift)
      (moved-is : value moved ≡ ((0 + above.lo % ((1 * 2 ^ shift) % 2 ^ 64)) * 2 ^ p) % 2 ^ 128) (carried-is : value carried + carry₂ * 2 ^ 128 ≡ value moved + value below)
      (high_is : value high ≡ value carried / 2 ^ (shift + p)) (low-is : value low ≡ value carried / 2 ^ shift) where
    below-value : value below ≡ part * factor + extra
    below-value =
        let sums : value products + (0 + extra) ≡ part * factor + extra = ap₂ (λ (x y : ℕ). x + y) products-is (zero-add extra) in
        no_carry (value below) carry₁ (part * factor + extra) (below-is ∙ sums) (fits (part * factor + extra) (omega (arith, below-lt)))

    rest-value : 0 + above.lo % ((1 * 2 ^ shift) % 2 ^ 64) ≡ whole * factor % 2 ^ shift
    rest-value =
        zero-add (above.lo % ((1 * 2 ^ shift) % 2 ^ 64))
        ∙ ap (λ (n : ℕ). above.lo % n) (one-moved shift (omega arith))
        ∙ low-remainder above shift (omega arith)
        ∙ ap (λ (n : ℕ). n % 2 ^ shift) above-is

    moved_value : value moved ≡ whole * factor % 2 ^ shift * 2 ^ p
    moved_value =
        moved-is
        ∙ ap (λ (n : ℕ). (n * 2 ^ p) % 2 ^ 128) rest-value
        ∙ mod-eq_of_lt (fits (whole * factor % 2 ^ shift * 2 ^ p) (omega (arith, mul-le-mul_right (2 ^ p) (le_of_lt rest_lt), pow_pos p)))

    carried_value : value carried ≡ remaining p whole part factor extra (2 ^ shift)
    carried_value = no_carry (value carried) carry₂ (remaining p whole part factor extra (2 ^ shift)) (carried-is ∙ ap₂ (λ (x y : ℕ). x + y) moved_value below-value) (fits _ left_lt)

    quotient-value : quotient.lo ≡ whole * factor / 2 ^ shift
    quotient-value =
        let v : value quotient ≡ whole * factor / 2 ^ shift = quotient_is ∙ ap (λ (n : ℕ). n / 2 ^ shift) above-is in
        low_word quotient (subst (λ (n : ℕ). n < 2 ^ 64) (sym v) (lt_of_lt_of_le quotient-lt (pow_mono {i = 18} {j = 64} (lit≤ tt)))) ∙ v

    high_value : high.lo ≡ remaining p whole part factor extra (2 ^ shift) / 2 ^ (shift + p)
    high_value =
        let v : value high ≡ remaining p whole part factor extra (2 ^ shift) / 2 ^ (shift + p) = high_is ∙ ap (λ (n : ℕ). n / 2 ^ (shift + p)) carried_value in
        low_word high (subst (λ (n : ℕ). n < 2 ^ 64) (sym v) (lt_of_lt_of_le high_lt (pow_mono {i = 8} {j = 64} (lit≤ tt)))) ∙ v

    pub quotients : Quotients p whole part factor extra shift quotient.lo high.lo low.lo
    quotients =
        record {
          quotient_is = quotient-value;
          quotient-small = subst (λ (n : ℕ). n < 2 ^ 18) (sym quotient-value) quotient-lt;
          high_is = high_value;
          high_small = subst (λ (n : ℕ). n < 2 ^ 8) (sym high_value) high_lt;
          low-is = low-remainder low p (omega arith) ∙ ap (λ (n : ℕ). n % 2 ^ p) (low-is ∙ ap (λ (n : ℕ). n / 2 ^ shift) carried_value);
        }
