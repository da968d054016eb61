-- A multiple of a log word of which the bits are known but for two units: its floor is known but for twice the factor and one. Assumes nothing.
use Rattle.arithmetic.proofs.Kit.{◌≡◌, sym, ap, ◌∙◌, Bool, true, false, cond, ℕ, ◌+◌, ◌-◌, ◌*◌, ◌/◌, ◌^◌, ◌≤◌, le_trans, le_of_eq, add-mul, mul-le-mul_right, arith, ℤ, pos, neg_ℤ, ◌+ℤ◌, ◌*ℤ◌, pow_pos, size, minus}
use Rattle.arithmetic.specs.Whole.{floor_div}
use Rattle.arithmetic.specs.Places.{places}
use Rattle.antilog.specs.Log.{mantissa_of, log_bits, word_with, word_of_units}
use Rattle.antilog.specs.Among.{WithinTwo}
use Rattle.arithmetic.proofs.Differences.{by_sign, minus-above, minus-same, minus_plus, minus-times, opposite, floor_minus}
use Rattle.antilog.proofs.LogDigits.{word-counted}

-- Q is P and a number that is at most twice m / 2^58 and one
pub record Moved (P Q : ℤ) (m : ℕ) : Type 0 where
  pub by : ℕ
  pub few : by ≤ m / 2 ^ 57 + 1
  pub is : P +ℤ pos by ≡ Q

-- numerators that are at most 2 m apart
apart : (x y m t : ℕ) → x ≤ y → y ≤ x + 2 * m → Moved (minus (x / 2 ^ 58) t) (minus (y / 2 ^ 58) t) m
apart x y m t above near =
    let same : x / 2 ^ 58 + (y / 2 ^ 58 - x / 2 ^ 58) ≡ y / 2 ^ 58 = omega arith in
    record { by = y / 2 ^ 58 - x / 2 ^ 58; few = omega arith; is = minus_plus (x / 2 ^ 58) t (y / 2 ^ 58 - x / 2 ^ 58) ∙ ap (λ (k : ℕ). minus k t) same }

negated : (a b : ℕ) → neg_ℤ (minus a b) ≡ minus b a
negated a b =
    by_sign (λ z. neg_ℤ z ≡ minus b a) a b
    (λ h. opposite (a - b) ∙ minus-same 0 (a - b) b a (omega arith))
    (λ h. ap pos (omega arith) ∙ sym (minus-above b a (omega arith)))

module _ (n m : ℕ) where
  -- the word with bits b, counted from that of the smallest double
  abbrev counted : ℕ → ℕ
  counted b = (size n - 1) * 2 ^ places + b

  abbrev zero_word : ℕ
  zero_word = 1074 * 2 ^ places

  multiple : (b : ℕ) → floor_div (word_with places n b *ℤ pos m) (2 ^ 58) ≡ minus (counted b * m / 2 ^ 58) (4296 * m)
  multiple b =
      let whole : zero_word * m ≡ 4296 * m * 2 ^ 58 = omega arith in
      ap (λ (z : ℤ). floor_div (z *ℤ pos m) (2 ^ 58)) (word-counted places (size n - 1) b)
      ∙ ap (λ (z : ℤ). floor_div z (2 ^ 58)) (minus-times (counted b) zero_word m ∙ ap (λ (x : ℕ). minus (counted b * m) x) whole)
      ∙ floor_minus (counted b * m) (4296 * m) (2 ^ 58) (pow_pos 58)

  -- the opposite's, with t * 2^58 added to make it a natural number
  abbrev from-above : ℕ → ℕ → ℕ
  from-above t b = zero_word * m + (t * 2 ^ 58 - counted b * m)

  opposite-multiple : (t b : ℕ) → counted b * m ≤ t * 2 ^ 58 → floor_div (neg_ℤ (word_with places n b) *ℤ pos m) (2 ^ 58) ≡ minus (from-above t b / 2 ^ 58) t
  opposite-multiple t b enough =
      ap (λ (z : ℤ). floor_div (z *ℤ pos m) (2 ^ 58)) (ap neg_ℤ (word-counted places (size n - 1) b) ∙ negated (counted b) zero_word)
      ∙ ap (λ (z : ℤ). floor_div z (2 ^ 58)) (minus-times zero_word (counted b) m ∙ minus-same (zero_word * m) (counted b * m) (from-above t b) (t * 2 ^ 58) (omega arith))
      ∙ floor_minus (from-above t b) t (2 ^ 58) (pow_pos 58)

  module _ (b c : ℕ) (low : b ≤ c) (high : c ≤ b + 2) where
    multiples_low : counted b * m ≤ counted c * m
    multiples_low = mul-le-mul_right m (omega arith)

    multiples_high : counted c * m ≤ counted b * m + 2 * m
    multiples_high = let near : counted c ≤ counted b + 2 = omega arith in le_trans (mul-le-mul_right m near) (le_of_eq (add-mul (counted b) 2 m))

    risen : Moved (floor_div (word_with places n b *ℤ pos m) (2 ^ 58)) (floor_div (word_with places n c *ℤ pos m) (2 ^ 58)) m
    risen = rw (multiple b, multiple c) (apart (counted b * m) (counted c * m) m (4296 * m) multiples_low multiples_high)

    fallen : Moved (floor_div (neg_ℤ (word_with places n c) *ℤ pos m) (2 ^ 58)) (floor_div (neg_ℤ (word_with places n b) *ℤ pos m) (2 ^ 58)) m
    fallen =
        let t : ℕ = counted c * m / 2 ^ 58 + 1 in
        let enough : counted c * m ≤ t * 2 ^ 58 = omega arith in
        rw (opposite-multiple t c enough, opposite-multiple t b (le_trans multiples_low enough))
        (apart (from-above t c) (from-above t b) m t (omega (arith, multiples_low)) (omega (arith, multiples_high)))

two-more : {b c : ℕ} → b ≤ c → b + 2 ≤ c + 2
two-more h = omega arith

-- of the word with the bits of its mantissa, by the exponent's sign
pub near-multiple : (s : Bool) (n b m : ℕ) → WithinTwo (mantissa_of n) b
    → Moved (floor_div (cond s (neg_ℤ (word_with places n (b + 2))) (word_with places n b) *ℤ pos m) (2 ^ 58)) (floor_div (cond s (neg_ℤ (word_of_units places n)) (word_of_units places n) *ℤ pos m) (2 ^ 58)) m
unfolding word_of_units
near-multiple true n b m h = fallen n m (log_bits places (mantissa_of n)) (b + 2) h.1 (two-more h.0)
near-multiple false n b m h = risen n m b (log_bits places (mantissa_of n)) h.0 h.1
