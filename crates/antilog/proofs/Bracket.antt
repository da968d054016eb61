-- An estimate moved, and the log bits of a mantissa between bits whose powers of 2 are known to lie below and above it. Assumes nothing.
use Rattle.arithmetic.proofs.Kit.{◌≡◌, refl, sym, ap, ap₂, ◌∙◌, subst₂, ℕ, ◌+◌, ◌*◌, ◌/◌, ◌^◌, ◌≤◌, ◌<◌, le_trans, le_of_lt, lt_of_lt_of_le, lt_of_le_of_lt, ne_of_gt, add-mul, mul-add, mul-le-mul, mul-le-mul_right, mul-lt-mul_of_pos_right, div-add-mod', div-mul-le_self, mod-lt, pow-le-pow_left, pow-lt-pow_left, arith, lit<, lit≤, pow_pos, pow-add}
use Rattle.antilog.specs.Log.{log_bits}
use Rattle.antilog.specs.Estimate.{moved}
use Rattle.antilog.specs.Among.{WithinTwo}
use Rattle.arithmetic.proofs.Powers.{pow-scaled, lt-of-exponents}
use Rattle.antilog.proofs.Range.{Mantissa}
use Rattle.antilog.proofs.Distance.{log_bits-below, log_bits-above}
use Rattle.antilog.proofs.Entries.{last, last-is}
use Rattle.antilog.proofs.Nearly.{AtMost, AtLeast, times-at_most, times-at_least, below_64}
use Rattle.antilog.proofs.Near.{Estimates, last-at_most, last-at_least}

-- ---- an estimate of f, moved by n: it is never too great, and at most 5 too small

module _ (f n A : ℕ) (few : n < 2 ^ 28) (is : Estimates f A) where
  moved-is : moved A n ≡ A + A * (n * last) / 2 ^ 96
  unfolding moved
  moved-is = ap (λ (m : ℕ). A + A * (n * m) / 2 ^ 96) last-is

  cut_off : (q : ℕ) → q ≡ A * (n * last) / 2 ^ 96 → (A + q) * 2 ^ 96 ≤ A * (2 ^ 96 + n * last)
  cut_off q e = rw (add-mul A q (2 ^ 96), mul-add A (2 ^ 96) (n * last), e) (omega (arith, div-mul-le_self (A * (n * last)) (2 ^ 96)))

  pub moved-at_most : AtMost 63 60 (f + n) (moved A n)
  moved-at_most =
      rw moved-is
      (times-at_most 60 63 96 f n A (2 ^ 96 + n * last) (A + A * (n * last) / 2 ^ 96) (omega arith) (cut_off _ refl) is.never_too_great (last-at_most n (le_of_lt few)))

  made_good : (W L d r : ℕ) → A * L ≤ r * W + W → A * d + 3 * (L + d) ≤ W → (A + 3) * (W + L + d) ≤ (A + r + 5) * W
  made_good W L d r cut small =
      let left : (A + 3) * (W + L + d) ≡ A * W + A * L + A * d + (3 * W + 3 * L + 3 * d) =
      add-mul A 3 (W + L + d) ∙ ap₂ (λ (x y : ℕ). x + y) (mul-add A (W + L) d ∙ ap (λ (x : ℕ). x + A * d) (mul-add A W L)) (omega arith) in
      let right : (A + r + 5) * W ≡ A * W + r * W + 5 * W = add-mul (A + r) 5 W ∙ ap (λ (x : ℕ). x + 5 * W) (add-mul A r W) in
      rw (left, right) (omega (arith, cut, small))

  pub moved-at_least : f < 2 ^ 60 → AtLeast 63 60 (f + n) (moved A n + 5)
  moved-at_least short =
      let W : ℕ = 2 ^ 96 in
      let L : ℕ = n * last in
      let cut : A * L ≤ A * L / W * W + W = omega (arith, div-add-mod' (A * L) W, mod-lt (A * L) (pow_pos 96)) in
      let few-nine : 9 * n ≤ 9 * 2 ^ 28 = omega arith in
      let far : A * (9 * n) ≤ 2 ^ 64 * (9 * 2 ^ 28) = mul-le-mul (le_of_lt (below_64 60 f A short is.never_too_great)) few-nine in
      rw moved-is
      (times-at_least 60 63 96 f n (A + 3) (W + L + 9 * n) (A + A * L / W + 5) (omega arith) (made_good W L (9 * n) (A * L / W) cut (omega arith)) is.at_most_three_too_small (last-at_least n (le_of_lt few)))

  pub moved-fits : f + n < 2 ^ 60 → moved A n < 2 ^ 64
  moved-fits short = below_64 60 (f + n) (moved A n) short moved-at_most

-- ---- the log bits

-- 2 m, in units of 2^63, to the power k
twice : (m k : ℕ) → (m * 2 ^ 1) ^ k ≡ m ^ k * 2 ^ (1 * k)
twice m k = pow-scaled m 1 k

-- what is at least 2 to the power f / 2^60 and at most 2 m: the bits are at least f - 1
not_far_below : (m f E : ℕ) → Mantissa m → AtLeast 63 60 f E → E ≤ m * 2 ^ 1 → f < log_bits 60 m + 2
unfolding AtLeast
not_far_below m f E h above small =
    let k : ℕ = 2 ^ 60 in
    let b : ℕ = log_bits 60 m in
    let near : m ^ k < 2 ^ (62 * k + b + 2) = log_bits-above 60 (lit≤ tt) h in
    let both : 62 * k + b + 2 + 1 * k ≡ 63 * k + (b + 2) = omega arith in
    let less : 2 ^ (63 * k + f) < 2 ^ (63 * k + (b + 2)) =
    lt_of_le_of_lt (le_trans above (pow-le-pow_left small k))
    (subst₂ (λ (x y : ℕ). x < y) (sym (twice m k)) (sym (pow-add 2 (62 * k + b + 2) (1 * k)) ∙ ap (λ (n : ℕ). 2 ^ n) both) (mul-lt-mul_of_pos_right near (pow_pos (1 * k)))) in
    omega (arith, lt-of-exponents (63 * k + f) (63 * k + (b + 2)) less)

-- what is at most 2 to the power g / 2^60 and above 2 m: the bits are less than g
not_far_above : (m g C : ℕ) → Mantissa m → AtMost 63 60 g C → m * 2 ^ 1 < C → log_bits 60 m < g
unfolding AtMost
not_far_above m g C h below great =
    let k : ℕ = 2 ^ 60 in
    let b : ℕ = log_bits 60 m in
    let near : 2 ^ (62 * k + b) ≤ m ^ k = log_bits-below 60 h in
    let both : 62 * k + b + 1 * k ≡ 63 * k + b = omega arith in
    let less : 2 ^ (63 * k + b) < 2 ^ (63 * k + g) =
    lt_of_le_of_lt
    (subst₂ (λ (x y : ℕ). x ≤ y) (sym (pow-add 2 (62 * k + b) (1 * k)) ∙ ap (λ (n : ℕ). 2 ^ n) both) (sym (twice m k)) (mul-le-mul_right (2 ^ (1 * k)) near))
    (lt_of_lt_of_le (pow-lt-pow_left great (ne_of_gt (pow_pos 60))) below) in
    omega (arith, lt-of-exponents (63 * k + b) (63 * k + g) less)

pub within-two : (m b A : ℕ) → Mantissa m → b + 2 < 2 ^ 60 → Estimates (b + 1) A → A + 3 ≤ 2 * m → 2 * m < moved A 2 → WithinTwo m b
within-two m b A h short is least most =
    let low : b + 1 < log_bits 60 m + 2 = not_far_below m (b + 1) (A + 3) h is.at_most_three_too_small (omega arith) in
    let high : log_bits 60 m < b + 1 + 2 = not_far_above m (b + 1 + 2) (moved A 2) h (moved-at_most (b + 1) 2 A (lit< tt) is) (omega arith) in
    (omega arith, omega arith, short)
