-- Document 02, "How near is near", for any number of places from 1 to 60, and so for 52 and 60; and where fewer units would be too few.
-- proofs/Distance has the inequalities in units of 2 ^ -1074. Assumes nothing.
use Rattle.arithmetic.proofs.Kit.{◌≡◌, sym, ap, ap₂, ◌∙◌, subst, subst₂, ℕ, zero, suc, ◌+◌, ◌*◌, ◌^◌, ◌≤◌, ◌<◌, le_of_mul-le-mul_right, lt_of_mul-lt-mul_right, mul_comm, mul-mul-mul_comm, one-mul, mul-pos, mul-le-mul_right, mul-lt-mul_of_pos_right, one-le-pow, not-le_of_lt, lt_of_lt_of_le, pow-le-pow_left, arith, true, false, ℤ, pos, ◌+ℤ◌, T, lit≤, pow_pos, pow-add, pow_mono, Float, nan, inf, fin, binary64, up, down, minus, fits, down_pos, positive}
use lib.Ieee.Digits.{minus_val}
use Rattle.arithmetic.specs.Nearest.{units_of}
use Rattle.antilog.specs.Log.{log_word, word_of_units}
use Rattle.antilog.specs.Antilog.{antilog_root}
use Rattle.arithmetic.specs.Fractions.{two_to_the, exact_value, ◌to_the◌, ◌is_at_most◌, ◌is_below◌}
use Rattle.arithmetic.proofs.Powers.{pow-product, pow-scaled}
use Rattle.arithmetic.proofs.Order.{units-exact}
use Rattle.arithmetic.proofs.Differences.{minus_plus}
use Rattle.antilog.proofs.Distance.{antilog_root-below, antilog_root-above, NearLog, near_log}
pub use Rattle.antilog.proofs.HowNearStated.{LogNear, AntilogNear, HowNear}

-- The numbers n / d = X / 2 ^ t and 2 ^ (u - w): the one to the power k compares with the other as X ^ k does with 2 ^ (u + t * k - w).
module _ (n d X t k u w : ℕ) (some : 0 < d) (exact : n * 2 ^ t ≡ X * d) where
  abbrev z : ℤ
  z = minus u w

  abbrev common : ℕ
  common = 2 ^ w * 2 ^ (t * k)

  power-of-two : up z * d ^ k * common ≡ 2 ^ (u + t * k) * (down z * d ^ k)
  power-of-two =
      let two : up z * 2 ^ w ≡ 2 ^ u * down z = ap (λ (x : ℕ). x * 2 ^ w) (sym (one-mul (up z))) ∙ minus_val 1 u w ∙ ap (λ (x : ℕ). x * down z) (one-mul (2 ^ u)) in
      mul-mul-mul_comm (up z) (d ^ k) (2 ^ w) (2 ^ (t * k)) ∙ ap (λ (x : ℕ). x * (d ^ k * 2 ^ (t * k))) two
      ∙ mul-mul-mul_comm (2 ^ u) (down z) (d ^ k) (2 ^ (t * k)) ∙ ap (λ (x : ℕ). 2 ^ u * d ^ k * x) (mul_comm (down z) (2 ^ (t * k)))
      ∙ mul-mul-mul_comm (2 ^ u) (d ^ k) (2 ^ (t * k)) (down z) ∙ ap₂ (λ (x y : ℕ). x * y) (sym (pow-add 2 u (t * k))) (mul_comm (d ^ k) (down z))

  power-of-fraction : n ^ k * down z * common ≡ X ^ k * 2 ^ w * (down z * d ^ k)
  power-of-fraction =
      let scaled : n ^ k * 2 ^ (t * k) ≡ X ^ k * d ^ k = sym (pow-scaled n t k) ∙ ap (λ (x : ℕ). x ^ k) exact ∙ pow-product X d k in
      ap (λ (x : ℕ). n ^ k * down z * x) (mul_comm (2 ^ w) (2 ^ (t * k)))
      ∙ mul-mul-mul_comm (n ^ k) (down z) (2 ^ (t * k)) (2 ^ w) ∙ ap (λ (x : ℕ). x * (down z * 2 ^ w)) scaled
      ∙ ap (λ (x : ℕ). X ^ k * d ^ k * x) (mul_comm (down z) (2 ^ w)) ∙ mul-mul-mul_comm (X ^ k) (d ^ k) (2 ^ w) (down z)
      ∙ ap (λ (x : ℕ). X ^ k * 2 ^ w * x) (mul_comm (d ^ k) (down z))

  both : 0 < down z * d ^ k
  both = mul-pos (down_pos z) (one-le-pow k d some)

  pub two-at_most : 2 ^ (u + t * k) ≤ X ^ k * 2 ^ w → up z * d ^ k ≤ n ^ k * down z
  two-at_most h = le_of_mul-le-mul_right (subst₂ (λ (x y : ℕ). x ≤ y) (sym power-of-two) (sym power-of-fraction) (mul-le-mul_right (down z * d ^ k) h)) (mul-pos (pow_pos w) (pow_pos (t * k)))

  pub below_two : X ^ k * 2 ^ w < 2 ^ (u + t * k) → n ^ k * down z < up z * d ^ k
  below_two h = lt_of_mul-lt-mul_right common (subst₂ (λ (x y : ℕ). x < y) (sym power-of-fraction) (sym power-of-two) (mul-lt-mul_of_pos_right h both))

-- of X units, which x is, whose word is L
module _ (p X : ℕ) (x : Float) (exact : (exact_value x).over * 2 ^ 1074 ≡ X * (exact_value x).under) (some : 0 < (exact_value x).under) (L : ℤ) (near : NearLog p X L) where
  word_below : two_to_the L is_at_most exact_value x to_the (2 ^ p)
  word_below =
      let k : ℕ = 2 ^ p in
      let w : ℕ = 1074 * k in
      subst (λ (z : ℤ). two_to_the z is_at_most (exact_value x to_the k)) (sym near.word)
      (two-at_most (exact_value x).over (exact_value x).under X 1074 k near.biased w some exact (rw (pow-add 2 near.biased w) (mul-le-mul_right (2 ^ w) near.below)))

  word-above : (units : ℕ) → 2 ≤ units → exact_value x to_the (2 ^ p) is_below two_to_the (L +ℤ pos units)
  word-above units two =
      let k : ℕ = 2 ^ p in
      let w : ℕ = 1074 * k in
      let b : ℕ = near.biased in
      let less : X ^ k < 2 ^ (b + units) = lt_of_lt_of_le near.above (pow_mono {j = b + units} (omega arith)) in
      subst (λ (z : ℤ). (exact_value x to_the k) is_below two_to_the z) (sym (ap (λ (z : ℤ). z +ℤ pos units) near.word ∙ minus_plus b w units))
      (below_two (exact_value x).over (exact_value x).under X 1074 k (b + units) w some exact (rw (pow-add 2 (b + units) w) (mul-lt-mul_of_pos_right less (pow_pos w))))

near_of-units : (p X : ℕ) (x : Float) → (exact_value x).over * 2 ^ 1074 ≡ X * (exact_value x).under → 0 < (exact_value x).under → (L : ℤ) → NearLog p X L → LogNear p x L
near_of-units p X x exact some L near = record { never_too_great = word_below p X x exact some L near; less_than_two_too_small = word-above p X x exact some L near _ (lit≤ tt) }

log_near : (p : ℕ) → p ≤ 60 → (x : Float) → T (fits binary64 x) → T (positive x) → LogNear p x (log_word p x)
log_near p h nan t s = absurd s
log_near p h (inf b) t s = absurd s
log_near p h (fin true m e) t s = absurd s
log_near p h (fin false zero e) t s = absurd s
log_near p h (fin false (suc m) e) t s =
    near_of-units p (units_of (fin false (suc m) e)) (fin false (suc m) e) (units-exact false (suc m) e t) (down_pos e) (log_word p (fin false (suc m) e)) (near_log p m e h t)

root-above : (p f units : ℕ) → 4 ≤ units → f < 2 ^ p → 2 ^ (62 * 2 ^ p + f) < (antilog_root p f + units) ^ 2 ^ p
root-above p f units four h = lt_of_lt_of_le (antilog_root-above p f h) (pow-le-pow_left (omega arith) (2 ^ p))

pub how_near : (places : ℕ) → 1 ≤ places → places ≤ 60 → HowNear places
how_near p least most =
    record {
      logarithm = log_near p most;
      antilogarithm = λ f h. record { never_too_great = antilog_root-below p f h; less_than_four_too_small = root-above p f _ (lit≤ tt) h };
    }

-- ---- fewer units would be too few
-- x = 3614860327554031 * 2 is the one case at 12 places, up to a power of two, and there is none at fewer. Of whole numbers the least is 15443 at 52 places and
-- 43 at 60.
pub log_needs_two : let x : Float = fin false 3614860327554031 (pos 1) in (exact_value x to_the (2 ^ 12) is_below two_to_the (log_word 12 x +ℤ pos 1)) → ⊥
unfolding word_of_units fits
log_needs_two h = not-le_of_lt h (lit≤ tt)

-- f = 7 is the first case at 4 places, and there is none at fewer; f = 1 is one at 52 places and at 60. Y + 2 first fails at 14 places, for f = 8973.
pub antilog_needs_two : 2 ^ (62 * 2 ^ 4 + 7) < (antilog_root 4 7 + 1) ^ 2 ^ 4 → ⊥
unfolding antilog_root
antilog_needs_two h = not-le_of_lt h (lit≤ tt)
