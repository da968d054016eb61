-- The count nearest to a double, by the fields of the double's bit pattern: its sign s, the exponent's field k and the digits' field t. Assumes nothing.
use Rattle.arithmetic.proofs.Kit.{◌≡◌, refl, sym, ap, ◌∙◌, ◌⊎◌, inl, inr, Bool, true, false, cond, ℕ, zero, suc, ◌+◌, ◌-◌, ◌*◌, ◌^◌, ◌≤◌, ◌<◌, le_trans, le_of_eq, eq-or-lt_of_le, lt_of_lt_of_le, mul_assoc, mul_right_comm, mul-lt-mul_of_pos_right, mul-le-mul, div-eq_of_lt, le-div_iff_mul-le, arith, ℤ, pos, T, eqb, lit≤, pow-add, pow_pos, pow_mono, Float, nan, inf, fin, binary64, up, down, odd, round, fits, of_fields, of_bits, to_bits, down_pos, of_bits-to_bits, HasValue, ne_eqb}
use native.Mathlib.Nat.{ne_of_lt}
use lib.Ieee.Bits.{to_bits-lt}
use lib.Ieee.Exact.{odd_sign}
use Rattle.arithmetic.specs.Whole.{signed}
use Rattle.arithmetic.proofs.Parts.{negative, field, fraction}
use Rattle.std.specs.Prelude.{None}
use Rattle.thousandths.specs.Thousandths.{in_range, thousandths, nearest_whole, nearest_thousandth, counted, if_exact, count_for}
use Rattle.thousandths.proofs.Sizes.{nearest_whole-same}
use Rattle.thousandths.proofs.Words.{out_of_range}
use Rattle.thousandths.proofs.Laws.{in_range-counted, not_counted, other-pattern}

-- ---- a finite double as a count of units of 2^-1074
nearest-of-units : (x : Float) (s : Bool) (a : ℕ) → HasValue x s a (2 ^ 1074) → nearest_thousandth x ≡ signed s (nearest_whole (a * 1000) (2 ^ 1074))
unfolding nearest_thousandth
nearest-of-units nan s a h = absurd h
nearest-of-units (inf t) s a h = absurd h
nearest-of-units (fin t m e) s a h =
    ap (λ (u : Bool). signed u (nearest_whole (m * up e * 1000) (down e))) h.0
    ∙ ap (signed s)
    (nearest_whole-same (m * up e * 1000) (down e) (a * 1000) (2 ^ 1074) (down_pos e) (pow_pos 1074)
    (mul_right_comm (m * up e) 1000 (2 ^ 1074) ∙ ap (λ (z : ℕ). z * 1000) h.1 ∙ mul_right_comm a (down e) 1000))

-- ---- what the fields stand for
subnormal_count : (s : Bool) (t : ℕ) → nearest_thousandth (of_fields binary64 s 0 t) ≡ signed s (nearest_whole (t * 1 * 1000) (2 ^ 1074))
unfolding of_fields
subnormal_count s t = nearest-of-units (odd 53 s t 0 1074) s (t * 1) (odd_sign 53 s t 0 1074)

normal-count : (s : Bool) (k t : ℕ) → suc k < 2047 → nearest_thousandth (of_fields binary64 s (suc k) t) ≡ signed s (nearest_whole ((2 ^ 52 + t) * 2 ^ k * 1000) (2 ^ 1074))
unfolding of_fields
normal-count s k t h = rw (ne_eqb (suc k) 2047 (ne_of_lt h)) (nearest-of-units (odd 53 s (2 ^ 52 + t) k 1074) s ((2 ^ 52 + t) * 2 ^ k) (odd_sign 53 s (2 ^ 52 + t) k 1074))

-- neither an infinity nor a NaN has a nearest count, and 0 is taken for it
top_count : (s : Bool) (t : ℕ) → nearest_thousandth (of_fields binary64 s 2047 t) ≡ pos 0
unfolding of_fields nearest_thousandth
top_count s t = go (eqb t 0)
  where
    go : (b : Bool) → nearest_thousandth (cond b (inf s) nan) ≡ pos 0
    go true = refl
    go false = refl

zero_bits : to_bits binary64 (thousandths (pos 0)) ≡ 0
unfolding to_bits thousandths round
zero_bits = refl

-- ---- three ranges of the exponent's field
-- Below 2^-11 in size 1000 * x is less than a half: P is 2^1063 units, and 2048 P are 1.
none : (P a : ℕ) → a < P → nearest_whole (a * 1000) (P * 2048) ≡ 0
none P a h = div-eq_of_lt (omega arith)

-- from 2^22 on it is more than any count: P units are 1
many : (P a : ℕ) → 0 < P → P * 4194304 ≤ a → 2147483648 < nearest_whole (a * 1000) P
many P a some h = (le-div_iff_mul-le {k = P * 2} (omega arith)).1 (omega arith)

below-a-half : (s : Bool) (k t : ℕ) → k < 1012 → t < 2 ^ 52 → nearest_thousandth (of_fields binary64 s k t) ≡ signed s 0
below-a-half s zero t h T = subnormal_count s t ∙ ap (signed s) (none (2 ^ 1063) (t * 1) (lt_of_lt_of_le (omega arith) (lit≤ {m = 2 ^ 52} tt)))
below-a-half s (suc k) t h T =
    normal-count s k t (omega arith)
    ∙ ap (signed s)
    (none (2 ^ 1063) ((2 ^ 52 + t) * 2 ^ k)
    (lt_of_lt_of_le (mul-lt-mul_of_pos_right (omega arith) (pow_pos k)) (le_trans (le_of_eq (sym (pow-add 2 53 k))) (pow_mono {i = 53 + k} {j = 1063} (omega arith)))))

above-all : (s : Bool) (k t : ℕ) → 1045 ≤ k → k < 2047 → in_range (nearest_thousandth (of_fields binary64 s k t)) ≡ false
above-all s zero t h H = absurd (omega arith)
above-all s (suc k) t h H =
    let digits : 2 ^ 52 ≤ 2 ^ 52 + t = omega arith in
    ap in_range (normal-count s k t H)
    ∙ out_of_range s (nearest_whole ((2 ^ 52 + t) * 2 ^ k * 1000) (2 ^ 1074))
    (many (2 ^ 1074) ((2 ^ 52 + t) * 2 ^ k) (pow_pos 1074) (mul-le-mul digits (pow_mono {i = 1044} {j = k} (omega arith))))

in_between : (s : Bool) (k t : ℕ) → 1012 ≤ k → k < 1045 → nearest_thousandth (of_fields binary64 s k t) ≡ signed s (nearest_whole ((2 ^ 52 + t) * 1000) (2 ^ (1075 - k)))
in_between s zero t h H = absurd (omega arith)
in_between s (suc k) t h H =
    let q : ℕ = 2 ^ 52 + t in
    let places : k + (1075 - suc k) ≡ 1074 = omega arith in
    let whole : 2 ^ k * 2 ^ (1075 - suc k) ≡ 2 ^ 1074 = sym (pow-add 2 k (1075 - suc k)) ∙ ap (λ (i : ℕ). 2 ^ i) places in
    normal-count s k t (omega arith)
    ∙ ap (signed s)
    (nearest_whole-same (q * 2 ^ k * 1000) (2 ^ 1074) (q * 1000) (2 ^ (1075 - suc k)) (pow_pos 1074) (pow_pos (1075 - suc k))
    (mul_right_comm (q * 2 ^ k) 1000 (2 ^ (1075 - suc k))
    ∙ ap (λ (z : ℕ). z * 1000) (mul_assoc q (2 ^ k) (2 ^ (1075 - suc k)) ∙ ap (λ (z : ℕ). q * z) whole)
    ∙ mul_right_comm q (2 ^ 1074) 1000))

-- ---- the count of a double, by the fields of its pattern
module _ (x : Float) (held : T (fits binary64 x)) where
  count-is : (n : ℤ) → nearest_thousandth (of_fields binary64 (negative x) (field x) (fraction x)) ≡ n → if_exact (to_bits binary64 x) (counted n) ≡ count_for x
  unfolding count_for of_bits
  count-is n is = ap (λ (z : ℤ). if_exact (to_bits binary64 x) (counted z)) (sym is ∙ ap nearest_thousandth (of_bits-to_bits binary64 x held))

  pub small_count : field x < 1012 → if_exact (to_bits binary64 x) (counted (signed (negative x) 0)) ≡ count_for x
  small_count h = count-is (signed (negative x) 0) (below-a-half (negative x) (field x) (fraction x) h (omega arith))

  pub digits-count : 1012 ≤ field x → field x < 1045
      → if_exact (to_bits binary64 x) (counted (signed (negative x) (nearest_whole ((2 ^ 52 + fraction x) * 1000) (2 ^ (1075 - field x))))) ≡ count_for x
  digits-count h g = count-is _ (in_between (negative x) (field x) (fraction x) h g)

  pub great-count : 1045 ≤ field x → None ≡ count_for x
  unfolding if_exact
  great-count h = let top : field x ≤ 2047 = omega (arith, to_bits-lt binary64 x held) in go (eq-or-lt_of_le top)
    where
      not_zero : to_bits binary64 (thousandths (pos 0)) ≡ to_bits binary64 x → ⊥
      not_zero same = omega (arith, same, zero_bits)

      go : (field x ≡ 2047) ⊎ (field x < 2047) → None ≡ count_for x
      go (inl e) =
          sym (other-pattern (pos 0) (to_bits binary64 x) not_zero)
          ∙ ap (if_exact (to_bits binary64 x)) (sym (in_range-counted (pos 0) tt))
          ∙ count-is (pos 0) (ap (λ (k : ℕ). nearest_thousandth (of_fields binary64 (negative x) k (fraction x))) e ∙ top_count (negative x) (fraction x))
      go (inr l) = ap (if_exact (to_bits binary64 x)) (sym (not_counted _ (above-all (negative x) (field x) (fraction x) h l))) ∙ count-is _ refl
