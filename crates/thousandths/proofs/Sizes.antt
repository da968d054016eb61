-- The size of a count's double: the rounding moves N / 1000 by less than 2^-31, so that the whole number nearest to 1000 times the double is N.
-- Assumes nothing.
use Rattle.arithmetic.proofs.Kit.{◌≡◌, refl, sym, ap, ◌∙◌, true, false, ℕ, ◌+◌, ◌*◌, ◌^◌, ◌≤◌, ◌<◌, mul_comm, mul_assoc, mul_right_comm, add-mul, mul-le-mul_right, arith, ℤ, T, lit≤, lit<, pow_pos, Float, nan, inf, fin, binary64, up, down, round, down_pos, round_same}
use native.Mathlib.Nat.{div-eq_of_lt-le}
use lib.Ieee.Nearest.{div_same}
use Rattle.arithmetic.specs.Nearest.{units_of}
use Rattle.arithmetic.proofs.CommonDenominator.{above, beneath}
use Rattle.arithmetic.proofs.Order.{unsigned, units-exact}
use Rattle.arithmetic.proofs.Rounding.{round-unsigned}
use Rattle.arithmetic.proofs.Near.{Near, round-near}
use Rattle.thousandths.specs.Thousandths.{nearest_whole, in_range}

-- a count in range
abbrev pub InRange : ℤ → Type 0
InRange n = T (in_range n)

-- ---- equal fractions have the same nearest whole number
pub nearest_whole-same : (a b c d : ℕ) → 0 < b → 0 < d → a * d ≡ c * b → nearest_whole a b ≡ nearest_whole c d
nearest_whole-same a b c d B D e =
    div_same (a * 2 + b) (b * 2) (c * 2 + d) (d * 2) (omega arith) (omega arith)
    (rw (add-mul (a * 2) b (d * 2), add-mul (c * 2) d (b * 2))
    (omega (arith, e, mul_comm b d, mul_assoc (a * 2) d 2, mul_right_comm a 2 d, mul_assoc (c * 2) b 2, mul_right_comm c 2 b, mul_assoc b d 2, mul_assoc d b 2)))

-- ---- the double nearest to N / 1000
pub record OfSize (N : ℕ) (x : Float) : Type 0 where
  pub digits : ℕ
  pub exponent : ℤ
  pub is : x ≡ fin false digits exponent
  pub nearest : nearest_whole (digits * up exponent * 1000) (down exponent) ≡ N

-- A step P of the doubles below 2^22 is 2^1043 units of 2^-1074, and 1000 steps are far less than half a whole number, which is P * 2^31 units.
module _ (P N : ℕ) (some : 0 < P) where
  below_steps : N ≤ 2147483648 → N * (P * 2147483648) < 2 ^ 53 * P * 1000
  below_steps h = omega (arith, mul-le-mul_right P h, mul_assoc N P 2147483648)

  nearest-is : (u : ℕ) → u * 1000 + 0 ≤ 0 * 1000 + N * (P * 2147483648) + P * 1000 → 0 * 1000 + N * (P * 2147483648) ≤ u * 1000 + 0 + P * 1000 → nearest_whole (u * 1000) (P * 2147483648) ≡ N
  nearest-is u high low =
      div-eq_of_lt-le (P * 2147483648 * 2) {m = u * 1000 * 2 + P * 2147483648}
      (omega (arith, high, low, mul_assoc N P 2147483648, mul_assoc N (P * 2147483648) 2))
      (omega (arith, high, low, mul_assoc N P 2147483648, mul_assoc N (P * 2147483648) 2, add-mul N 1 (P * 2147483648 * 2)))

of-near : (N : ℕ) (x : Float) → T (unsigned x) → Near (2 ^ 1043) 1000 (above false (N * 2 ^ 1074)) (beneath false (N * 2 ^ 1074)) x → OfSize N x
unfolding above beneath
of-near N nan u n = absurd u
of-near N (inf s) u n = absurd n.is_finite
of-near N (fin true m e) u n = absurd u
of-near N (fin false m e) u n =
    let u : ℕ = units_of (fin false m e) in
    let in_units : nearest_whole (m * up e * 1000) (down e) ≡ nearest_whole (u * 1000) (2 ^ 1074) =
    nearest_whole-same (m * up e * 1000) (down e) (u * 1000) (2 ^ 1074) (down_pos e) (pow_pos 1074)
    (mul_right_comm (m * up e) 1000 (2 ^ 1074) ∙ ap (λ (z : ℕ). z * 1000) (units-exact false m e n.double) ∙ mul_right_comm u (down e) 1000) in
    record { digits = m; exponent = e; is = refl; nearest = in_units ∙ nearest-is (2 ^ 1043) N (pow_pos 1043) u n.not_above n.not_below }

pub of_size : (N : ℕ) → N ≤ 2147483648 → OfSize N (round binary64 false N 1000)
of_size N h =
    let same : round binary64 false N 1000 ≡ round binary64 false (N * 2 ^ 1074) (2 ^ 1074 * 1000) =
    round_same binary64 false N 1000 (N * 2 ^ 1074) (2 ^ 1074 * 1000) (lit< tt) (lit< tt) (sym (mul_assoc N (2 ^ 1074) 1000)) in
    of-near N (round binary64 false N 1000) (round-unsigned binary64 N 1000)
    (rw same (round-near false (N * 2 ^ 1074) 1000 (2 ^ 1043) (lit< tt) (1043, lit≤ tt, refl) (below_steps (2 ^ 1043) N (pow_pos 1043) h)))
