-- What "How near is near" makes of power, exp and ln: how far an answer lies from the true value. Definitions only.
use Rattle.std.specs.Prelude.{◌≡◌, ℕ, suc, ◌+◌, ◌-◌, ◌*◌, ◌^◌, cond, ℤ, pos, negsuc, ◌+ℤ◌, T, Float}
use Rattle.std.specs.Float.{nan, inf, fin}
use Rattle.std.specs.Float.Ieee.Positive.{num, positive}
use Rattle.arithmetic.specs.Nearest.{nearest_ratio}
use Rattle.elementary.specs.Exponents.{Exponent}
use Rattle.elementary.specs.Ln.{ln2, ln}
use Rattle.arithmetic.specs.Fractions.{Fraction, ◌is_at_most◌, ◌is_below◌, ◌to_the◌, two_to_the, exact_value}

-- ---- numbers
infixl 6 ◌times◌
abbrev pub ◌times◌ : Fraction → Fraction → Fraction
a times b = record { over = a.over * b.over; under = a.under * b.under }

abbrev pub inverse : Fraction → Fraction
inverse a = record { over = a.under; under = a.over }

-- 1 - c / 2 ^ places, for a c below 2 ^ places, and 1 + c / 2 ^ places
abbrev pub less : ℕ → ℕ → Fraction
less c places = record { over = 2 ^ places - c; under = 2 ^ places }

abbrev pub more : ℕ → ℕ → Fraction
more c places = record { over = 2 ^ places + c; under = 2 ^ places }

-- a normal double: finite, and 2 ^ -1022 or more
abbrev pub Normal : Float → Type 0
Normal r = T (positive r) × (two_to_the (negsuc 1021) is_at_most exact_value r)

-- ---- r * (1 - c / 2 ^ places) < t < r * (1 + c / 2 ^ places), where t is the number whose power to the d is t^d: said of the powers to the d
pub record InBounds (c places : ℕ) (r : Float) (d : ℕ) (t^d : Fraction) : Type 0 where
  pub low : ((exact_value r times less c places) to_the d) is_below t^d
  pub high : t^d is_below ((exact_value r times more c places) to_the d)

-- ---- power
-- (x ^ q) ^ (2^58), where q * 2^58 is a whole number, the magnitude, or its opposite
abbrev pub raised : Exponent → Fraction → Fraction
raised q x = cond q.negative (inverse (x to_the q.magnitude)) (x to_the q.magnitude)

-- ---- exp
-- e = 2.7182818284 5904523536 02874713..., between two decimals
abbrev pub e_below : Fraction
e_below = record { over = 2718281828459045235360; under = 1000000000000000000000 }

abbrev pub e_above : Fraction
e_above = record { over = 2718281828459045235361; under = 1000000000000000000000 }

-- (b ^ x) ^ d for x's denominator d, and 1 where x is no number
abbrev pub raised_by : Float → Fraction → Fraction
raised_by nan b = two_to_the (pos 0)
raised_by (inf s) b = two_to_the (pos 0)
raised_by (fin s m e) b = raised (record { negative = s; magnitude = num (fin s m e) }) b

-- ---- ln
-- b to the power F * θ, where θ lies between D and D + 1, is at least the first and at most the second
abbrev pub at_least : ℕ → Fraction → ℤ → Fraction
at_least D b (pos n) = b to_the (n * D)
at_least D b (negsuc n) = inverse (b to_the (suc n * (D + 1)))

abbrev pub at_most : ℕ → Fraction → ℤ → Fraction
at_most D b (pos n) = b to_the (n * (D + 1))
at_most D b (negsuc n) = inverse (b to_the (suc n * D))

-- The answer is the double nearest to F / 2 ^ places. With θ = ln 2 * 2^62, between `ln2` and `ln2` + 1: F * θ ≤ ln x * 2 ^ places * ln2 < (F + 3) * θ, said of
-- the powers of b, which is as in exp. So F ≤ ln x * 2 ^ places < F + 3, but for one part in 3 * 10^18 of it.
pub record LnWithin (places : ℕ) (b : Fraction) (x : Float) (F : ℤ) : Type 0 where
  pub nearest : ln places x ≡ nearest_ratio F (2 ^ places)
  pub low : at_least ln2 b F is_at_most exact_value x to_the (2 ^ places * ln2)
  pub high : exact_value x to_the (2 ^ places * ln2) is_below at_most ln2 b (F +ℤ pos 3)
