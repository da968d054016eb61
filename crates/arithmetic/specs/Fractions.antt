-- Numbers that need not be whole: a numerator over a denominator, which is never 0 here. Definitions only.
use Rattle.std.specs.Prelude.{ℕ, ◌*◌, ◌^◌, ◌<◌, ◌≤◌, ℤ, Float}
use Rattle.std.specs.Float.Ieee.{up, down}
use Rattle.std.specs.Float.Ieee.Positive.{num, den}

pub record Fraction : Type 0 where
  pub over : ℕ
  pub under : ℕ

infix 4 ◌is_at_most◌ ◌is_below◌
abbrev pub ◌is_at_most◌ : Fraction → Fraction → Type 0
a is_at_most b = a.over * b.under ≤ b.over * a.under

abbrev pub ◌is_below◌ : Fraction → Fraction → Type 0
a is_below b = a.over * b.under < b.over * a.under

infixl 5 ◌to_the◌
abbrev pub ◌to_the◌ : Fraction → ℕ → Fraction
a to_the k = record { over = a.over ^ k; under = a.under ^ k }

-- 2 to the power z, which may be negative
abbrev pub two_to_the : ℤ → Fraction
two_to_the z = record { over = up z; under = down z }

-- the number that a finite double is: m * 2 ^ e, exactly
abbrev pub exact_value : Float → Fraction
exact_value x = record { over = num x; under = den x }
