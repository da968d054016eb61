-- Square roots and powers, which in general are no fractions. A fraction stands for one if it comes near enough: what is promised of all that stand for a root is
-- promised of fractions as near to it as one likes, and so of the root itself. Definitions only.
use Rattle.std.specs.Prelude.{◌+◌, ◌-◌, ◌*◌, ◌^◌, ◌≤◌, ◌<◌}
use Rattle.arithmetic.specs.Fractions.{Fraction, ◌is_at_most◌, ◌to_the◌}
use Rattle.exact.specs.FunctionsNear.{◌times◌, inverse, less, more}
use Rattle.exact.specs.Exact.{Exact, ◌⊟◌}

-- a fraction as an exact number
abbrev pub of : Fraction → Exact
of f = record { plus = f.over; minus = 0; under = f.under }

-- a number above zero, as a fraction
abbrev pub positive_part : Exact → Fraction
positive_part X = record { over = X.plus - X.minus; under = X.under }

-- `IsRoot k τ`: k stands for √τ. Its square is no further than 2 ^ -80 from τ.
pub record IsRoot (k : Fraction) (τ : Exact) : Type 0 where
  pub proper : 0 < k.under
  pub not_above : let d = of (k to_the 2) ⊟ τ in d.plus * 2 ^ 80 ≤ d.minus * 2 ^ 80 + d.under
  pub not_below : let d = of (k to_the 2) ⊟ τ in d.minus * 2 ^ 80 ≤ d.plus * 2 ^ 80 + d.under

-- `IsPower b y r`: r stands for b ^ y, but for one part in 2 ^ 80. With y = (plus - minus) / under, r * (1 - 2 ^ -80) ≤ b ^ y ≤ r * (1 + 2 ^ -80) is said of the powers to
-- `under`, where b ^ (plus - minus) is b ^ plus over b ^ minus.
pub record IsPower (b : Fraction) (y : Exact) (r : Fraction) : Type 0 where
  pub proper : 0 < r.under
  pub low : ((r times less 1 80) to_the y.under) is_at_most ((b to_the y.plus) times inverse (b to_the y.minus))
  pub high : ((b to_the y.plus) times inverse (b to_the y.minus)) is_at_most ((r times more 1 80) to_the y.under)
