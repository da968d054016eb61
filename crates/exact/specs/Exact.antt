-- Numbers without rounding: (plus - minus) / under, of three natural numbers, so that a number may have a sign and need not be whole. The same number may be
-- written in many ways; what is said of numbers is said of their values. Definitions only.
use Rattle.std.specs.Prelude.{ℕ, ◌+◌, ◌-◌, ◌*◌, Bool, cond, leb, Float}
use Prim.Native.String.{String}
use Rattle.std.specs.Float.{nan, inf, fin}
use Rattle.std.specs.Float.Ieee.{up, down}
use Rattle.arithmetic.specs.Decimals.{fraction}

pub record Exact : Type 0 where
  pub plus : ℕ
  pub minus : ℕ
  pub under : ℕ

-- ---- sum, difference, product and quotient, as for fractions at school
infixl 60 ◌⊞◌ ◌⊟◌
infixl 70 ◌⊠◌ ◌÷◌
unfoldable pub ◌⊞◌ : Exact → Exact → Exact
a ⊞ b = record { plus = a.plus * b.under + b.plus * a.under; minus = a.minus * b.under + b.minus * a.under; under = a.under * b.under }

unfoldable pub opposite : Exact → Exact
opposite a = record { plus = a.minus; minus = a.plus; under = a.under }

abbrev pub ◌⊟◌ : Exact → Exact → Exact
a ⊟ b = a ⊞ opposite b

unfoldable pub ◌⊠◌ : Exact → Exact → Exact
a ⊠ b = record { plus = a.plus * b.plus + a.minus * b.minus; minus = a.plus * b.minus + a.minus * b.plus; under = a.under * b.under }

-- by a number above zero; by any other the denominator is 0, and nothing is near that
unfoldable pub ◌÷◌ : Exact → Exact → Exact
a ÷ b = record { plus = a.plus * b.under; minus = a.minus * b.under; under = a.under * (b.plus - b.minus) }

-- ---- `the "273.15"`: a decimal as the documents write it
unfoldable pub the : String → Exact
the t = let f = fraction t in record { plus = cond f.negative 0 f.numerator; minus = cond f.negative f.numerator 0; under = f.denominator }

-- ---- the number that a finite double is: m * 2 ^ e with its sign, exactly
unfoldable pub number : Float → Exact
number nan = record { plus = 0; minus = 0; under = 1 }
number (inf s) = record { plus = 0; minus = 0; under = 1 }
number (fin s m e) = record { plus = cond s 0 (m * up e); minus = cond s (m * up e) 0; under = down e }

-- ---- a is no greater than b
abbrev pub is_not_above : Exact → Exact → Bool
is_not_above a b = leb (a.plus * b.under + b.minus * a.under) (b.plus * a.under + a.minus * b.under)
