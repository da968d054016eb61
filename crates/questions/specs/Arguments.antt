-- The words of a line as arguments: doubles by their patterns, and numbers. Definitions only.
use Rattle.std.specs.Prelude.{ℕ, List, Float, Option, Some, None}
use Rattle.std.specs.Float.{binary64}
use Rattle.std.specs.Float.Ieee.{of_bits}
use Rattle.questions.specs.Digits.{hex_number, number_in}

-- every NaN's pattern is the one NaN
abbrev pub double_in : List ℕ → Float
double_in w = of_bits binary64 (hex_number w)

-- 0 where there is none
abbrev pub number_found : Option ℕ → ℕ
number_found (Some n) = n
number_found None = 0

abbrev pub number_or : List ℕ → ℕ
number_or w = number_found (number_in w)
