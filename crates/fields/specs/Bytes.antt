-- Numbers and doubles out of a record's bytes, big-endian. Definitions only.
use Rattle.std.specs.Prelude.{ℕ, zero, suc, ◌+◌, ◌*◌, List, get_or, Float}
use Rattle.std.specs.Float.{binary64}
use Rattle.std.specs.Float.Ieee.{of_bits}

-- the number that n bytes from position i on spell
unfoldable pub number_at : List ℕ → ℕ → ℕ → ℕ
number_at s i zero = 0
number_at s i (suc n) = number_at s i n * 256 + get_or s (i + n) 0

-- the double that eight bytes spell; every NaN's pattern is the one NaN
abbrev pub double_at : List ℕ → ℕ → Float
double_at s i = of_bits binary64 (number_at s i 8)
