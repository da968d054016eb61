-- Doubles and whole numbers: a double in units of the smallest one, and the double nearest to a number, ties to even, subnormals and infinity
-- as IEEE 754, by the logic's own `round`. Definitions only.
use Rattle.std.specs.Prelude.{ℕ, suc, ◌*◌, ◌/◌, ◌^◌, true, false, ℤ, pos, negsuc, Float}
use Rattle.std.specs.Float.{nan, inf, fin, binary64}
use Rattle.std.specs.Float.Ieee.{up, down, round}

-- the size of a finite double, as a count of the smallest positive double, 2 ^ -1074; every double is a whole count
abbrev pub units_of : Float → ℕ
units_of nan = 0
units_of (inf s) = 0
units_of (fin s m e) = m * up e * 2 ^ 1074 / down e

-- the double nearest to m * 2 ^ e
abbrev pub nearest_scaled : ℕ → ℤ → Float
nearest_scaled m e = round binary64 false (m * up e) (down e)

-- the double nearest to z / d
abbrev pub nearest_ratio : ℤ → ℕ → Float
nearest_ratio (pos n) d = round binary64 false n d
nearest_ratio (negsuc n) d = round binary64 true (suc n) d
