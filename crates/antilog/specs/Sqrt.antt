-- The square root of a double, correctly rounded, as proofs/NearestRoot shows. Definitions only.
use Rattle.std.specs.Prelude.{ℕ, zero, suc, ◌+◌, ◌*◌, ◌/◌, ◌^◌, true, false, cond, leb, Float}
use Rattle.std.specs.Float.{nan, inf, fin}
use Rattle.std.specs.Float.Ieee.{size, minus, round}
use Rattle.roots.specs.Root.{root}
use Rattle.arithmetic.specs.Nearest.{units_of, nearest_scaled}

-- The whole number nearest to the square root of n. There is no tie: (r + 1/2) * (r + 1/2) is r * r + r + 1/4, and n is whole.
abbrev pub nearest_root : ℕ → ℕ
nearest_root n = let r = root n in cond (leb n (r * r + r)) r (suc r)

-- n units of 2 ^ -1074, where n has d digits to the base 4, are N * 4 ^ (d - 53 - 537) with N of 53 digits to the base 4, so that its root has
-- the 53 binary digits of a double. The division is exact.
abbrev pub sqrt_of_units : ℕ → Float
sqrt_of_units n = let d = (size n + 1) / 2 in nearest_scaled (nearest_root (n * 4 ^ 53 / 4 ^ d)) (minus d 590)

unfoldable pub sqrt : Float → Float
unfolding root size round
sqrt nan = nan
sqrt (inf false) = inf false
sqrt (inf true) = nan
sqrt (fin s zero e) = fin s zero e
sqrt (fin false (suc m) e) = sqrt_of_units (units_of (fin false (suc m) e))
sqrt (fin true (suc m) e) = nan

-- ---- correctly rounded
-- In units of 2 ^ -1074 a double x is X = units_of x, and its root is the root of X * 2 ^ 1074; the point half way between the doubles z and r is
-- (Z + R) / 2. The two are compared by the squares of twice each, which are whole.
abbrev pub twice_root_squared : Float → ℕ
twice_root_squared x = 4 * units_of x * 2 ^ 1074

abbrev pub twice_midpoint_squared : Float → Float → ℕ
twice_midpoint_squared z r = (units_of z + units_of r) * (units_of z + units_of r)
