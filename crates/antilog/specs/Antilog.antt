-- Document 01, "Antilog", with any number of places for its 52. Definitions only.
use Rattle.std.specs.Prelude.{ℕ, zero, suc, ◌+◌, ◌*◌, ◌/◌, ◌%◌, ◌^◌, ℤ, pos, ◌-ℤ◌, Float}
use Rattle.std.specs.Float.Ieee.{round}
use Rattle.roots.specs.Root.{root}
use Rattle.arithmetic.specs.Whole.{floor_div, floor_mod}
use Rattle.arithmetic.specs.Nearest.{nearest_scaled}

-- Y, which starts at 2^62; for each of f's p bits, lowest first, it becomes the floor of the square root of Y * 2^62, or of Y * 2^63 where the
-- bit is 1. The highest bit, f / 2 ^ places of places + 1 bits, comes last.
unfoldable pub antilog_root : ℕ → ℕ → ℕ
unfolding root
antilog_root zero f = 2 ^ 62
antilog_root (suc places) f = root (antilog_root places (f % 2 ^ places) * 2 ^ (62 + f / 2 ^ places))

-- the same from any Y, of n bits
unfoldable pub later_roots : (n Y f : ℕ) → ℕ
unfolding root
later_roots zero Y f = Y
later_roots (suc n) Y f = root (later_roots n Y (f % 2 ^ n) * 2 ^ (62 + f / 2 ^ n))

-- k = floor(P / 2^places), f the remainder; the double nearest to Y * 2^(k - 62)
unfoldable pub antilog : ℕ → ℤ → Float
unfolding antilog_root round
antilog places P = nearest_scaled (antilog_root places (floor_mod P (2 ^ places))) (floor_div P (2 ^ places) -ℤ pos 62)
