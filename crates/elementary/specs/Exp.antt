-- Document 01, "exp", with any number of places for its 52. Definitions only.
use Rattle.std.specs.Prelude.{ℕ, ◌*◌, ◌^◌, false, cond, ℤ, pos, ◌*ℤ◌, Float}
use Rattle.std.specs.Float.{nan, inf, fin}
use Rattle.std.specs.Float.Ieee.{of_bits, neg, le, is_nan}
use Rattle.arithmetic.specs.Whole.{signed, floor_div}
use Rattle.arithmetic.specs.Decimals.{decimal}
use Rattle.arithmetic.specs.Nearest.{units_of}
use Rattle.antilog.specs.Antilog.{antilog}

-- floor(x * 2^places), for the finite x of so many units of 2 ^ -1074
abbrev pub floor_scaled : ℕ → Float → ℤ
floor_scaled places nan = pos 0
floor_scaled places (inf s) = pos 0
floor_scaled places (fin s m e) = floor_div (signed s (units_of (fin s m e) * 2 ^ places)) (2 ^ 1074)

-- 1 / ln 2, times 2^62
abbrev pub log2e : ℕ
log2e = 0x5c551d94ae0bf85d

-- the limits: infinity from the first up, and +0 from the second down
abbrev pub exp_top : Float
exp_top = decimal "1024"

abbrev pub exp_bottom : Float
exp_bottom = neg (decimal "1100")

-- W = floor(x * 2^places), antilog of floor(W * log2e / 2^62)
abbrev pub exp_within : ℕ → Float → Float
exp_within places x = antilog places (floor_div (floor_scaled places x *ℤ pos log2e) (2 ^ 62))

unfoldable pub exp : ℕ → Float → Float
unfolding antilog is_nan le neg of_bits
exp places x = cond (is_nan x) nan (cond (le exp_top x) (inf false) (cond (le x exp_bottom) (fin false 0 (pos 0)) (exp_within places x)))
