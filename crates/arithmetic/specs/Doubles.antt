-- Rust's `f64::clamp`, `max`, `abs` and `is_finite`, at NaN, the infinities and the two zeros too. Definitions only.
use Rattle.std.specs.Prelude.{Bool, true, false, cond, ◌&&◌, is_nan, Float}
use Rattle.std.specs.Float.{nan, inf, fin}
use Rattle.std.specs.Float.Ieee.{lt}

-- `clamp`: low where x is below it, and then high where that is above it. NaN stays NaN, and a bound of zero leaves a zero of the other sign.
-- Rust stops where low is above high or one of them is NaN; no caller has such bounds, and here the two tests go on.
abbrev pub clamp_double : Float → Float → Float → Float
clamp_double x low high = let raised = cond (lt x low) low x in cond (lt high raised) high raised

-- `max`: the greater one, and the other one where one is NaN. Of two zeros with different signs Rust may return either: here it is the first, x.
abbrev pub max_double : Float → Float → Float
max_double x y = cond (is_nan x) y (cond (lt x y) y x)

-- `abs`: the same size with no sign, so that -0 becomes +0
unfoldable pub abs_double : Float → Float
abs_double nan = nan
abs_double (inf s) = inf false
abs_double (fin s m e) = fin false m e

-- `is_finite`: neither NaN nor an infinity
unfoldable pub is_finite : Float → Bool
is_finite nan = false
is_finite (inf s) = false
is_finite (fin s m e) = true

-- and above a bound
abbrev pub is_finite_above : Float → Float → Bool
is_finite_above bound x = is_finite x && lt bound x
