-- Document 01, "Power", with any number of places for its 52. Definitions only.
use Rattle.std.specs.Prelude.{ℕ, zero, suc, ◌^◌, Bool, true, false, cond, ◌&&◌, pos, ◌*ℤ◌, nat_lt, Float}
use Rattle.std.specs.Float.{nan, inf, fin}
use Rattle.std.specs.Float.Ieee.{neg}
use Rattle.arithmetic.specs.Whole.{signed, floor_div}
use Rattle.antilog.specs.Log.{log_word, word_of_units}
use Rattle.antilog.specs.Antilog.{antilog}
use Rattle.elementary.specs.Exponents.{Exponent, exponents, exponent_at, is_three, is_four}

-- a positive finite base: antilog of floor(L * q)
abbrev pub positive_power : ℕ → Exponent → Float → Float
positive_power places q x = antilog places (floor_div (log_word places x *ℤ signed q.negative q.magnitude) (2 ^ 58))

-- infinity, or +0 where b is true
abbrev pub infinity_or_zero : Bool → Float
infinity_or_zero b = cond b (fin false 0 (pos 0)) (inf false)

unfoldable pub power : ℕ → Exponent → Float → Float
unfolding word_of_units antilog
power places q nan = nan
power places q (inf false) = infinity_or_zero q.negative
power places q (inf true) = cond (is_three q) (inf true) (infinity_or_zero q.negative)
power places q (fin s zero e) = cond (s && is_three q) (fin true 0 (pos 0)) (cond q.negative (inf false) (fin false 0 (pos 0)))
power places q (fin false (suc m) e) = positive_power places q (fin false (suc m) e)
power places q (fin true (suc m) e) =
    cond (is_three q) (neg (positive_power places q (fin false (suc m) e))) (cond (is_four q) (positive_power places q (fin false (suc m) e)) nan)

-- by the number of the exponent in the table of 27; any other number has no exponent, and the answer is NaN
unfoldable pub power_at : ℕ → ℕ → Float → Float
unfolding power exponents
power_at places i x = cond (nat_lt i 27) (power places (exponent_at i) x) nan
