-- Document 01, "ln", with any number of places for its 52. Definitions only.
use Rattle.std.specs.Prelude.{ℕ, zero, suc, ◌^◌, true, false, pos, ◌*ℤ◌, Float}
use Rattle.std.specs.Float.{nan, inf, fin}
use Rattle.std.specs.Float.Ieee.{round}
use Rattle.arithmetic.specs.Whole.{floor_div}
use Rattle.arithmetic.specs.Nearest.{nearest_ratio}
use Rattle.antilog.specs.Log.{log_word, word_of_units}

-- ln 2, times 2^62
abbrev pub ln2 : ℕ
ln2 = 0x2c5c85fdf473de6a

-- positive finite: the double nearest to floor(L * ln2 / 2^62) / 2^places
abbrev pub ln_positive : ℕ → Float → Float
ln_positive places x = nearest_ratio (floor_div (log_word places x *ℤ pos ln2) (2 ^ 62)) (2 ^ places)

unfoldable pub ln : ℕ → Float → Float
unfolding word_of_units round
ln places nan = nan
ln places (inf false) = inf false
ln places (inf true) = nan
ln places (fin s zero e) = inf true
ln places (fin false (suc m) e) = ln_positive places (fin false (suc m) e)
ln places (fin true (suc m) e) = nan
