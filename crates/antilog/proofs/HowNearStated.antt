-- What document 02 says in "How near is near", for any number of places. proofs/HowNear shows it. Assumes nothing.
use Rattle.arithmetic.proofs.Kit.{ℕ, ◌+◌, ◌*◌, ◌^◌, ◌≤◌, ◌<◌, ℤ, pos, ◌+ℤ◌, T, Float, binary64, fits, positive}
use Rattle.antilog.specs.Log.{log_word}
use Rattle.antilog.specs.Antilog.{antilog_root}
use Rattle.arithmetic.specs.Fractions.{two_to_the, exact_value, ◌to_the◌, ◌is_at_most◌, ◌is_below◌}

-- "2 to the L is at most x to the 2^60, and that is less than 2 to the (L + 2)"
pub record LogNear (places : ℕ) (x : Float) (L : ℤ) : Type 0 where
  pub never_too_great : two_to_the L is_at_most exact_value x to_the (2 ^ places)
  pub less_than_two_too_small : exact_value x to_the (2 ^ places) is_below two_to_the (L +ℤ pos 2)

-- "Y to the 2^60 is at most 2 to the (62 × 2^60 + f), and that is less than (Y + 4) to the 2^60"
pub record AntilogNear (places f Y : ℕ) : Type 0 where
  pub never_too_great : Y ^ 2 ^ places ≤ 2 ^ (62 * 2 ^ places + f)
  pub less_than_four_too_small : 2 ^ (62 * 2 ^ places + f) < (Y + 4) ^ 2 ^ places

-- of a positive finite x and its word, and of an antilog's fraction f and its Y
pub record HowNear (places : ℕ) : Type 0 where
  pub logarithm : (x : Float) → T (fits binary64 x) → T (positive x) → LogNear places x (log_word places x)
  pub antilogarithm : (f : ℕ) → f < 2 ^ places → AntilogNear places f (antilog_root places f)
