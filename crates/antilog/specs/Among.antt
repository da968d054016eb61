-- One double for several words, and bits that are known but for two units: what a power is decided by without its log word. Definitions only.
use Rattle.std.specs.Prelude.{◌≡◌, ℕ, ◌+◌, ◌^◌, ◌≤◌, ◌<◌, ℤ, pos, ◌+ℤ◌, Float, Option, IfSome}
use Rattle.arithmetic.specs.Nearest.{nearest_scaled}
use Rattle.arithmetic.specs.Places.{places}
use Rattle.antilog.specs.Log.{log_bits}
use Rattle.antilog.specs.Antilog.{antilog_root, antilog}

-- where it is known, it is the antilog of every word from P to n more
abbrev pub AntilogAmong : ℤ → ℕ → Option Float → Type 0
AntilogAmong P n r = IfSome r (λ value. (i : ℕ) → i ≤ n → value ≡ antilog places (P +ℤ pos i))

-- the same of the roots for the fractions from f to n more, scaled by 2 to the power e
abbrev pub ScaledAmong : (f n : ℕ) → ℤ → Option Float → Type 0
ScaledAmong f n e r = IfSome r (λ value. (f + n < 2 ^ places) × ((i : ℕ) → i ≤ n → value ≡ nearest_scaled (antilog_root places (f + i)) e))

-- the log bits of m, from b to two more
abbrev pub WithinTwo : (m b : ℕ) → Type 0
WithinTwo m b = (b ≤ log_bits places m) × (log_bits places m ≤ b + 2) × (b + 2 < 2 ^ places)
