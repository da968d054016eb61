-- What may be relied on of the load, document 02: the generator's first outputs are the published ones, one record after the other is drawn from where
-- the last one ended, and every count lies in its range. Definitions only.
use Rattle.std.specs.Prelude.{ℤ, ◌≤ℤ◌}

-- ---- thousandths of metres, degrees Celsius, hectopascals and percent, both ends included
pub record CountBetween (low high z : ℤ) : Type 0 where
  pub from : low ≤ℤ z
  pub to : z ≤ℤ high
