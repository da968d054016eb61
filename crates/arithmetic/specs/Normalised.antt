-- What `normalise` makes of a number m: its digits moved up to the highest of 64, with the power of two that makes up for it. Definitions only.
use Rattle.std.specs.Prelude.{◌≡◌, ℕ, ◌*◌, ◌^◌, ◌<◌, ◌≤◌}
use Rattle.arithmetic.specs.declared.nearest.Normalised.{Normalised}

pub record IsNormalised (m : ℕ) (r : Normalised) : Type 0 where
  pub same : m * 2 ^ 1085 ≡ r.digits * 2 ^ r.places
  pub full : 2 ^ 63 ≤ r.digits
  pub short : r.digits < 2 ^ 64
  pub least : 1022 ≤ r.places
  pub most : r.places ≤ 1085
