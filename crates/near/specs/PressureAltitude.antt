-- The pressure altitude by the National Weather Service's formula, "Pressure Altitude" (weather.gov/media/epz/wxcalc/pressureAltitude.pdf), in
-- exact numbers: h = 145366.45 ft (1 - (p / 1013.25) ^ 0.190284), of a station pressure p in hPa, and 0.3048 m to a foot. Definitions only.
use Rattle.arithmetic.specs.Fractions.{Fraction}
use Rattle.exact.specs.Exact.{Exact, ◌⊟◌, ◌⊠◌, ◌÷◌, the}
use Rattle.exact.specs.Powers.{of, positive_part, IsPower}

-- p / 1013.25
unfoldable pub pressure_ratio : Exact → Exact
pressure_ratio p = p ÷ the "1013.25"

-- a fraction that stands for (p / 1013.25) ^ 0.190284
pub record RaisedPressure (p : Exact) : Type 0 where
  pub power : Fraction
  pub is_power : IsPower (positive_part (pressure_ratio p)) (the "0.190284") power

-- in m
abbrev pub exact_nws_altitude : {p : Exact} → RaisedPressure p → Exact
exact_nws_altitude r = the "145366.45" ⊠ (the "1" ⊟ of r.power) ⊠ the "0.3048"
