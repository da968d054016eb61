-- The density-matched altitude: the height in the standard atmosphere of the density of air at t °C, p hPa and h percent. Constants and rounding order are
-- those of src/atmosphere.rs; places is the number of places of exp, ln and power. Definitions only.
use Rattle.std.specs.Prelude.{ℕ, ◌||◌, cond, Float}
use Rattle.std.specs.Float.Ieee.{le, is_nan}
use Rattle.arithmetic.specs.Decimals.{nought}
use Rattle.arithmetic.specs.Operators.{◌⊘◌}
use Rattle.atmosphere.specs.declared.given.Reading.TheVariants.{Given}
use Rattle.atmosphere.specs.Station.{standard_pressure, standard_temperature}
use Rattle.atmosphere.specs.Altitudes.{tropopause, height_of_ratio, troposphere_height}
use Rattle.air.specs.Station.{atmosphere}

abbrev pub density : ℕ → Float → Float → Float → Float
density places t p h = (atmosphere places nought (Given t) (Given p) h).density_kg_m3

-- the density at sea level is that of dry air at 15 °C and 1013.25 hPa, by the same formula
unfoldable pub sea_level_density : ℕ → Float
sea_level_density places = density places standard_temperature standard_pressure nought

-- the height of the density ρ: the troposphere's up to 11,000 m, and where it is NaN; else that in the layers above
unfoldable pub height_of_density : ℕ → Float → Float
height_of_density places ρ =
    let x = ρ ⊘ sea_level_density places in
    let H = troposphere_height places x in
    cond (is_nan H || le H tropopause) H (height_of_ratio places x)

unfoldable pub density_matched_altitude : ℕ → Float → Float → Float → Float
density_matched_altitude places t p h = height_of_density places (density places t p h)
