-- The readings of a station: what stands for one that is absent or a default, and the reduction of an altimeter setting.
-- Temperatures t in °C, pressures p in hPa, altitudes in m; `places` is the number of places of exp and power. Definitions only.
use Rattle.std.specs.Prelude.{ℕ, Bool, ◌&&◌, cond, Float}
use Rattle.std.specs.Float.Ieee.{lt}
use Rattle.arithmetic.specs.Decimals.{decimal, one, hundred}
use Rattle.arithmetic.specs.Operators.{◌⊕◌, ◌⊖◌, ◌⊗◌, ◌⊘◌}
use Rattle.elementary.specs.Exponents.{of_double, pressure_exponent}
use Rattle.elementary.specs.Power.{power}
use Rattle.arithmetic.specs.Doubles.{abs_double}
use Rattle.atmosphere.specs.declared.given.Reading.{Reading}
use Rattle.atmosphere.specs.declared.given.Reading.TheVariants.{Given, FromLayer}
use Rattle.atmosphere.specs.Layers.{base_temperature, base_pressure, gradient, standard_height}

-- ---- the default bands: within 0.5 hPa of 1013.25 hPa, and within 0.1 °C of 15 °C
abbrev pub standard_pressure : Float
standard_pressure = decimal "1013.25"

abbrev pub in_pressure_band : Float → Bool
in_pressure_band p = lt (abs_double (p ⊖ standard_pressure)) (decimal "0.5")

abbrev pub standard_temperature : Float
standard_temperature = decimal "15"

abbrev pub in_temperature_band : Float → Bool
in_temperature_band t = lt (abs_double (t ⊖ standard_temperature)) (decimal "0.1")

-- a reading in its band, more than 1 m from sea level, is a default and comes from the layer
abbrev pub unless_default : Bool → Float → Float → Reading
unless_default in_band x altitude = cond (in_band && lt one (abs_double altitude)) FromLayer (Given x)

abbrev pub resolved_station_pressure : Float → Float → Reading
resolved_station_pressure p altitude = unless_default (in_pressure_band p) p altitude

abbrev pub resolved_station_temperature : Float → Float → Reading
resolved_station_temperature t altitude = unless_default (in_temperature_band t) t altitude

-- ---- QNH, the altimeter setting, reduced to the station: QNH (1 + (β H / T₀) (p₀ / QNH)^(1/q))^q, with the β, T₀ and p₀ of the lowest layer and the
-- exponent q of its pressure, -g₀ / (β R); p₀ in hPa
abbrev pub reduced_qnh : ℕ → Float → Float → Float
reduced_qnh places qnh altitude =
    let q = pressure_exponent (gradient 0) in
    qnh
    ⊗ power places (of_double q) (one ⊕ gradient 0 ⊗ standard_height altitude ⊘ base_temperature 0 ⊗ power places (of_double (one ⊘ q)) (base_pressure 0 ⊘ hundred ⊘ qnh))
