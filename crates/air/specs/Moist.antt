-- Moist air with one saturation pressure at hand. Temperatures T in K, pressures p in Pa, humidities h in percent. Definitions only.
use Rattle.std.specs.Prelude.{ℕ, ◌≡◌, Bool, ◌&&◌, eqb, Float}
use Rattle.std.specs.Float.{binary64}
use Rattle.std.specs.Float.Ieee.{eq, to_bits}
use Rattle.arithmetic.specs.Places.{places}
use Rattle.arithmetic.specs.Decimals.{nought, hundred}
use Rattle.arithmetic.specs.Operators.{◌⊖◌, ◌⊘◌}
use Rattle.arithmetic.specs.Doubles.{clamp_double}
use Rattle.humid_air.specs.MoistAir.{ice_point}
use Rattle.humid_air.specs.Humidity.{needed_pressure, density_mole_fraction, air_density}
use Rattle.air.specs.declared.moist.Saturation.{Saturation}
use Rattle.air.specs.declared.moist.MoistDensity.{MoistDensity}

-- x and y are one double: equal as numbers, which no NaN is, and of one pattern, which the two zeros are not
unfoldable pub is_one : Float → Float → Bool
is_one x y = eq x y && eqb (to_bits binary64 x) (to_bits binary64 y)

-- the pressure at hand
abbrev pub saturation_at : ℕ → Float → Float → Saturation
saturation_at places T h = record { temp_k = T; pressure_hpa = needed_pressure places T h }

-- it serves air of the humidity h
abbrev pub Serves : Saturation → Float → Type 0
Serves s h = s.pressure_hpa ≡ needed_pressure places s.temp_k h

-- the density by °C and hPa, and the mole fraction that it uses
unfoldable pub density_of : ℕ → Float → Float → Float → MoistDensity
density_of places T p h =
    let h' = clamp_double h nought hundred in
    let t = T ⊖ ice_point in
    let hPa = p ⊘ hundred in
    record { density_kg_m3 = air_density places t hPa h'; vapor_mole_fraction = density_mole_fraction places t hPa h' }
