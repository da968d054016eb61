-- The air at a station: density, sound speed and the density's mole fraction of vapour. Temperatures t in °C, pressures p in hPa, altitudes in m,
-- humidities h in percent; `places` is the number of places of exp and power. Definitions only.
use Rattle.std.specs.Prelude.{ℕ, Float}
use Rattle.arithmetic.specs.Decimals.{nought, hundred}
use Rattle.arithmetic.specs.Operators.{◌⊕◌, ◌⊖◌, ◌⊗◌, ◌⊘◌}
use Rattle.arithmetic.specs.Doubles.{clamp_double}
use Rattle.humid_air.specs.MoistAir.{ice_point}
use Rattle.humid_air.specs.Sound.{sound_speed}
use Rattle.atmosphere.specs.declared.given.Reading.{Reading}
use Rattle.atmosphere.specs.declared.given.Reading.TheVariants.{Given, FromLayer}
use Rattle.atmosphere.specs.Layers.{standard_air}
use Rattle.air.specs.declared.conditions.Air.{Air}
use Rattle.air.specs.declared.conditions.Conditions.{Conditions}
use Rattle.air.specs.Moist.{density_of}

-- of a temperature in K and a pressure in Pa
abbrev pub air_of : ℕ → Float → Float → Float → Air
air_of places T p h =
    let moist = density_of places T p h in
    record {
      density_kg_m3 = moist.density_kg_m3;
      speed_of_sound_mps = sound_speed places T p (clamp_double h nought hundred);
      vapor_mole_fraction = moist.vapor_mole_fraction;
    }

-- a temperature or a pressure that is given, or else the standard atmosphere's at the altitude
abbrev pub kelvins : ℕ → Float → Reading → Float
kelvins places altitude (Given t) = t ⊕ ice_point
kelvins places altitude FromLayer = (standard_air places altitude).temperature_k

abbrev pub pascals : ℕ → Float → Reading → Float
pascals places altitude (Given p) = p ⊗ hundred
pascals places altitude FromLayer = (standard_air places altitude).pressure_pa

-- the same as it is shown: what is given, or else the standard atmosphere's, K - 273.15 and Pa / 100
abbrev pub celsius : ℕ → Float → Reading → Float
celsius places altitude (Given t) = t
celsius places altitude FromLayer = (standard_air places altitude).temperature_k ⊖ ice_point

abbrev pub hectopascals : ℕ → Float → Reading → Float
hectopascals places altitude (Given p) = p
hectopascals places altitude FromLayer = (standard_air places altitude).pressure_pa ⊘ hundred

abbrev pub conditions_at : ℕ → Float → Reading → Reading → Conditions
conditions_at places altitude t p =
    record {
      temp_k = kelvins places altitude t;
      pressure_pa = pascals places altitude p;
      shown_c = celsius places altitude t;
      shown_hpa = hectopascals places altitude p;
    }

unfoldable pub atmosphere : ℕ → Float → Reading → Reading → Float → Air
atmosphere places altitude t p h = air_of places (kelvins places altitude t) (pascals places altitude p) h
