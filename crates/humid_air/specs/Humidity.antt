-- Air of a temperature, a pressure and a humidity: the mole fraction of water vapour and the density of moist air, CIPM-2007 with the saturation pressure of
-- the IAPWS release. A pressure p is in Pa, a temperature T in K or t in °C, a humidity h in percent; `places` is the number of places of exp and power.
-- Definitions only.
use Rattle.std.specs.Prelude.{ℕ, cond, Float}
use Rattle.std.specs.Float.Ieee.{eq}
use Rattle.arithmetic.specs.Decimals.{nought, hundred}
use Rattle.arithmetic.specs.Operators.{◌⊕◌, ◌⊖◌, ◌⊗◌}
use Rattle.arithmetic.specs.Doubles.{clamp_double}
use Rattle.humid_air.specs.MoistAir.{ice_point, mole_fraction_of, capped, air_density_at}
use Rattle.humid_air.specs.Saturation.{saturation_pressure}

-- ---- the mole fraction of water vapour
-- T and t are the same temperature in K and °C
abbrev pub mole_fraction_at : ℕ → Float → Float → Float → Float → Float
mole_fraction_at places T t p h = mole_fraction_of (saturation_pressure places T) t p h

-- what is asked of the saturation pressure: nothing at 0 percent, where 0 stands for it
unfoldable pub needed_pressure : ℕ → Float → Float → Float
needed_pressure places T h = cond (eq (clamp_double h nought hundred) nought) nought (saturation_pressure places T)

-- from °C and hPa
abbrev pub mole_fraction_celsius : ℕ → Float → Float → Float → Float
mole_fraction_celsius places t hPa h = mole_fraction_at places (t ⊕ ice_point) t (hPa ⊗ hundred) h

-- from K and Pa
abbrev pub mole_fraction_kelvin : ℕ → Float → Float → Float → Float
mole_fraction_kelvin places T p h = mole_fraction_at places T (T ⊖ ice_point) p h

-- ---- the density
-- the mole fraction that it uses, from °C, hPa and percent
abbrev pub density_mole_fraction : ℕ → Float → Float → Float → Float
density_mole_fraction places t hPa h = capped (mole_fraction_celsius places t hPa h)

-- in kg m^-3, from °C, hPa and percent
abbrev pub air_density : ℕ → Float → Float → Float → Float
air_density places t hPa h = air_density_at t hPa (density_mole_fraction places t hPa h)
