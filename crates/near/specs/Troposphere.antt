-- The lowest layer of the standard atmosphere by ICAO Doc 7488, Manual of the ICAO Standard Atmosphere, in exact numbers, with the constants of
-- src/atmosphere.rs: r = 6356766 m, T_b = 288.15 K, p_b = 101325 Pa and β = -0.0065 K/m at H_b = 0, g₀ = 9.80665 m/s², and R = 287.0531 J/(kg K) where the
-- document has 287.05287. A power is no fraction: a fraction stands for it, as near as one likes. Definitions only.
use Rattle.arithmetic.specs.Fractions.{Fraction}
use Rattle.exact.specs.Exact.{Exact, ◌⊞◌, ◌⊟◌, ◌⊠◌, ◌÷◌, the}
use Rattle.exact.specs.Powers.{of, positive_part, IsPower}

-- H = r h / (r + h), the geopotential height of the geometric altitude h, in m
unfoldable pub geopotential : Exact → Exact
geopotential h = the "6356766" ⊠ h ÷ (the "6356766" ⊞ h)

-- T = T_b + β (H - H_b), in K
unfoldable pub exact_temperature : Exact → Exact
exact_temperature h = the "288.15" ⊞ the "-0.0065" ⊠ (geopotential h ⊟ the "0")

-- -g₀ / (β R); a divisor has to be above zero, so both signs are turned
unfoldable pub exponent : Exact
exponent = the "9.80665" ÷ (the "0.0065" ⊠ the "287.0531")

-- 1 + β / T_b (H - H_b), the base of the pressure's power
unfoldable pub base : Exact → Exact
base h = the "1" ⊞ the "-0.0065" ÷ the "288.15" ⊠ (geopotential h ⊟ the "0")

-- a fraction that stands for the power
pub record PressureRatio (h : Exact) : Type 0 where
  pub ratio : Fraction
  pub is_ratio : IsPower (positive_part (base h)) exponent ratio

-- p = p_b (1 + β / T_b (H - H_b)) ^ (-g₀ / (β R)), in Pa
abbrev pub exact_pressure : {h : Exact} → PressureRatio h → Exact
exact_pressure p = the "101325" ⊠ of p.ratio
