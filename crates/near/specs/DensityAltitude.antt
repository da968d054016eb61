-- The density-matched altitude: the height in the troposphere of ICAO Doc 7488 at which the standard air has the density of the station's, in exact
-- numbers. There ρ = ρ_0 (1 + β H / T_0) ^ n with n = -g₀ / (β R) - 1, so H = T_0 / -β (1 - (ρ / ρ_0) ^ (1 / n)); ρ_0 is CIPM-2007's, of dry air at 15 °C
-- and 1013.25 hPa, as in src/atmosphere.rs. Definitions only.
use Rattle.std.specs.Prelude.{Float}
use Rattle.arithmetic.specs.Fractions.{Fraction}
use Rattle.exact.specs.Exact.{Exact, ◌⊟◌, ◌⊠◌, ◌÷◌, the}
use Rattle.exact.specs.Powers.{of, positive_part, IsPower}
use Rattle.near.specs.Density.{exact_density}
use Rattle.near.specs.Saturation.{Saturation}
use Rattle.near.specs.Near.{kelvin, pascal, vapour}
use Rattle.near.specs.Troposphere.{exponent}

-- ρ_0, in kg/m³
unfoldable pub sea_level : Exact
sea_level = exact_density (the "101325") (the "288.15") (the "0")

-- 1 / n
unfoldable pub height_exponent : Exact
height_exponent = the "1" ÷ (exponent ⊟ the "1")

-- ρ / ρ_0
unfoldable pub density_ratio : Exact → Exact
density_ratio ρ = ρ ÷ sea_level

-- a fraction that stands for (ρ / ρ_0) ^ (1 / n)
pub record RaisedDensity (ρ : Exact) : Type 0 where
  pub power : Fraction
  pub is_power : IsPower (positive_part (density_ratio ρ)) height_exponent power

-- in m
abbrev pub matched_altitude : {ρ : Exact} → RaisedDensity ρ → Exact
matched_altitude r = the "288.15" ÷ the "0.0065" ⊠ (the "1" ⊟ of r.power)

-- CIPM-2007's density at °C, hPa and percent
abbrev pub exact_air_density : (t p h : Float) → Saturation (kelvin t) → Exact
exact_air_density t p h s = exact_density (pascal p) (kelvin t) (vapour t p h s)
