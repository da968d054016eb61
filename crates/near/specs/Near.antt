-- The readings that the documents' formulas take: in their units, the vapour in them, and the ranges that are promised of. Definitions only.
use Rattle.std.specs.Prelude.{Float}
use Rattle.arithmetic.specs.Decimals.{decimal}
use Rattle.exact.specs.Exact.{Exact, ◌⊞◌, ◌⊠◌, ◌÷◌, the, number}
use Rattle.exact.specs.Near.{Between}
use Rattle.near.specs.Density.{exact_mole_fraction}
use Rattle.near.specs.Saturation.{Saturation, exact_saturation}

-- ---- readings in the documents' units: °C as K, hPa as Pa
abbrev pub kelvin : Float → Exact
kelvin t = number t ⊞ the "273.15"

abbrev pub pascal : Float → Exact
pascal p = number p ⊠ the "100"

-- x_v at °C, hPa and percent
abbrev pub vapour : (t p h : Float) → Saturation (kelvin t) → Exact
vapour t p h s = exact_mole_fraction (number h ÷ the "100") (pascal p) (number t) (exact_saturation s ⊠ the "100")

-- the ranges of temperature, pressure and humidity that document 01 names
pub record InScope (t p h : Float) : Type 0 where
  pub temperature : Between (decimal "-40") (decimal "50") t
  pub pressure : Between (decimal "500") (decimal "1100") p
  pub humidity : Between (decimal "0") (decimal "100") h
