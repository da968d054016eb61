-- A station pressure beside the standard atmosphere's at its altitude. Pressures p in Pa; `places` is the number of places of exp and power.
-- Definitions only.
use Rattle.std.specs.Prelude.{ℕ, Bool, not, ◌&&◌, Float}
use Rattle.std.specs.Float.Ieee.{le}
use Rattle.arithmetic.specs.Decimals.{decimal}
use Rattle.arithmetic.specs.Operators.{◌⊘◌}
use Rattle.atmosphere.specs.declared.plausibility.StationPressurePlausibility.{StationPressurePlausibility}
use Rattle.atmosphere.specs.Layers.{standard_air}

-- outside 0.85 to 1.08, both ends inside; or NaN
abbrev pub implausible_ratio : Float → Bool
implausible_ratio x = not (le (decimal "0.85") x && le x (decimal "1.08"))

-- the pressure p beside the standard one p₀
abbrev pub plausibility_beside : Float → Float → StationPressurePlausibility
plausibility_beside p p₀ = record { icao_standard_pa = p₀; «ratio» = p ⊘ p₀; «implausible» = implausible_ratio (p ⊘ p₀) }

unfoldable pub plausibility : ℕ → Float → Float → StationPressurePlausibility
plausibility places p altitude = plausibility_beside p (standard_air places altitude).pressure_pa
