-- The speed of sound in moist air as an ideal gas, c = √(γ R T), where γ and R are those of dry air, each corrected to the first order in the mole
-- fraction x_v of water vapour. The formula, its two factors and its order of rounding are those of src/atmosphere.rs, which names no document for
-- them, and `places` is the number of places of exp and power. Definitions only.
use Rattle.std.specs.Prelude.{ℕ, Float}
use Rattle.arithmetic.specs.Decimals.{decimal, one}
use Rattle.arithmetic.specs.Operators.{◌⊕◌, ◌⊖◌, ◌⊗◌}
use Rattle.elementary.specs.Exponents.{Rd}
use Rattle.antilog.specs.Sqrt.{sqrt}
use Rattle.humid_air.specs.MoistAir.{capped}
use Rattle.humid_air.specs.Humidity.{mole_fraction_kelvin}

-- γ = 1.4 (1 - 0.062 x_v)
abbrev heat_capacity_ratio : Float → Float
heat_capacity_ratio xv = decimal "1.4" ⊗ (one ⊖ xv ⊗ decimal "0.062")

-- R = R_d (1 + 0.378 x_v), with the R_d of dry air
abbrev gas_constant : Float → Float
gas_constant xv = Rd ⊗ (one ⊕ decimal "0.378" ⊗ xv)

-- in m/s, from K
abbrev pub sound_speed_at : Float → Float → Float
sound_speed_at T xv = sqrt (heat_capacity_ratio xv ⊗ gas_constant xv ⊗ T)

-- in m/s, from K, Pa and percent
unfoldable pub sound_speed : ℕ → Float → Float → Float → Float
sound_speed places T p h = sound_speed_at T (capped (mole_fraction_kelvin places T p h))
