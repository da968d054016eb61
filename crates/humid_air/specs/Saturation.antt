-- The saturation pressure of water vapour over liquid water: IAPWS SR1-86(1992), "Revised Supplementary Release on Saturation Properties of Ordinary
-- Water Substance", equation (1), by W. Wagner and A. Pruss, with the coefficients that stand below it:
--     ln(p / p_c) = (T_c / T) (a1 τ + a2 τ^1.5 + a3 τ^3 + a4 τ^3.5 + a5 τ^4 + a6 τ^7.5),  τ = 1 - T / T_c.
-- The order of rounding is that of src/atmosphere.rs, and `places` is the number of places of exp and power. Definitions only.
use Rattle.std.specs.Prelude.{ℕ, Float}
use Prim.Native.String.{String}
use Rattle.arithmetic.specs.Decimals.{decimal, one}
use Rattle.arithmetic.specs.Operators.{◌⊕◌, ◌⊖◌, ◌⊗◌, ◌⊘◌}
use Rattle.elementary.specs.Exponents.{of_double}
use Rattle.elementary.specs.Power.{power}
use Rattle.elementary.specs.Exp.{exp}
use Rattle.arithmetic.specs.Doubles.{max_double}
use Rattle.humid_air.specs.MoistAir.{coldest}

-- T_c in K
abbrev Tc : Float
Tc = decimal "647.096"

-- a constant times τ to the power q
abbrev term : ℕ → Float → String → String → Float
term places τ a q = decimal a ⊗ power places (of_double (decimal q)) τ

-- ln(p / p_c) at T
abbrev log_ratio : ℕ → Float → Float
log_ratio places T =
    let τ = one ⊖ T ⊘ Tc in
    Tc ⊘ T
    ⊗ (decimal "-7.85951783" ⊗ τ ⊕ term places τ "1.84408259" "1.5" ⊕ term places τ "-11.7866497" "3" ⊕ term places τ "22.6807411" "3.5" ⊕ term places τ "-15.9618719" "4" ⊕ term places τ "1.80122502" "7.5")

-- in hPa, with p_c = 22.064 MPa
unfoldable pub saturation_pressure : ℕ → Float → Float
saturation_pressure places T = decimal "220640" ⊗ exp places (log_ratio places (max_double T coldest))
