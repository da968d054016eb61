-- The density of moist air: A. Picard, R. S. Davis, M. Gläser and K. Fujii, "Revised formula for the density of moist air (CIPM-2007)", Metrologia 45
-- (2008) 149-155, for a saturation pressure p_sv and a mole fraction x_v of water vapour that are given. A pressure p is in Pa, a temperature T in K or t in
-- °C, a humidity h in percent. Equation (1) is cited by its number; of the formulas and constants of the appendix neither numbers nor tables were at hand.
-- The order of rounding is that of src/atmosphere.rs. Definitions only.
use Rattle.std.specs.Prelude.{cond, Float}
use Rattle.std.specs.Float.Ieee.{lt, eq}
use Rattle.arithmetic.specs.Decimals.{decimal, nought, one, hundred}
use Rattle.arithmetic.specs.Operators.{◌⊕◌, ◌⊖◌, ◌⊗◌, ◌⊘◌}
use Rattle.arithmetic.specs.Doubles.{max_double, clamp_double}

-- ---- units: 0 °C in K
abbrev pub ice_point : Float
ice_point = decimal "273.15"

-- a temperature below this one, in K, or NaN, counts as this one; it is the source's, not that of CIPM-2007 or of the IAPWS release
abbrev pub coldest : Float
coldest = decimal "173.15"

-- ---- the enhancement factor: f = α + β p + γ t^2, with β in Pa^-1 and γ in K^-2
abbrev pub enhancement_factor : Float → Float → Float
enhancement_factor p t = decimal "1.00062" ⊕ decimal "3.14e-8" ⊗ p ⊕ decimal "5.6e-7" ⊗ t ⊗ t

-- ---- the mole fraction of water vapour: x_v = h f p_sv / p
-- The humidity is kept within 0 and 100 percent; at 0 the saturation pressure, here in hPa, is left out.
unfoldable pub mole_fraction : Float → Float → Float → Float → Float
mole_fraction psv f h p =
    let H = clamp_double h nought hundred in
    cond (eq H nought) (H ⊗ f ⊘ p) (H ⊘ hundred ⊗ f ⊗ psv ⊗ hundred ⊘ p)

-- at most 1, which is steam; NaN stays NaN
abbrev pub capped : Float → Float
capped x = cond (lt one x) one x

-- a pressure to divide by: one below the smallest normal double, 2^-1022, or NaN, counts as that double
abbrev pub divisor : Float → Float
divisor p = max_double p (decimal "2.2250738585072014e-308")

-- from the saturation pressure, °C, Pa and percent
abbrev pub mole_fraction_of : Float → Float → Float → Float → Float
mole_fraction_of psv t p h = mole_fraction psv (enhancement_factor p t) h (divisor p)

-- ---- the compressibility factor:
-- Z = 1 - p/T (a0 + a1 t + a2 t^2 + (b0 + b1 t) x_v + (c0 + c1 t) x_v^2) + p^2/T^2 (d + e x_v^2)
-- with a0, b0 and c0 in K Pa^-1, a1, b1 and c1 in Pa^-1, a2 in K^-1 Pa^-1, d and e in K^2 Pa^-2; p/T and t at a T that is at least 173.15 K
unfoldable pub compressibility_factor : Float → Float → Float → Float
compressibility_factor p T xv =
    let warm = max_double T coldest in
    let t = warm ⊖ ice_point in
    let p_t = p ⊘ warm in
    let a = decimal "1.58123e-6" ⊕ decimal "-2.9331e-8" ⊗ t ⊕ decimal "1.1043e-10" ⊗ t ⊗ t in
    let b = decimal "5.707e-6" ⊕ decimal "-2.051e-8" ⊗ t in
    let c = decimal "1.9898e-4" ⊕ decimal "-2.376e-6" ⊗ t in
    one ⊖ p_t ⊗ (a ⊕ b ⊗ xv ⊕ c ⊗ xv ⊗ xv) ⊕ p_t ⊗ p_t ⊗ (decimal "1.83e-11" ⊕ decimal "-0.765e-8" ⊗ xv ⊗ xv)

-- ---- the density, equation (1): ρ = p M_a / (Z R T) (1 - x_v (1 - M_v / M_a))
-- M_a in kg mol^-1, for air with 400 µmol of carbon dioxide to the mole; M_v too, and R in J mol^-1 K^-1
abbrev Ma : Float
Ma = decimal "28.96546e-3"

-- 1 - x_v (1 - M_v / M_a), the molar mass of moist air over that of dry air
abbrev pub molar_mass_ratio : Float → Float
molar_mass_ratio xv = one ⊖ xv ⊗ (one ⊖ decimal "18.01528e-3" ⊘ Ma)

-- in kg m^-3, from °C, hPa and x_v
unfoldable pub air_density_at : Float → Float → Float → Float
air_density_at t hPa xv =
    let T = t ⊕ ice_point in
    let p = divisor (hPa ⊗ hundred) in
    p ⊗ Ma ⊘ (compressibility_factor p T xv ⊗ decimal "8.314472" ⊗ T) ⊗ molar_mass_ratio xv
