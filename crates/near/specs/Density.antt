-- The density of moist air in exact numbers, no rounding anywhere: A. Picard, R. S. Davis, M. Gläser and K. Fujii, "Revised formula for the density of moist
-- air (CIPM-2007)", Metrologia 45 (2008) 149-155, equation (1), with f, x_v and Z of its appendix and the document's decimals. A pressure p is in Pa, a
-- temperature T in K, t in °C, and a humidity h is a part of 1. Definitions only.
use Rattle.exact.specs.Exact.{Exact, ◌⊞◌, ◌⊟◌, ◌⊠◌, ◌÷◌, the}

-- the enhancement factor: f = α + β p + γ t^2
abbrev pub exact_enhancement : Exact → Exact → Exact
exact_enhancement p t = the "1.00062" ⊞ the "3.14e-8" ⊠ p ⊞ the "5.6e-7" ⊠ t ⊠ t

-- the mole fraction of water vapour: x_v = h f p_sv / p
unfoldable pub exact_mole_fraction : Exact → Exact → Exact → Exact → Exact
exact_mole_fraction h p t psv = h ⊠ exact_enhancement p t ⊠ psv ÷ p

-- the compressibility factor: Z = 1 - p/T (a0 + a1 t + a2 t^2 + (b0 + b1 t) x_v + (c0 + c1 t) x_v^2) + p^2/T^2 (d + e x_v^2)
abbrev pub exact_compressibility : Exact → Exact → Exact → Exact
exact_compressibility p T x =
    let t = T ⊟ the "273.15" in
    let p_t = p ÷ T in
    the "1"
    ⊟ p_t ⊠ (the "1.58123e-6" ⊞ the "-2.9331e-8" ⊠ t ⊞ the "1.1043e-10" ⊠ t ⊠ t ⊞ (the "5.707e-6" ⊞ the "-2.051e-8" ⊠ t) ⊠ x ⊞ (the "1.9898e-4" ⊞ the "-2.376e-6" ⊠ t) ⊠ x ⊠ x)
    ⊞ p_t ⊠ p_t ⊠ (the "1.83e-11" ⊞ the "-0.765e-8" ⊠ x ⊠ x)

-- equation (1): ρ = p M_a / (Z R T) (1 - x_v (1 - M_v / M_a)), in kg m^-3
unfoldable pub exact_density : Exact → Exact → Exact → Exact
exact_density p T x = p ⊠ the "28.96546e-3" ÷ (exact_compressibility p T x ⊠ the "8.314472" ⊠ T) ⊠ (the "1" ⊟ x ⊠ (the "1" ⊟ the "18.01528e-3" ÷ the "28.96546e-3"))
