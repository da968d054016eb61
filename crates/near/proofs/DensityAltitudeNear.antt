-- The density-matched altitude is near the exact one. Assumes nothing.
use Rattle.near.proofs.Kit.{◌≡◌, refl, sym, ap, ◌∙◌, subst, Bool, ◌||◌, cond, List, [], ◌∷◌, ◌+◌, ◌*◌, ◌^◌, T, leb, leb→le, lit≤, lit<, Float, span, climb, size, odd, units, round, of_fields, of_bits, neg, add, sub, mul, div, lt, eq, le, is_nan, fits, decimal, nought, ◌⊖◌, ◌⊗◌, ◌⊘◌, above, beneath, over, under, root, root_in, log_bits, word_of_units, antilog_root, antilog, Exponent, of_double, troposphere_exponent, power, air_density_at, compressibility_factor, mole_fraction, layers, Given, atmosphere, density_of, ◌⊞◌, opposite, ◌⊠◌, ◌÷◌, the, IsNear, N, Bounds, Tracks, Term, given, ◌minus◌, ◌times◌, ◌by◌, analysed, none, ◌also◌, tracks, ranged, near_of, wider, widen, no_further, all, test, Saturation, kelvin, InScope, exponent, taken_or, tracks-at_most, Power, Window, exponent_of, base_bounds, PowerEnds, power_bounds, power-exists, tracks-constant-power, places}
use Rattle.air.specs.Matched.{sea_level_density, height_of_density, density_matched_altitude}
use Rattle.atmosphere.specs.Altitudes.{tropopause, height_of_ratio}
use Rattle.exact.proofs.Terms.{num}
use Rattle.near.specs.Density as Density
use Rattle.near.proofs.Density.{densities, density-tracks}
use Rattle.near.specs.DensityAltitude as Spec

-- ---- the density at sea level is a constant, which is computed
abbrev sea_level_lem : Bounds
sea_level_lem = ranged (decimal "1.2255") (decimal "1.2256") (2 ^ 1024)

tracks-sea_level : Tracks sea_level_lem (sea_level_density 60) Spec.sea_level
unfolding sea_level_density atmosphere density_of mole_fraction air_density_at compressibility_factor Spec.sea_level Density.exact_density the ◌⊞◌ opposite ◌⊠◌ ◌÷◌ N above beneath add sub mul div neg round units span climb size odd of_fields of_bits lt eq is_nan fits
tracks-sea_level = record { some = lit< tt; is_finite = tt; double = tt; low = lit≤ tt; high = lit≤ tt; not_above = lit≤ tt; not_below = lit≤ tt }

-- ---- the formula, of the two densities and of the power
abbrev density_ratio : Term
density_ratio = given 0 by given 1

abbrev metres : Term
metres = num "288.15" by num "0.0065" times (num "1" minus given 0)

abbrev height_power : Power
height_power = record { M = (of_double (decimal "1" ⊘ troposphere_exponent)).magnitude; Q = Spec.height_exponent; i = 4; j = 17; whole = 1 }

exponent-is : of_double (decimal "1" ⊘ troposphere_exponent) ≡ exponent_of height_power
unfolding neg add sub mul div round units span climb size odd of_fields of_bits
exponent-is = refl

abbrev window : Window
window = record { c = 34; lo = decimal "0.326"; hi = decimal "1.47"; error = 28222; bottom = decimal "0.76"; top = decimal "1.095" }

ends : PowerEnds height_power window
unfolding power antilog antilog_root root root_in word_of_units log_bits round units size span climb odd of_fields of_bits le lt eq neg add sub mul div
ends = record { least = tt; most = tt }

-- ---- the bounds
abbrev ratios : Bounds
ratios = analysed (densities ∷ sea_level_lem ∷ []) density_ratio

abbrev powers : Bounds
powers = power_bounds height_power window

abbrev altitudes : Bounds
altitudes = analysed (powers ∷ []) metres

abbrev tests : List Bool
tests = ratios.good ∷ all (wider ratios (base_bounds window)) ∷ powers.good ∷ altitudes.good ∷ leb (altitudes.E * 2 ^ 30) N ∷ leb (altitudes.H + under tropopause) (over tropopause + altitudes.J) ∷ []

passed : T (all tests)
unfolding Spec.height_exponent exponent ◌⊞◌ opposite ◌⊠◌ ◌÷◌ N above beneath the span climb size odd units round of_fields of_bits neg add sub mul div fits le lt eq
passed = tt

-- ---- at °C, hPa and percent
module _ (t p h : Float) (range : InScope t p h) (s : Saturation (kelvin t)) where
  abbrev ρ : Float
  ρ = (atmosphere 60 nought (Given t) (Given p) h).density_kg_m3

  abbrev x : Float
  x = ρ ⊘ sea_level_density 60

  tracks-x : Tracks (base_bounds window) x (Spec.density_ratio (Spec.exact_air_density t p h s))
  unfolding Spec.density_ratio
  tracks-x = widen _ _ (test tests 1 passed) (tracks (density-tracks nought (Given t) (Given p) h range s also tracks-sea_level also none) density_ratio (test tests 0 passed))

  abbrev H : Float
  H = decimal "288.15" ⊘ decimal "0.0065" ⊗ (decimal "1" ⊖ power 60 (exponent_of height_power) x)

  module _ (r : Spec.RaisedDensity (Spec.exact_air_density t p h s)) where
    tracks-H : Tracks altitudes H (Spec.matched_altitude r)
    tracks-H = tracks (tracks-constant-power height_power window (test tests 2 passed) ends x (Spec.density_ratio (Spec.exact_air_density t p h s)) tracks-x r.power r.is_power also none) metres (test tests 3 passed)

    kept : T (le H tropopause)
    unfolding of_bits fits
    kept = tracks-at_most H _ tracks-H tropopause tt tt (leb→le (altitudes.H + under tropopause) (over tropopause + altitudes.J) (test tests 5 passed))

    is-H : density_matched_altitude 60 t p h ≡ H
    unfolding density_matched_altitude height_of_density layers
    is-H = ap (λ (q : Exponent). chosen (decimal "288.15" ⊘ decimal "0.0065" ⊗ (decimal "1" ⊖ power 60 q x))) exponent-is ∙ taken_or H (height_of_ratio 60 x) (is_nan H) (le H tropopause) kept
      where
        chosen : Float → Float
        chosen z = cond (is_nan z || le z tropopause) z (height_of_ratio 60 x)

    pub altitude-near : IsNear 30 (density_matched_altitude 60 t p h) (Spec.matched_altitude r)
    altitude-near = subst (λ (z : Float). IsNear 30 z (Spec.matched_altitude r)) (sym is-H) (near_of 30 _ _ (leb→le (altitudes.E * 2 ^ 30) N (test tests 4 passed)) tracks-H)

  pub power-there : Spec.RaisedDensity (Spec.exact_air_density t p h s)
  power-there = let r = power-exists height_power window (test tests 2 passed) x (Spec.density_ratio (Spec.exact_air_density t p h s)) tracks-x in record { power = r.0; is_power = r.1 }

pub record DensityAltitudeNear : Type 0 where
  -- 2 ^ -30 m is 9.3e-10 m
  pub metres : (t p h : Float) → InScope t p h → (s : Saturation (kelvin t)) (r : Spec.RaisedDensity (Spec.exact_air_density t p h s)) → IsNear 30 (density_matched_altitude places t p h) (Spec.matched_altitude r)
  -- there are such fractions
  pub powers : (t p h : Float) → InScope t p h → (s : Saturation (kelvin t)) → Spec.RaisedDensity (Spec.exact_air_density t p h s)

pub density_altitude-near : DensityAltitudeNear
density_altitude-near = record { metres = λ t p h range s r. no_further _ 30 _ _ (lit≤ tt) (altitude-near t p h range s r); powers = power-there }
