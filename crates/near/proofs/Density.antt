-- The density of moist air, and the mole fraction of vapour that it uses, are near the exact ones. Assumes nothing.
use Rattle.near.proofs.Kit.{◌≡◌, Bool, List, [], ◌∷◌, ℕ, ◌*◌, ◌^◌, T, leb, leb→le, lit≤, Float, span, climb, size, odd, of_fields, of_bits, fits, decimal, nought, hundred, ◌⊕◌, ◌⊖◌, ◌⊗◌, ◌⊘◌, above, beneath, root, root_in, clamp_double, ice_point, air_density_at, compressibility_factor, density_mole_fraction, places, Reading, kelvins, pascals, celsius, hectopascals, atmosphere, density_of, Exact, the, number, IsNear, Between, N, Bounds, Tracks, Term, given, ◌plus◌, ◌minus◌, ◌times◌, ◌by◌, ◌at_least◌, analysed, none, ◌also◌, tracks, ranged, near_of, ends, tracks-between, wider, widen, all, item, test, positive-tested, exact_density, Saturation}
use Rattle.exact.proofs.Terms.{num}
use Rattle.near.specs.Near as Spec
use Rattle.near.proofs.Temperatures.{Part, Below, Every, by-celsius}
use Rattle.near.proofs.Vapour.{factor, by', dry, vapour-bounds, vapour-tests, tracks-vapour}
use Rattle.near.proofs.Paths.{kelvin, pascal, kelvin_and_back, hpa_bounds, celsius-again, hectopascals-again}

-- ---- the formula: of t in °C, p in hPa and the mole fraction
module _ (x : Term) where
  abbrev pub T-K : Term
  T-K = given 0 plus num "273.15"

  abbrev pub p-Pa : Term
  p-Pa = (given 1 times num "100") at_least "2.2250738585072014e-308"

  abbrev warm : Term
  warm = T-K at_least "173.15"

  abbrev degrees : Term
  degrees = warm minus num "273.15"

  abbrev p_t : Term
  p_t = p-Pa by warm

  abbrev pub Z : Term
  Z =
      num "1"
      minus p_t times (num "1.58123e-6" plus num "-2.9331e-8" times degrees plus num "1.1043e-10" times degrees times degrees plus (num "5.707e-6" plus num "-2.051e-8" times degrees) times x plus (num "1.9898e-4" plus num "-2.376e-6" times degrees) times x times x)
      plus p_t times p_t times (num "1.83e-11" plus num "-0.765e-8" times x times x)

  abbrev formula : Term
  formula = p-Pa times num "28.96546e-3" by (Z times num "8.314472" times T-K) times (num "1" minus x times (num "1" minus num "18.01528e-3" by num "28.96546e-3"))

-- from 0.4 to 1.8 kg/m³, and 2 ^ -45 kg/m³ from the exact one
abbrev pub densities : Bounds
densities = ranged (decimal "0.4") (decimal "1.8") (2 ^ 1029)

-- ---- of a part of the temperatures
module _ (q : Part) where
  abbrev given-bounds : Bounds
  given-bounds = ranged q.from q.to 0

  abbrev t-bounds : Bounds
  t-bounds = analysed (given-bounds ∷ []) kelvin_and_back

  abbrev T-bounds : Bounds
  T-bounds = analysed (t-bounds ∷ []) kelvin

  abbrev p-bounds : Bounds
  p-bounds = analysed (hpa_bounds ∷ []) pascal

  abbrev x-bounds : Bounds
  x-bounds = vapour-bounds T-bounds t-bounds p-bounds q

  abbrev bounds : Bounds
  bounds = analysed (t-bounds ∷ hpa_bounds ∷ x-bounds ∷ []) (formula (given 2))

  abbrev tests : List Bool
  tests =
      all (vapour-tests T-bounds t-bounds p-bounds q) ∷ all (ends q.from q.to) ∷ t-bounds.good ∷ T-bounds.good ∷ p-bounds.good ∷ bounds.good ∷ leb (x-bounds.E * 2 ^ 44) N ∷ all (wider bounds densities) ∷ all (wider given-bounds t-bounds) ∷ []

  module _ (tested : T (all tests)) (below : Below q) (t'' p'' t p h : Float) (tracks-t : Tracks t-bounds t'' (number t)) (tracks-p : Tracks hpa_bounds p'' (number p)) (h-range : Between (decimal "0") (decimal "100") h) (s : Saturation (Spec.kelvin t)) where
    passed : (n : ℕ) → T (item tests n)
    passed n = test tests n tested

    tracks-T : Tracks T-bounds (t'' ⊕ ice_point) (Spec.kelvin t)
    tracks-T = tracks (tracks-t also none) kelvin (passed 3)

    tracks-P : Tracks p-bounds (p'' ⊗ hundred) (Spec.pascal p)
    tracks-P = tracks (tracks-p also none) pascal (passed 4)

    abbrev x'' : Float
    x'' = density_mole_fraction 60 t'' p'' (clamp_double h nought hundred)

    abbrev X : Exact
    X = Spec.vapour t p h s

    tracks-x : Tracks x-bounds x'' X
    tracks-x = tracks-vapour T-bounds t-bounds p-bounds q (passed 0) below (t'' ⊕ ice_point) t'' (p'' ⊗ hundred) h (Spec.kelvin t) (number t) (Spec.pascal p) tracks-T tracks-t tracks-P h-range s

    fraction_of_lem : IsNear 44 x'' X
    fraction_of_lem = near_of 44 x'' X (leb→le (x-bounds.E * 2 ^ 44) N (passed 6)) tracks-x

    density_of_lem : Tracks densities (air_density_at t'' p'' x'') (exact_density (Spec.pascal p) (Spec.kelvin t) X)
    unfolding exact_density air_density_at compressibility_factor
    density_of_lem = widen _ _ (passed 7) (tracks (tracks-t also tracks-p also tracks-x also none) (formula (given 2)) (passed 5))

tested : Every (λ q. T (all (tests q)))
unfolding N above beneath the root root_in span climb size odd of_fields of_bits fits
tested = (tt, tt, tt, tt, tt, tt)

module _ (q : Part) (tested : T (all (tests q))) (altitude : Float) (r : Reading) where
  pub tracks-shown : let t = celsius places altitude r in Between q.from q.to t → Tracks (t-bounds q) (kelvins places altitude r ⊖ ice_point) (number t)
  tracks-shown range = celsius-again altitude (given-bounds q) r (test (tests q) 2 tested) (test (tests q) 8 tested) (tracks-between q.from q.to _ (test (tests q) 1 tested) range)

pub fraction-near : (altitude : Float) (t₀ p₀ : Reading) (h : Float) → let t = celsius places altitude t₀ in let p = hectopascals places altitude p₀ in Spec.InScope t p h → (s : Saturation (Spec.kelvin t))
    → IsNear 44 (atmosphere places altitude t₀ p₀ h).vapor_mole_fraction (Spec.vapour t p h s)
unfolding atmosphere density_of
fraction-near altitude T P h r s =
    by-celsius tests tested (celsius places altitude T) (λ q passed below range. fraction_of_lem q passed below (kelvins places altitude T ⊖ ice_point) (pascals places altitude P ⊘ hundred) (celsius places altitude T) (hectopascals places altitude P) h (tracks-shown q passed altitude T range) (hectopascals-again altitude P r.pressure) r.humidity s) r.temperature

module _ (altitude : Float) (T P : Reading) (h : Float) (r : Spec.InScope (celsius places altitude T) (hectopascals places altitude P) h) (s : Saturation (Spec.kelvin (celsius places altitude T))) where
  pub density-tracks : let t = celsius places altitude T in let p = hectopascals places altitude P in Tracks densities (atmosphere places altitude T P h).density_kg_m3 (exact_density (Spec.pascal p) (Spec.kelvin t) (Spec.vapour t p h s))
  unfolding atmosphere density_of
  density-tracks =
      by-celsius tests tested (celsius places altitude T) (λ q passed below range. density_of_lem q passed below (kelvins places altitude T ⊖ ice_point) (pascals places altitude P ⊘ hundred) (celsius places altitude T) (hectopascals places altitude P) h (tracks-shown q passed altitude T range) (hectopascals-again altitude P r.pressure) r.humidity s) r.temperature

pub density-near : (altitude : Float) (t₀ p₀ : Reading) (h : Float) → let t = celsius places altitude t₀ in let p = hectopascals places altitude p₀ in Spec.InScope t p h → (s : Saturation (Spec.kelvin t))
    → IsNear 45 (atmosphere places altitude t₀ p₀ h).density_kg_m3 (exact_density (Spec.pascal p) (Spec.kelvin t) (Spec.vapour t p h s))
unfolding N
density-near altitude T P h r s = near_of 45 _ _ (lit≤ tt) (density-tracks altitude T P h r s)

-- ---- of dry air, which has no vapour: all temperatures at once
abbrev pub dry-t : Bounds
dry-t = analysed (ranged (decimal "-40") (decimal "50") 0 ∷ []) kelvin_and_back

abbrev dry-P : Bounds
dry-P = analysed (hpa_bounds ∷ []) pascal

module _ (altitude : Float) (T P : Reading) (range : Spec.InScope (celsius places altitude T) (hectopascals places altitude P) nought) where
  abbrev t'' : Float
  t'' = kelvins places altitude T ⊖ ice_point

  abbrev p'' : Float
  p'' = pascals places altitude P ⊘ hundred

  pub dry-tracks-t : Tracks dry-t t'' (number (celsius places altitude T))
  unfolding N above beneath the span climb size odd of_fields of_bits fits
  dry-tracks-t = celsius-again altitude (ranged (decimal "-40") (decimal "50") 0) T tt tt (tracks-between (decimal "-40") (decimal "50") _ tt range.temperature)

  pub dry-tracks-p : Tracks hpa_bounds p'' (number (hectopascals places altitude P))
  dry-tracks-p = hectopascals-again altitude P range.pressure

  dry-tracks-P : Tracks dry-P (p'' ⊗ hundred) (Spec.pascal (hectopascals places altitude P))
  unfolding N above beneath the span climb size odd of_fields of_bits
  dry-tracks-P = tracks (dry-tracks-p also none) pascal tt

  pub no_vapour : density_mole_fraction 60 t'' p'' (clamp_double nought nought hundred) ≡ nought
  unfolding N above beneath the span climb size odd of_fields of_bits
  no_vapour = dry _ _ _ (positive-tested _ _ (tracks (dry-tracks-t also dry-tracks-P also none) factor tt) tt) (positive-tested _ _ (tracks (dry-tracks-t also dry-tracks-P also none) by' tt) tt)

  dry-near : IsNear 47 (air_density_at t'' p'' nought) (exact_density (Spec.pascal (hectopascals places altitude P)) (Spec.kelvin (celsius places altitude T)) (the "0"))
  unfolding exact_density air_density_at compressibility_factor N above beneath the span climb size odd of_fields of_bits
  dry-near = near_of 47 _ _ (lit≤ tt) (tracks (dry-tracks-t also dry-tracks-p also none) (formula (num "0")) tt)

pub dry-density-near : (altitude : Float) (t₀ p₀ : Reading) → let t = celsius places altitude t₀ in let p = hectopascals places altitude p₀ in Spec.InScope t p nought
    → IsNear 47 (atmosphere places altitude t₀ p₀ nought).density_kg_m3 (exact_density (Spec.pascal p) (Spec.kelvin t) (the "0"))
unfolding atmosphere density_of
dry-density-near altitude T P r = rw (no_vapour altitude T P r) (dry-near altitude T P r)
