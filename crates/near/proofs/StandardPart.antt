-- The standard temperature and pressure are near the exact ones, for an altitude between two ends that pass the tests. Assumes nothing.
use Rattle.near.proofs.Kit.{◌≡◌, sym, subst, Bool, List, [], ◌∷◌, ◌+◌, ◌*◌, ◌^◌, T, leb, ltb, leb→le, ltb→lt, lit<, Float, of_bits, fits, lt, le, decimal, hundred, ◌⊖◌, ◌⊗◌, ◌⊘◌, over, under, power, ice_point, geopotential_height, standard_height, lowest_height, highest_height, standard_air, opposite, ◌⊟◌, ◌÷◌, the, number, IsNear, Between, of, N, Bounds, Tracks, Term, given, ◌minus◌, ◌times◌, ◌by◌, as_exact, analysed, none, ◌also◌, tracks, ranged, near_of, ends, tracks-between, wider, widen, all, test, proper-sum, inside, tracks-below, tracks-inside, Window, exponent_of, base_bounds, PowerEnds, power_bounds, power-exists, tracks-constant-power}
use Rattle.arithmetic.proofs.Order.{le-trans-double}
use Rattle.exact.proofs.Terms.{num}
use Rattle.near.specs.Troposphere as Spec
use Rattle.near.proofs.StandardTerms.{pressure_power, height, temperature, ratio, lowest, same_base, height-is, temperature-is, pressure-is}

-- ---- what is shown
abbrev celsius : Term
celsius = temperature minus num "273.15"

-- in Pa, of the power
abbrev pascals : Term
pascals = num "101325" times given 0

abbrev hectopascals : Term
hectopascals = pascals by num "100"

-- the height, and the four figures
pub record Near (h : Float) : Type 0 where
  pub height-kept : standard_height h ≡ geopotential_height h
  pub temperature-near : IsNear 42 (standard_air 60 h).temperature_k (Spec.exact_temperature (number h))
  pub celsius-near : IsNear 42 ((standard_air 60 h).temperature_k ⊖ ice_point) (Spec.exact_temperature (number h) ⊟ the "273.15")
  pub pressure-near : (p : Spec.PressureRatio (number h)) → IsNear 31 (standard_air 60 h).pressure_pa (Spec.exact_pressure p)
  pub hectopascals-near : (p : Spec.PressureRatio (number h)) → IsNear 37 ((standard_air 60 h).pressure_pa ⊘ hundred) (Spec.exact_pressure p ÷ the "100")
  pub ratio-exists : Spec.PressureRatio (number h)

pub record Ordinary (h : Float) : Type 0 where
  pub ordinary-celsius : Between (decimal "-40") (decimal "50") ((standard_air 60 h).temperature_k ⊖ ice_point)
  pub ordinary-hectopascals : Between (decimal "500") (decimal "1100") ((standard_air 60 h).pressure_pa ⊘ hundred)

module _ (lo hi : Float) (w : Window) where
  abbrev altitudes : Bounds
  altitudes = ranged lo hi 0

  abbrev of-altitude : Term → Bounds
  of-altitude t = analysed (altitudes ∷ []) t

  abbrev power_bounds_lem : Bounds
  power_bounds_lem = power_bounds pressure_power w

  abbrev of-power : Term → Bounds
  of-power t = analysed (power_bounds_lem ∷ []) t

  abbrev pub tests : List Bool
  tests =
      all (ends lo hi) ∷ le lowest_height lo ∷ le hi highest_height
      ∷ (of-altitude height).good ∷ inside lowest_height highest_height (of-altitude height) ∷ ltb ((of-altitude height).H + under (decimal "11000")) (over (decimal "11000") + (of-altitude height).J)
      ∷ (of-altitude temperature).good ∷ leb ((of-altitude temperature).E * 2 ^ 42) N ∷ (of-altitude celsius).good ∷ leb ((of-altitude celsius).E * 2 ^ 42) N
      ∷ (of-altitude ratio).good ∷ all (wider (of-altitude ratio) (base_bounds w)) ∷ power_bounds_lem.good ∷ (of-power pascals).good ∷ leb ((of-power pascals).E * 2 ^ 31) N ∷ (of-power hectopascals).good ∷ leb ((of-power hectopascals).E * 2 ^ 37) N ∷ []

  -- what is shown lies from -40 to 50 °C and from 500 to 1,100 hPa
  abbrev pub ordinary-tests : List Bool
  ordinary-tests = inside (decimal "-40") (decimal "50") (of-altitude celsius) ∷ inside (decimal "500") (decimal "1100") (of-power hectopascals) ∷ []

  module _ (passed : T (all tests)) (at-ends : PowerEnds pressure_power w) (h : Float) (r : Between lo hi h) where
    tracks-h : Tracks altitudes h (number h)
    tracks-h = tracks-between lo hi h (test tests 0 passed) r

    tracks-H : Tracks (of-altitude height) (geopotential_height h) (as_exact (number h ∷ []) height)
    tracks-H = tracks (tracks-h also none) height (test tests 3 passed)

    h-kept : Between lowest_height highest_height h
    unfolding of_bits fits
    h-kept = record { double = r.double; low = le-trans-double lowest_height lo h tt (test (ends lo hi) 2 (test tests 0 passed)) r.double (test tests 1 passed) r.low; high = le-trans-double h hi highest_height r.double (test (ends lo hi) 3 (test tests 0 passed)) tt r.high (test tests 2 passed) }

    H-kept : Between lowest_height highest_height (geopotential_height h)
    unfolding of_bits fits
    H-kept = tracks-inside _ _ tracks-H lowest_height highest_height tt tt tt tt (test tests 4 passed)

    below : T (lt (geopotential_height h) (decimal "11000"))
    unfolding of_bits fits
    below = tracks-below (geopotential_height h) _ tracks-H (decimal "11000") tt tt (ltb→lt ((of-altitude height).H + under (decimal "11000")) (over (decimal "11000") + (of-altitude height).J) (test tests 5 passed))

    tracks-T : Tracks (of-altitude temperature) (lowest h) (Spec.exact_temperature (number h))
    unfolding Spec.exact_temperature Spec.geopotential
    tracks-T = tracks (tracks-h also none) temperature (test tests 6 passed)

    tracks-t : Tracks (of-altitude celsius) (lowest h ⊖ ice_point) (Spec.exact_temperature (number h) ⊟ the "273.15")
    unfolding Spec.exact_temperature Spec.geopotential
    tracks-t = tracks (tracks-h also none) celsius (test tests 8 passed)

    tracks-ratio : Tracks (base_bounds w) (lowest h ⊘ decimal "288.15") (Spec.base (number h))
    unfolding Spec.base Spec.geopotential the opposite
    tracks-ratio =
        widen _ _ (test tests 11 passed)
        (same_base (lowest h ⊘ decimal "288.15") (as_exact (number h ∷ []) height ⊟ the "0") (proper-sum _ _ tracks-H.some (lit< tt)) (tracks (tracks-h also none) ratio (test tests 10 passed)))

    abbrev rounded : Float
    rounded = power 60 (exponent_of pressure_power) (lowest h ⊘ decimal "288.15")

    tracks-rounded : (p : Spec.PressureRatio (number h)) → Tracks power_bounds_lem rounded (of p.ratio)
    tracks-rounded p = tracks-constant-power pressure_power w (test tests 12 passed) at-ends (lowest h ⊘ decimal "288.15") (Spec.base (number h)) tracks-ratio p.ratio p.is_ratio

    kelvins_are : (standard_air 60 h).temperature_k ≡ lowest h
    kelvins_are = temperature-is h h-kept H-kept below

    pascals_are : (standard_air 60 h).pressure_pa ≡ decimal "101325" ⊗ rounded
    pascals_are = pressure-is h h-kept H-kept below

    pub standard_near : Near h
    standard_near =
        record {
          height-kept = height-is h h-kept H-kept below;
          temperature-near = subst (λ (z : Float). IsNear 42 z (Spec.exact_temperature (number h))) (sym kelvins_are) (near_of 42 _ _ (leb→le ((of-altitude temperature).E * 2 ^ 42) N (test tests 7 passed)) tracks-T);
          celsius-near = subst (λ (z : Float). IsNear 42 (z ⊖ ice_point) (Spec.exact_temperature (number h) ⊟ the "273.15")) (sym kelvins_are) (near_of 42 _ _ (leb→le ((of-altitude celsius).E * 2 ^ 42) N (test tests 9 passed)) tracks-t);
          pressure-near = λ p. subst (λ (z : Float). IsNear 31 z (Spec.exact_pressure p)) (sym pascals_are) (near_of 31 _ _ (leb→le ((of-power pascals).E * 2 ^ 31) N (test tests 14 passed)) (tracks (tracks-rounded p also none) pascals (test tests 13 passed)));
          hectopascals-near = λ p. subst (λ (z : Float). IsNear 37 (z ⊘ hundred) (Spec.exact_pressure p ÷ the "100")) (sym pascals_are) (near_of 37 _ _ (leb→le ((of-power hectopascals).E * 2 ^ 37) N (test tests 16 passed)) (tracks (tracks-rounded p also none) hectopascals (test tests 15 passed)));
          ratio-exists = let r = power-exists pressure_power w (test tests 12 passed) (lowest h ⊘ decimal "288.15") (Spec.base (number h)) tracks-ratio in record { ratio = r.0; is_ratio = r.1 };
        }

    pub ordinary : T (all ordinary-tests) → Ordinary h
    unfolding of_bits fits
    ordinary inner =
        let p = standard_near.ratio-exists in
        record {
          ordinary-celsius = subst (λ (z : Float). Between (decimal "-40") (decimal "50") (z ⊖ ice_point)) (sym kelvins_are) (tracks-inside _ _ tracks-t (decimal "-40") (decimal "50") tt tt tt tt (test ordinary-tests 0 inner));
          ordinary-hectopascals = subst (λ (z : Float). Between (decimal "500") (decimal "1100") (z ⊘ hundred)) (sym pascals_are) (tracks-inside _ _ (tracks (tracks-rounded p also none) hectopascals (test tests 15 passed)) (decimal "500") (decimal "1100") tt tt tt tt (test ordinary-tests 1 inner));
        }
