-- How a temperature and a pressure, given or of the standard atmosphere, come to the formulas: what is shown in °C and hPa is K and Pa before, and for the density
-- °C and hPa once more. Assumes nothing.
use Rattle.near.proofs.Kit.{◌≡◌, Bool, List, [], ◌∷◌, ℕ, ◌+◌, ◌*◌, arith, T, Float, span, climb, size, odd, of_fields, of_bits, fits, decimal, hundred, ◌⊕◌, ◌⊖◌, ◌⊗◌, ◌⊘◌, above, beneath, ice_point, places, Reading, Given, FromLayer, kelvins, pascals, celsius, hectopascals, ◌⊞◌, opposite, ◌⊠◌, ◌÷◌, the, number, Between, N, Bounds, Tracks, Term, given, ◌plus◌, ◌minus◌, ◌times◌, ◌by◌, as_exact, analysed, none, ◌also◌, tracks, ranged, tracks-between, tracks_same, wider, widen, all, test}
use Rattle.exact.proofs.Terms.{num}
use Rattle.near.proofs.Standard.{kelvins-fit, pascals-fit, kelvin-bounds, kelvin-tests, tracks-kelvin, pascal-bounds, tracks-pascal}

abbrev pub kelvin : Term
kelvin = given 0 plus num "273.15"

abbrev pub pascal : Term
pascal = given 0 times num "100"

abbrev pub kelvin_and_back : Term
kelvin_and_back = kelvin minus num "273.15"

abbrev pub pascal_and_back : Term
pascal_and_back = pascal by num "100"

abbrev pub pressures : Bounds
pressures = ranged (decimal "500") (decimal "1100") 0

abbrev pub hpa_bounds : Bounds
hpa_bounds = analysed (pressures ∷ []) pascal_and_back

module _ (b : Bounds) (x : Float) (t : Tracks b x (number x)) where
  pub back_from-kelvin : T (analysed (b ∷ []) kelvin_and_back).good → Tracks (analysed (b ∷ []) kelvin_and_back) (x ⊕ ice_point ⊖ ice_point) (number x)
  unfolding the ◌⊞◌ opposite span climb size odd of_fields of_bits
  back_from-kelvin good =
      tracks_same (x ⊕ ice_point ⊖ ice_point) (as_exact (number x ∷ []) kelvin_and_back) (number x) t.some (value (number x).plus (number x).minus (number x).under) (tracks (t also none) kelvin_and_back good)
    where
      value : (P Q K : ℕ) → ((P * 100 + 27315 * K) * 100 + 0 * (K * 100)) * K + Q * (K * 100 * 100) ≡ P * (K * 100 * 100) + ((Q * 100 + 0 * K) * 100 + 27315 * (K * 100)) * K
      value P Q K = omega arith

  pub back_from-pascal : T (analysed (b ∷ []) pascal_and_back).good → Tracks (analysed (b ∷ []) pascal_and_back) (x ⊗ hundred ⊘ hundred) (number x)
  unfolding the ◌⊠◌ ◌÷◌ span climb size odd of_fields of_bits
  back_from-pascal good =
      tracks_same (x ⊗ hundred ⊘ hundred) (as_exact (number x ∷ []) pascal_and_back) (number x) t.some (value (number x).plus (number x).minus (number x).under) (tracks (t also none) pascal_and_back good)
    where
      value : (P Q K : ℕ) → (P * 100 + Q * 0) * 1 * K + Q * (K * 1 * 100) ≡ P * (K * 1 * 100) + (P * 0 + Q * 100) * 1 * K
      value P Q K = omega arith

-- what is given goes to K and back, and what is not is shown as the density has it
module _ (altitude : Float) where
  pub celsius-again : (b : Bounds) (r : Reading) → let t = celsius places altitude r in let back = analysed (b ∷ []) kelvin_and_back in T back.good → T (all (wider b back)) → Tracks b t (number t) → Tracks back (kelvins places altitude r ⊖ ice_point) (number t)
  celsius-again b (Given t) good w tracks-t = back_from-kelvin b t tracks-t good
  celsius-again b FromLayer good w tracks-t = widen _ _ w tracks-t

  pub hectopascals-again : (r : Reading) → let p = hectopascals places altitude r in Between (decimal "500") (decimal "1100") p → Tracks hpa_bounds (pascals places altitude r ⊘ hundred) (number p)
  unfolding N above beneath the span climb size odd of_fields of_bits fits
  hectopascals-again (Given p) range = back_from-pascal pressures p (tracks-between (decimal "500") (decimal "1100") p tt range) tt
  hectopascals-again FromLayer range = widen _ _ tt (tracks-between (decimal "500") (decimal "1100") _ tt range)

  -- and for the speed of sound there are K and Pa behind what is shown
  pub pascals-behind : (r : Reading) → let p = hectopascals places altitude r in Between (decimal "500") (decimal "1100") p → Tracks pascal-bounds (pascals places altitude r) (number p ⊠ the "100")
  unfolding N above beneath the span climb size odd of_fields of_bits fits
  pascals-behind (Given p) range = widen _ _ tt (tracks (tracks-between (decimal "500") (decimal "1100") p tt range also none) pascal tt)
  pascals-behind FromLayer range = tracks-pascal _ (pascals-fit altitude) range

module _ (from to lo hi : Float) where
  abbrev given-kelvin : Bounds
  given-kelvin = analysed (ranged from to 0 ∷ []) kelvin

  abbrev pub T-bounds : Bounds
  T-bounds = ranged lo hi (given-kelvin.E + (kelvin-bounds lo hi from to).E)

  abbrev pub T-tests : List Bool
  T-tests = all (kelvin-tests lo hi from to) ∷ given-kelvin.good ∷ all (wider given-kelvin T-bounds) ∷ all (wider (kelvin-bounds lo hi from to) T-bounds) ∷ []

  pub kelvins-behind : T (all T-tests) → (altitude : Float) (r : Reading) → let t = celsius places altitude r in Between from to t → Tracks (ranged from to 0) t (number t) → Tracks T-bounds (kelvins places altitude r) (number t ⊞ the "273.15")
  kelvins-behind h altitude (Given t) range itself = widen _ _ (test T-tests 2 h) (tracks (itself also none) kelvin (test T-tests 1 h))
  kelvins-behind h altitude FromLayer range itself = widen _ _ (test T-tests 3 h) (tracks-kelvin lo hi from to (test T-tests 0 h) _ (kelvins-fit altitude) range)
