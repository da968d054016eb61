-- The standard atmosphere's temperature and pressure, of which °C and hPa are shown: the K behind them track the °C and 273.15, and the Pa the hPa times 100.
-- Assumes nothing.
use Rattle.near.proofs.Kit.{◌≡◌, refl, sym, ap, subst, Bool, true, false, List, [], ◌∷◌, ℕ, ◌+◌, ◌*◌, ◌≤◌, ◌<◌, mul-le-mul_right, le_of_mul-le-mul_right, arith, T, Float, nan, inf, fin, binary64, span, climb, size, odd, units, round, sub, div, of_fields, of_bits, fits, lt, eq, le, cond-fits, sub-fits, mul-fits, div-fits, finite, decimal, hundred, ◌⊖◌, ◌⊘◌, places, above, beneath, over, under, div-rises, ice_point, base_height, layer_temperature, isothermal, isothermal_pressure, gradient_pressure, layer_at, layer_pressure, standard_height, standard_air, ◌⊞◌, opposite, ◌⊠◌, ◌÷◌, the, number, Between, N, Bounds, Tracks, given, ◌minus◌, ◌by◌, analysed, none, ◌also◌, tracks, ranged, tracks-itself, number_is, all, item, test}
use lib.Ieee.Fits.{add-fits}
use Rattle.arithmetic.proofs.Order.{number as is_number, numbers-of-le, or_left, le-trans-double, Rises}
use Rattle.arithmetic.proofs.Strict.{less-of_not_le, not_le-of-less}
use Rattle.arithmetic.proofs.Sums.{sub-rises}
use Rattle.exact.proofs.Terms.{num}

-- ---- they are doubles
pub kelvins-fit : (altitude : Float) → T (fits binary64 (standard_air places altitude).temperature_k)
unfolding standard_air
kelvins-fit altitude = add-fits binary64 _ _

pressure-fits : (i : ℕ) (d T' : Float) → T (fits binary64 (layer_pressure places i d T'))
unfolding layer_pressure
pressure-fits i d T' = cond-fits binary64 (isothermal i) (isothermal_pressure places i d) (gradient_pressure places i T') (mul-fits binary64 _ _) (mul-fits binary64 _ _)

pub pascals-fit : (altitude : Float) → T (fits binary64 (standard_air places altitude).pressure_pa)
unfolding standard_air
pascals-fit altitude = let H = standard_height altitude in let d = H ⊖ base_height (layer_at H) in pressure-fits (layer_at H) d (layer_temperature (layer_at H) d)

-- ---- what a rising function brings between a and b lies between lo and hi
module _ (f : Float → Float) (rises : Rises f) (doubles : (y : Float) → T (fits binary64 (f y))) (lo hi a b x : Float) (fits-lo : T (fits binary64 lo)) (fits-hi : T (fits binary64 hi)) (fits-a : T (fits binary64 a)) (fits-b : T (fits binary64 b)) (fits-x : T (fits binary64 x)) where
  le_of_lt : (x y : Float) → T (lt x y) → T (le x y)
  unfolding le
  le_of_lt x y = or_left (lt x y) (eq x y)

  between-before : T (is_number lo) → T (is_number hi) → T (is_number x) → T (lt (f lo) a) → T (lt b (f hi)) → Between a b (f x) → Between lo hi x
  between-before n-lo n-hi n-x low high r = record { double = fits-x; low = at_least (le lo x) refl; high = at_most_lem (le x hi) refl }
    where
      at_least : (c : Bool) → le lo x ≡ c → T (le lo x)
      at_least true e = subst T (sym e) tt
      at_least false e = absurd (not_le-of-less (f lo) a low (le-trans-double a (f x) (f lo) fits-a (doubles x) (doubles lo) r.low (rises x lo fits-x fits-lo (le_of_lt x lo (less-of_not_le x lo n-x n-lo (λ (l : T (le lo x)). subst T e l))))))

      at_most_lem : (c : Bool) → le x hi ≡ c → T (le x hi)
      at_most_lem true e = subst T (sym e) tt
      at_most_lem false e = absurd (not_le-of-less b (f hi) high (le-trans-double (f hi) (f x) b (doubles hi) (doubles x) fits-b (rises hi x fits-hi fits-x (le_of_lt hi x (less-of_not_le hi x n-hi n-x (λ (l : T (le x hi)). subst T e l)))) r.high))

-- ---- °C and 273.15: a double that tracks x - c, turned round
sum-turned : (o u v w P Q K P' Q' K' A B C E : ℕ) → 0 < K → P * N ≡ o * K → Q * N ≡ u * K → P' * N ≡ v * K' → Q' * N ≡ w * K'
    → v * (K * C) + (Q * C + A * K) * N ≤ w * (K * C) + (P * C + B * K) * N + E * (K * C) → u * (K' * C) + (P' * C + A * K') * N ≤ o * (K' * C) + (Q' * C + B * K') * N + E * (K' * C)
sum-turned o u v w P Q K P' Q' K' A B C E K₀ e f g h i =
    let j : v * C + u * C + A * N ≤ w * C + o * C + B * N + E * C = le_of_mul-le-mul_right {k = K} (omega (arith, i, ap (λ (x : ℕ). x * C) e, ap (λ (x : ℕ). x * C) f)) K₀ in
    omega (arith, mul-le-mul_right K' j, ap (λ (x : ℕ). x * C) g, ap (λ (x : ℕ). x * C) h)

module _ (lo hi a b : Float) where
  abbrev shown : Bounds
  shown = analysed (ranged lo hi 0 ∷ []) (given 0 minus num "273.15")

  abbrev pub kelvin-bounds : Bounds
  kelvin-bounds = ranged lo hi shown.E

  abbrev pub kelvin-tests : List Bool
  kelvin-tests = finite lo ∷ finite hi ∷ fits binary64 lo ∷ fits binary64 hi ∷ fits binary64 a ∷ fits binary64 b ∷ is_number lo ∷ is_number hi ∷ lt (lo ⊖ ice_point) a ∷ lt b (hi ⊖ ice_point) ∷ shown.good ∷ []

  module _ (tested : T (all kelvin-tests)) (x : Float) (fits-x : T (fits binary64 x)) (range : Between a b (x ⊖ ice_point)) where
    passed : (n : ℕ) → T (item kelvin-tests n)
    passed n = test kelvin-tests n tested

    x-range : Between lo hi x
    unfolding sub odd of_fields of_bits fits
    x-range = between-before (λ y. y ⊖ ice_point) (sub-rises false _ _ tt) (λ y. sub-fits binary64 y ice_point) lo hi a b x (passed 2) (passed 3) (passed 4) (passed 5) fits-x (passed 6) (passed 7) (number_of x range.low) (passed 8) (passed 9) range
      where
        number_of : (x : Float) → T (le a (x ⊖ ice_point)) → T (is_number x)
        number_of nan h = (numbers-of-le a nan h).1
        number_of (inf s) h = tt
        number_of (fin s m e) h = tt

    pub tracks-kelvin : Tracks kelvin-bounds x (number (x ⊖ ice_point) ⊞ the "273.15")
    unfolding ◌⊞◌ opposite the
    tracks-kelvin =
        let i = tracks-itself lo hi x (passed 0) (passed 1) (passed 2) (passed 3) x-range in
        let t = tracks (i also none) (given 0 minus num "273.15") (passed 10) in
        let n = number_is x i.is_finite fits-x in
        let m = number_is (x ⊖ ice_point) t.is_finite t.double in
        record {
          some = omega (arith, m.0);
          is_finite = i.is_finite;
          double = fits-x;
          low = i.low;
          high = i.high;
          not_above = sum-turned (under x) (over x) (under (x ⊖ ice_point)) (over (x ⊖ ice_point)) (number x).minus (number x).plus (number x).under (number (x ⊖ ice_point)).minus (number (x ⊖ ice_point)).plus (number (x ⊖ ice_point)).under 0 27315 100 shown.E n.0 n.2 n.1 m.2 m.1 t.not_below;
          not_below = sum-turned (over x) (under x) (over (x ⊖ ice_point)) (under (x ⊖ ice_point)) (number x).plus (number x).minus (number x).under (number (x ⊖ ice_point)).plus (number (x ⊖ ice_point)).minus (number (x ⊖ ice_point)).under 27315 0 100 shown.E n.0 n.1 n.2 m.1 m.2 t.not_above;
        }

-- ---- hPa times 100: a double that tracks x / 100, turned round
product_turned : (o u v w P Q K P' Q' K' S S' E : ℕ) → S ≡ P' * 100 → S' ≡ Q' * 100 → 0 < K → P * N ≡ o * K → Q * N ≡ u * K → P' * N ≡ v * K' → Q' * N ≡ w * K'
    → v * (K * 100) + Q * 1 * N ≤ w * (K * 100) + P * 1 * N + E * (K * 100) → u * (K' * 1) + S * N ≤ o * (K' * 1) + S' * N + 100 * E * (K' * 1)
product_turned o u v w P Q K P' Q' K' S S' E k l K₀ e f g h i =
    let j : v * 100 + u ≤ w * 100 + o + 100 * E = le_of_mul-le-mul_right {k = K} (omega (arith, i, e, f)) K₀ in
    omega (arith, mul-le-mul_right K' j, g, h, ap (λ (x : ℕ). x * N) k, ap (λ (x : ℕ). x * N) l)

abbrev hundredths : Bounds
hundredths = analysed (ranged (decimal "49999") (decimal "110001") 0 ∷ []) (given 0 by num "100")

abbrev pub pascal-bounds : Bounds
pascal-bounds = ranged (decimal "49999") (decimal "110001") (100 * hundredths.E)

module _ (x : Float) (fits-x : T (fits binary64 x)) (range : Between (decimal "500") (decimal "1100") (x ⊘ hundred)) where
  pascal-range : Between (decimal "49999") (decimal "110001") x
  unfolding div round units span climb size odd of_fields of_bits fits lt eq le
  pascal-range = between-before (λ y. y ⊘ hundred) (div-rises _ _) (λ y. div-fits binary64 y hundred) (decimal "49999") (decimal "110001") (decimal "500") (decimal "1100") x tt tt tt tt fits-x tt tt (number_of x range.low) tt tt range
    where
      number_of : (x : Float) → T (le (decimal "500") (x ⊘ hundred)) → T (is_number x)
      number_of nan h = (numbers-of-le (decimal "500") nan h).1
      number_of (inf s) h = tt
      number_of (fin s m e) h = tt

  pub tracks-pascal : Tracks pascal-bounds x (number (x ⊘ hundred) ⊠ the "100")
  unfolding N above beneath ◌⊠◌ ◌÷◌ the span climb size odd of_fields of_bits fits
  tracks-pascal =
      let i = tracks-itself (decimal "49999") (decimal "110001") x tt tt tt tt pascal-range in
      let t = tracks (i also none) (given 0 by num "100") tt in
      let n = number_is x i.is_finite fits-x in
      let m = number_is (x ⊘ hundred) t.is_finite t.double in
      record {
        some = omega (arith, m.0);
        is_finite = i.is_finite;
        double = fits-x;
        low = i.low;
        high = i.high;
        not_above = product_turned (under x) (over x) (under (x ⊘ hundred)) (over (x ⊘ hundred)) (number x).minus (number x).plus (number x).under (number (x ⊘ hundred)).minus (number (x ⊘ hundred)).plus (number (x ⊘ hundred)).under _ _ hundredths.E (add (number (x ⊘ hundred)).plus (number (x ⊘ hundred)).minus) (add' (number (x ⊘ hundred)).plus (number (x ⊘ hundred)).minus) n.0 n.2 n.1 m.2 m.1 t.not_below;
        not_below = product_turned (over x) (under x) (over (x ⊘ hundred)) (under (x ⊘ hundred)) (number x).plus (number x).minus (number x).under (number (x ⊘ hundred)).plus (number (x ⊘ hundred)).minus (number (x ⊘ hundred)).under _ _ hundredths.E (add' (number (x ⊘ hundred)).plus (number (x ⊘ hundred)).minus) (add (number (x ⊘ hundred)).plus (number (x ⊘ hundred)).minus) n.0 n.1 n.2 m.1 m.2 t.not_above;
      }
    where
      add : (P Q : ℕ) → P * 0 + Q * 100 ≡ Q * 100
      add P Q = omega arith

      add' : (P Q : ℕ) → P * 100 + Q * 0 ≡ P * 100
      add' P Q = omega arith
