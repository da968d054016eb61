-- The ratio of the saturation pressure to p_c tracks the exact one, for a T whose bounds pass the tests of a part of the temperatures. Assumes nothing.
use Rattle.near.proofs.Kit.{◌≡◌, refl, Bool, List, [], ◌∷◌, ℕ, ◌+◌, ◌*◌, ◌^◌, ◌≤◌, le_refl, arith, T, leb, eqb, leb→le, eqb→eq, lit≤, Float, binary64, odd, of_fields, of_bits, fits, le, finite, decimal, ◌⊗◌, units_of, above, beneath, over, under, Small, le-of-sides, ◌to_the◌, power, exp, saturation_pressure, Normal, Exact, number, of, Bounds, Tracks, Term, given, ◌plus◌, ◌minus◌, ◌times◌, ◌by◌, ◌at_least◌, as_double, analysed, none, ◌also◌, tracks, ranged, tracks-itself, all, item, test, positive-units, normal-of, reduced, exact_log_ratio, Saturation}
use Rattle.exact.proofs.Terms.{num}
use Rattle.exact.proofs.HalfPower.{halves, half_power, tracks-power}
use Rattle.exact.proofs.ExpTracks.{parts, exponential, Sides, sides, tracks-exp}
use Rattle.exact.proofs.Values.{Moderate, moderate, power-normal, exp-between, exp-fits}
use Rattle.near.proofs.Temperatures.{Part, Below}

-- ---- the formula: of T in K, and of the five half powers
abbrev warm : Term
warm = given 0 at_least "173.15"

abbrev τ : Term
τ = num "1" minus warm by num "647.096"

abbrev exponent : Term
exponent =
    num "647.096" by warm
    times (num "-7.85951783" times τ plus num "1.84408259" times given 1 plus num "-11.7866497" times given 2 plus num "22.6807411" times given 3 plus num "-15.9618719" times given 4 plus num "1.80122502" times given 5)

-- ---- what is computed of the bounds of T
module _ (Tb : Bounds) (q : Part) where
  abbrev τ-bounds : Bounds
  τ-bounds = analysed (Tb ∷ []) τ

  abbrev half : ℕ → Bounds
  half j = half_power j τ-bounds

  abbrev pub exponent-bounds : Bounds
  exponent-bounds = analysed (Tb ∷ half 3 ∷ half 6 ∷ half 7 ∷ half 8 ∷ half 15 ∷ []) exponent

  abbrev pub ratio-bounds : Bounds
  ratio-bounds = exponential (over (decimal "1e-11")) (over q.ratio) exponent-bounds

  abbrev pub checks : List Bool
  checks =
      leb (over (decimal "0.5")) τ-bounds.L ∷ eqb τ-bounds.M 0 ∷ leb τ-bounds.H (over (decimal "1")) ∷ leb exponent-bounds.M (under (decimal "-24")) ∷ leb (under q.top) exponent-bounds.J ∷ eqb exponent-bounds.H 0
      ∷ finite q.top ∷ fits binary64 q.top ∷ finite q.ratio ∷ fits binary64 q.ratio ∷ eqb (under q.ratio) 0 ∷ τ-bounds.good ∷ (half 3).good ∷ (half 6).good ∷ (half 7).good ∷ (half 8).good ∷ (half 15).good
      ∷ exponent-bounds.good ∷ ratio-bounds.good ∷ []

  module _ (checked : T (all checks)) (below : Below q) (x : Float) (X : Exact) (t : Tracks Tb x X) (s : Saturation X) where
    passed : (n : ℕ) → T (item checks n)
    passed n = test checks n checked

    itself : (z : Float) → T (fits binary64 z) → T (finite z) → Small (units_of z) z
    itself z f k = record { is_finite = k; double = f; size = le_refl (units_of z) }

    -- ---- the half powers
    abbrev x' : Float
    x' = as_double (x ∷ []) τ

    tracks-τ : Tracks τ-bounds x' (reduced X)
    unfolding reduced
    tracks-τ = tracks (t also none) τ (passed 11)

    τ-itself : Small (units_of x') x'
    τ-itself = itself x' tracks-τ.double tracks-τ.is_finite

    τ-low : T (le (decimal "0.5") x')
    unfolding above beneath of_bits fits
    τ-low = le-of-sides (decimal "0.5") x' (itself (decimal "0.5") tt tt) τ-itself (order (over (decimal "0.5")) (over x') (under x') τ-bounds.L τ-bounds.M (leb→le (over (decimal "0.5")) τ-bounds.L (passed 0)) (eqb→eq τ-bounds.M 0 (passed 1)) tracks-τ.low)
      where
        order : (h o u L M : ℕ) → h ≤ L → M ≡ 0 → u + L ≤ o + M → h + u ≤ o + 0
        order h o u L M a b c = omega (arith, a, b, c)

    τ-high : T (le x' (decimal "1"))
    unfolding above beneath of_bits fits
    τ-high = le-of-sides x' (decimal "1") τ-itself (itself (decimal "1") tt tt) (order (over (decimal "1")) (over x') (under x') τ-bounds.H τ-bounds.J (leb→le τ-bounds.H (over (decimal "1")) (passed 2)) tracks-τ.high)
      where
        order : (h o u H J : ℕ) → H ≤ h → o + J ≤ u + H → o + 0 ≤ h + u
        order h o u H J a c = omega (arith, a, c)

    abbrev power-of : ℕ → Float
    power-of j = power 60 (halves j) x'

    tracks-half : (j : ℕ) → j * 2 ^ 57 ≤ 8 * 2 ^ 58 → Moderate j → T (half j).good → Tracks (half j) (power-of j) (of (s.root to_the j))
    tracks-half j few m good = tracks-power j τ-bounds few good x' (reduced X) tracks-τ s.root s.is_root (power-normal j m x' tracks-τ.double τ-low τ-high)

    -- ---- the exponent
    pub y : Float
    y = as_double (x ∷ power-of 3 ∷ power-of 6 ∷ power-of 7 ∷ power-of 8 ∷ power-of 15 ∷ []) exponent

    tracks-y : Tracks exponent-bounds y (exact_log_ratio X s.root)
    unfolding y exact_log_ratio reduced
    tracks-y =
        tracks (t also tracks-half 3 (lit≤ tt) moderate.0 (passed 12) also tracks-half 6 (lit≤ tt) moderate.1 (passed 13) also tracks-half 7 (lit≤ tt) moderate.2 (passed 14)
        also tracks-half 8 (lit≤ tt) moderate.3 (passed 15) also tracks-half 15 (lit≤ tt) moderate.4 (passed 16) also none) exponent (passed 17)

    y-itself : Small (units_of y) y
    y-itself = itself y tracks-y.double tracks-y.is_finite

    y-low : T (le (decimal "-24") y)
    unfolding above beneath of_bits fits
    y-low = le-of-sides (decimal "-24") y (itself (decimal "-24") tt tt) y-itself (order (under (decimal "-24")) (over y) (under y) exponent-bounds.L exponent-bounds.M (leb→le exponent-bounds.M (under (decimal "-24")) (passed 3)) tracks-y.low)
      where
        order : (h o u L M : ℕ) → M ≤ h → u + L ≤ o + M → 0 + u ≤ o + h
        order h o u L M a c = omega (arith, a, c)

    y-high : T (le y q.top)
    y-high = le-of-sides y q.top y-itself (itself q.top (passed 7) (passed 6)) (order (over q.top) (under q.top) (over y) (under y) exponent-bounds.H exponent-bounds.J (leb→le (under q.top) exponent-bounds.J (passed 4)) (eqb→eq exponent-bounds.H 0 (passed 5)) tracks-y.high)
      where
        order : (p q o u H J : ℕ) → q ≤ J → H ≡ 0 → o + J ≤ u + H → o + q ≤ p + u
        order p q o u H J a b c = omega (arith, a, b, c)

    -- ---- the ratio
    exp-itself : Tracks (ranged (decimal "1e-11") q.ratio 0) (exp 60 y) (number (exp 60 y))
    unfolding of_bits fits
    exp-itself = tracks-itself (decimal "1e-11") q.ratio (exp 60 y) tt (passed 8) tt (passed 9) (exp-between q.top q.ratio y (passed 7) (passed 9) tracks-y.double y-low y-high below)

    exp-normal : Normal (exp 60 y)
    unfolding above beneath of_bits
    exp-normal = normal-of (exp 60 y) (number (exp 60 y)) exp-itself refl (lit≤ tt)

    pub sides-ratio : Sides (parts exponent-bounds) (exp 60 y) s.ratio
    sides-ratio = sides (over (decimal "1e-11")) (over q.ratio) exponent-bounds (passed 18) s.e s.e_proper s.e_least s.e_most (exact_log_ratio X s.root) s.ratio s.is_ratio y tracks-y exp-normal (exp-fits 60 y)

    pub tracks-ratio : Tracks ratio-bounds (exp 60 y) (of s.ratio)
    unfolding above beneath of_bits
    tracks-ratio =
        let none-under = (positive-units (exp 60 y) exp-normal.0 (exp-fits 60 y)).none-under in
        tracks-exp (over (decimal "1e-11")) (over q.ratio) exponent-bounds (passed 18) s.e s.e_proper s.e_least s.e_most (exact_log_ratio X s.root) s.ratio s.is_ratio y tracks-y exp-normal (exp-fits 60 y)
        (low (over (exp 60 y)) (under (exp 60 y)) (over (decimal "1e-11")) none-under exp-itself.low)
        (high (over (exp 60 y)) (under (exp 60 y)) (over q.ratio) (under q.ratio) none-under (eqb→eq (under q.ratio) 0 (passed 10)) exp-itself.high)
      where
        low : (o u L : ℕ) → u ≡ 0 → u + L ≤ o + 0 → L ≤ o
        low o u L a b = omega (arith, a, b)

        high : (o u H J : ℕ) → u ≡ 0 → J ≡ 0 → o + J ≤ u + H → o ≤ H
        high o u H J a b c = omega (arith, a, b, c)

    -- it is the ratio that the saturation pressure has
    pub is-pressure : decimal "220640" ⊗ exp 60 y ≡ saturation_pressure 60 x
    unfolding y saturation_pressure odd of_fields of_bits
    is-pressure = refl
