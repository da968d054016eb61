-- The speed of sound in dry air never falls where the temperature rises: the root that is nearest to a greater number is no less. Assumes nothing.
use Rattle.near.proofs.Kit.{◌≡◌, refl, sym, subst₂, true, false, [], ◌∷◌, ℕ, zero, suc, ◌+◌, ◌*◌, ◌^◌, ◌≤◌, ◌<◌, le_refl, lt_of_not-le, mul-le-mul_right, mul-le-mul_left, dec_le, arith, T, Float, nan, inf, fin, binary64, span, climb, size, odd, units, round, sum, neg, add, sub, mul, of_fields, of_bits, fits, le, positive, finite, decimal, nought, hundred, ◌⊕◌, ◌⊗◌, units_of, above, beneath, Small, le-of-sides, mul-by-rises, clamp_double, ice_point, capped, mole_fraction_kelvin, Given, atmosphere, the, number, N, Bounds, Tracks, Term, ◌times◌, as_exact, analysed, none, ◌also◌, tracks, ranged, tracks-between, sides-of-le, Positive, positive-units, positive-tested, InScope, places}
use lib.Ieee.Fits.{add-fits}
use lib.Ieee.Positive.{positive-finite}
use Rattle.arithmetic.proofs.Sums.{add-rises}
use Rattle.antilog.specs.Sqrt.{sqrt}
use Rattle.antilog.proofs.NearestRoot.{sqrt-nearest, NearestRoot}
use Rattle.humid_air.specs.Sound.{sound_speed_at, sound_speed}
use Rattle.exact.proofs.Terms.{num}
use Rattle.near.proofs.Vapour.{factor, by', dry}
use Rattle.near.proofs.Paths.{kelvin, back_from-kelvin, pascals-behind}

-- ---- two nearest roots
roots-ordered : (x y r q : Float) → NearestRoot x r → NearestRoot y q → units_of x ≤ units_of y → units_of r ≤ units_of q
roots-ordered x y nan q a b h = absurd a.is_positive
roots-ordered x y (inf s) q a b h = absurd a.is_positive
roots-ordered x y (fin true m e) q a b h = absurd a.is_positive
roots-ordered x y (fin false m e) nan a b h = absurd b.is_positive
roots-ordered x y (fin false m e) (inf s) a b h = absurd b.is_positive
roots-ordered x y (fin false m e) (fin true n d) a b h = absurd b.is_positive
roots-ordered x y (fin false m e) (fin false n d) a b h = go (dec_le (units_of (fin false m e)) (units_of (fin false n d)))
  where
    clash : (X Y R Q P : ℕ) → X ≤ Y → (Q + R) * (Q + R) < 4 * X * P → 4 * Y * P < (R + Q) * (R + Q) → ⊥
    clash X Y R Q P h i j = omega (arith, mul-le-mul_right P (mul-le-mul_left 4 h), i, j)

    go : Dec (units_of (fin false m e) ≤ units_of (fin false n d)) → units_of (fin false m e) ≤ units_of (fin false n d)
    go (yes l) = l
    go (no l) =
        absurd (clash (units_of x) (units_of y) (units_of (fin false m e)) (units_of (fin false n d)) (2 ^ 1074) h (a.lower_is_farther n d b.is_double (lt_of_not-le l)) (b.higher_is_farther m e a.is_double (lt_of_not-le l)))

nearest-of : (x : Float) → T (positive x) → T (fits binary64 x) → NearestRoot x (sqrt x)
nearest-of nan h f = absurd h
nearest-of (inf s) h f = absurd h
nearest-of (fin true m e) h f = absurd h
nearest-of (fin false zero e) h f = absurd h
nearest-of (fin false (suc m) e) h f = sqrt-nearest m e f

-- ---- the order of positive doubles is that of their units
module _ (x y : Float) (x-positive : T (positive x)) (y-positive : T (positive y)) (fits-x : T (fits binary64 x)) (fits-y : T (fits binary64 y)) where
  units_of-le : T (le x y) → units_of x ≤ units_of y
  units_of-le h = let a : Positive x = positive-units x x-positive fits-x in let b : Positive y = positive-units y y-positive fits-y in omega (arith, sides-of-le x y (positive-finite x x-positive) (positive-finite y y-positive) fits-x fits-y h)

  le-of-units : units_of x ≤ units_of y → T (le x y)
  le-of-units h = let a : Positive x = positive-units x x-positive fits-x in let b : Positive y = positive-units y y-positive fits-y in le-of-sides x y (itself x fits-x (positive-finite x x-positive)) (itself y fits-y (positive-finite y y-positive)) (omega arith)
    where
      itself : (z : Float) → T (fits binary64 z) → T (finite z) → Small (units_of z) z
      itself z f k = record { is_finite = k; double = f; size = le_refl (units_of z) }

pub sqrt-rises : (x y : Float) → T (fits binary64 x) → T (fits binary64 y) → T (positive x) → T (positive y) → T (le x y) → T (le (sqrt x) (sqrt y))
sqrt-rises x y fx fy px py h =
    let a = nearest-of x px fx in
    let b = nearest-of y py fy in
    le-of-units (sqrt x) (sqrt y) a.is_positive b.is_positive a.is_double b.is_double (roots-ordered x y (sqrt x) (sqrt y) a b (units_of-le x y px py fx fy h))

-- ---- dry air: no vapour, and a speed that is the root of a constant times T
abbrev square_per_kelvin : Float
square_per_kelvin = decimal "401.87433999999996"

as_root : (x : Float) → sound_speed_at x nought ≡ sqrt (square_per_kelvin ⊗ x)
unfolding mul add sub sum neg round units size span climb odd of_fields of_bits
as_root x = refl

abbrev temperatures : Bounds
temperatures = ranged (decimal "-40") (decimal "50") 0

abbrev square : Term
square = num "401.87433999999996" times kelvin

module _ (t p : Float) (range : InScope t p nought) where
  itself : Tracks temperatures t (number t)
  unfolding of_bits fits
  itself = tracks-between (decimal "-40") (decimal "50") t tt range.temperature

  no_vapour : capped (mole_fraction_kelvin 60 (t ⊕ ice_point) (p ⊗ hundred) (clamp_double nought nought hundred)) ≡ nought
  unfolding N above beneath the span climb size odd of_fields of_bits
  no_vapour =
      let tracked = back_from-kelvin temperatures t itself tt also pascals-behind nought (Given p) range.pressure also none in
      dry _ _ _ (positive-tested _ _ (tracks tracked factor tt) tt) (positive-tested _ _ (tracks tracked by' tt) tt)

  dry_speed : (altitude : Float) → (atmosphere 60 altitude (Given t) (Given p) nought).speed_of_sound_mps ≡ sqrt (square_per_kelvin ⊗ (t ⊕ ice_point))
  unfolding atmosphere sound_speed
  dry_speed altitude = rw (no_vapour) (as_root (t ⊕ ice_point))

  tracks-square : Tracks (analysed (temperatures ∷ []) square) (square_per_kelvin ⊗ (t ⊕ ice_point)) (as_exact (number t ∷ []) square)
  unfolding N above beneath the span climb size odd of_fields of_bits
  tracks-square = tracks (itself also none) square tt

  square-positive : T (positive (square_per_kelvin ⊗ (t ⊕ ice_point)))
  unfolding N above beneath the span climb size odd of_fields of_bits
  square-positive = positive-tested _ _ tracks-square tt

pub dry-sound-rises : (altitude altitude' t u p q : Float) → InScope t p nought → InScope u q nought → T (le t u)
    → T (le (atmosphere places altitude (Given t) (Given p) nought).speed_of_sound_mps (atmosphere places altitude' (Given u) (Given q) nought).speed_of_sound_mps)
unfolding fits odd of_fields of_bits
dry-sound-rises altitude altitude' t u p q t-range u-range h =
    subst₂ (λ (a b : Float). T (le a b)) (sym (dry_speed t p t-range altitude)) (sym (dry_speed u q u-range altitude'))
    (sqrt-rises (square_per_kelvin ⊗ (t ⊕ ice_point)) (square_per_kelvin ⊗ (u ⊕ ice_point)) (tracks-square t p t-range).double (tracks-square u q u-range).double (square-positive t p t-range) (square-positive u q u-range)
    (mul-by-rises _ _ (t ⊕ ice_point) (u ⊕ ice_point) (add-fits binary64 t ice_point) (add-fits binary64 u ice_point) (add-rises false _ _ tt t u t-range.temperature.double u-range.temperature.double h)))
