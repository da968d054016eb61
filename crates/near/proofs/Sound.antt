-- The speed of sound is near every fraction that stands for the exact one, and there is such a fraction. Assumes nothing.
use Rattle.near.proofs.Kit.{◌≡◌, ap₂, subst, Bool, List, [], ◌∷◌, ℕ, ◌+◌, ◌*◌, ◌^◌, T, leb, ltb, eqb, leb→le, ltb→lt, eqb→eq, lit<, Float, span, climb, size, odd, units, round, sum, neg, add, sub, of_fields, of_bits, fits, lt, eq, decimal, nought, hundred, ◌⊕◌, ◌⊖◌, places, above, beneath, root, root_in, Fraction, ◌to_the◌, clamp_double, ice_point, capped, mole_fraction_kelvin, Reading, Given, kelvins, pascals, celsius, hectopascals, atmosphere, Exact, the, number, IsNear, Between, of, IsRoot, N, Bounds, Tracks, Term, given, ◌plus◌, ◌minus◌, ◌times◌, as_double, analysed, none, ◌also◌, tracks, ranged, near_of, ends, tracks-between, wider, all, item, test, root-of, above_zero, below-square, Saturation}
use Rattle.arithmetic.proofs.Powers.{pow-one}
use Rattle.humid_air.specs.Sound.{sound_speed_at, sound_speed}
use Rattle.exact.proofs.Terms.{num}
use Rattle.exact.proofs.RootTracks.{rooted, tracks-sqrt}
use Rattle.near.specs.Sound.{squared_speed}
use Rattle.near.specs.Near as Spec
use Rattle.near.proofs.Temperatures.{Part, Below, Every, by-celsius}
use Rattle.near.proofs.Vapour.{vapour-bounds, vapour-tests, tracks-vapour}
use Rattle.near.proofs.Standard.{pascal-bounds}
use Rattle.near.proofs.Paths as Paths
use Rattle.near.proofs.Paths.{kelvin_and_back, T-tests, celsius-again, kelvins-behind, pascals-behind}

-- ---- the square of the speed, of T in K and the mole fraction
abbrev square : Term
square = num "1.4" times (num "1" minus given 1 times num "0.062") times (num "287.0531" times (num "1" plus num "0.378" times given 1)) times given 0

first-power : (c : Fraction) → c to_the 1 ≡ c
first-power c = ap₂ (λ (a b : ℕ). fraction a b) (pow-one c.over) (pow-one c.under)
  where
    fraction : ℕ → ℕ → Fraction
    fraction a b = record { over = a; under = b }

-- ---- of a part of the temperatures
module _ (q : Part) where
  abbrev given-bounds : Bounds
  given-bounds = ranged q.from q.to 0

  abbrev t-bounds : Bounds
  t-bounds = analysed (given-bounds ∷ []) kelvin_and_back

  -- a little below and above the part's ends in K
  abbrev lo : Float
  lo = q.from-K ⊖ decimal "1e-9"

  abbrev hi : Float
  hi = q.to-K ⊕ decimal "1e-9"

  abbrev T-bounds : Bounds
  T-bounds = Paths.T-bounds q.from q.to lo hi

  abbrev x-bounds : Bounds
  x-bounds = vapour-bounds T-bounds t-bounds pascal-bounds q

  abbrev square-bounds : Bounds
  square-bounds = analysed (T-bounds ∷ x-bounds ∷ []) square

  -- the square lies below that of 512 m/s
  abbrev tests : List Bool
  tests =
      all (vapour-tests T-bounds t-bounds pascal-bounds q) ∷ all (ends q.from q.to) ∷ t-bounds.good ∷ all (T-tests q.from q.to lo hi) ∷ square-bounds.good
      ∷ (rooted square-bounds).good ∷ leb ((rooted square-bounds).E * 2 ^ 37) N ∷ eqb square-bounds.M 0 ∷ ltb square-bounds.E square-bounds.L ∷ leb (square-bounds.H + square-bounds.E) (512 * 512 * N) ∷ all (wider given-bounds t-bounds) ∷ []

  module _ (tested : T (all tests)) (below : Below q) (altitude : Float) (r u : Reading) (h : Float) where
    abbrev t : Float
    t = celsius places altitude r

    abbrev p : Float
    p = hectopascals places altitude u

    abbrev T'' : Float
    T'' = kelvins places altitude r

    abbrev p'' : Float
    p'' = pascals places altitude u

    passed : (n : ℕ) → T (item tests n)
    passed n = test tests n tested

    module _ (t-range : Between q.from q.to t) (p-range : Between (decimal "500") (decimal "1100") p) (h-range : Between (decimal "0") (decimal "100") h) (s : Saturation (Spec.kelvin t)) where
      itself : Tracks given-bounds t (number t)
      itself = tracks-between q.from q.to t (passed 1) t-range

      tracks-T : Tracks T-bounds T'' (Spec.kelvin t)
      tracks-T = kelvins-behind q.from q.to lo hi (passed 3) altitude r t-range itself

      tracks-t : Tracks t-bounds (T'' ⊖ ice_point) (number t)
      tracks-t = celsius-again altitude given-bounds r (passed 2) (passed 10) itself

      tracks-p : Tracks pascal-bounds p'' (Spec.pascal p)
      tracks-p = pascals-behind altitude u p-range

      abbrev x'' : Float
      x'' = capped (mole_fraction_kelvin 60 T'' p'' (clamp_double h nought hundred))

      abbrev X : Exact
      X = Spec.vapour t p h s

      tracks-x : Tracks x-bounds x'' X
      tracks-x = tracks-vapour T-bounds t-bounds pascal-bounds q (passed 0) below T'' (T'' ⊖ ice_point) p'' h (Spec.kelvin t) (number t) (Spec.pascal p) tracks-T tracks-t tracks-p h-range s

      tracks-square : Tracks square-bounds (as_double (T'' ∷ x'' ∷ []) square) (squared_speed (Spec.kelvin t) X)
      unfolding squared_speed
      tracks-square = tracks (tracks-T also tracks-x also none) square (passed 4)

      speed_of : (c : Fraction) → IsRoot c (squared_speed (Spec.kelvin t) X) → IsNear 37 (sound_speed_at T'' x'') (of c)
      speed_of c is-root =
          subst (λ (k : Fraction). IsNear 37 (sound_speed_at T'' x'') (of k)) (first-power c)
          (near_of 37 _ _ (leb→le ((rooted square-bounds).E * 2 ^ 37) N (passed 6)) (tracks-sqrt square-bounds (passed 5) (as_double (T'' ∷ x'' ∷ []) square) (squared_speed (Spec.kelvin t) X) tracks-square c is-root))

      exists : (c : Fraction) × IsRoot c (squared_speed (Spec.kelvin t) X)
      exists =
          root-of 512 (lit< tt) (squared_speed (Spec.kelvin t) X) tracks-square.some
          (above_zero _ _ tracks-square (eqb→eq square-bounds.M 0 (passed 7)) (ltb→lt square-bounds.E square-bounds.L (passed 8)))
          (below-square 512 _ _ tracks-square (leb→le (square-bounds.H + square-bounds.E) (512 * 512 * N) (passed 9)))

tested : Every (λ q. T (all (tests q)))
unfolding N above beneath the root root_in add sub sum neg round units span climb size odd of_fields of_bits fits lt eq
tested = (tt, tt, tt, tt, tt, tt)

pub sound-near : (altitude : Float) (t₀ p₀ : Reading) (h : Float) → let t = celsius places altitude t₀ in let p = hectopascals places altitude p₀ in Spec.InScope t p h → (s : Saturation (Spec.kelvin t)) (c : Fraction) → IsRoot c (squared_speed (Spec.kelvin t) (Spec.vapour t p h s))
    → IsNear 37 (atmosphere places altitude t₀ p₀ h).speed_of_sound_mps (of c)
unfolding atmosphere sound_speed
sound-near altitude T P h r s c is-root = by-celsius tests tested (celsius places altitude T) (λ q passed below range. speed_of q passed below altitude T P h range r.pressure r.humidity s c is-root) r.temperature

pub speed_exists : (t p h : Float) → Spec.InScope t p h → (s : Saturation (Spec.kelvin t)) → (c : Fraction) × IsRoot c (squared_speed (Spec.kelvin t) (Spec.vapour t p h s))
speed_exists t p h r s = by-celsius tests tested t (λ q passed below range. exists q passed below nought (Given t) (Given p) h range r.pressure r.humidity s) r.temperature
