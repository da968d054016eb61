-- The pressure altitude is near the exact one, in two parts: up to 1,000 hPa, and from there. Assumes nothing.
use Rattle.near.proofs.Kit.{◌≡◌, refl, sym, ap, ◌∙◌, subst, Bool, ◌&&◌, ◌||◌, cond, List, [], ◌∷◌, ◌*◌, ◌^◌, T, leb, leb→le, lit≤, Float, span, climb, size, odd, units, round, of_fields, of_bits, lt, eq, le, is_nan, fits, and_i, decimal, ◌⊖◌, ◌⊗◌, ◌⊘◌, above, beneath, root, root_in, log_bits, word_of_units, antilog_root, antilog, Exponent, of_double, power, lowest_height, the, number, IsNear, Between, N, Bounds, Tracks, Term, given, ◌minus◌, ◌times◌, ◌by◌, analysed, none, ◌also◌, tracks, ranged, near_of, ends, tracks-between, wider, widen, no_further, all, test, side, taken_or, inside, tracks-inside, Power, Window, exponent_of, base_bounds, PowerEnds, power_bounds, power-exists, tracks-constant-power, places}
use Rattle.atmosphere.specs.Altitudes.{tropopause, height_of_pressure, pressure_altitude}
use Rattle.exact.proofs.Terms.{num}
use Rattle.near.specs.PressureAltitude as Spec

-- ---- the formula, of a pressure and of the power
abbrev pressure_ratio : Term
pressure_ratio = given 0 by num "1013.25"

abbrev metres : Term
metres = num "145366.45" times (num "1" minus given 0) times num "0.3048"

abbrev nws_power : Power
nws_power = record { M = (of_double (decimal "0.190284")).magnitude; Q = the "0.190284"; i = 4; j = 21; whole = 1 }

exponent-is : of_double (decimal "0.190284") ≡ exponent_of nws_power
unfolding odd of_fields of_bits
exponent-is = refl

-- ---- between two ends
record Near (p : Float) : Type 0 where
  altitude-near : (r : Spec.RaisedPressure (number p)) → IsNear 36 (pressure_altitude 60 p) (Spec.exact_nws_altitude r)
  power-there : Spec.RaisedPressure (number p)

module _ (lo hi : Float) (w : Window) where
  abbrev ratios : Bounds
  ratios = analysed (ranged lo hi 0 ∷ []) pressure_ratio

  abbrev powers : Bounds
  powers = power_bounds nws_power w

  abbrev altitudes : Bounds
  altitudes = analysed (powers ∷ []) metres

  abbrev tests : List Bool
  tests =
      all (ends lo hi) ∷ ratios.good ∷ all (wider ratios (base_bounds w)) ∷ powers.good ∷ altitudes.good ∷ leb (altitudes.E * 2 ^ 36) N ∷ inside lowest_height tropopause altitudes ∷ []

  module _ (passed : T (all tests)) (at-ends : PowerEnds nws_power w) (p : Float) (range : Between lo hi p) where
    abbrev x : Float
    x = p ⊘ decimal "1013.25"

    tracks-x : Tracks (base_bounds w) x (Spec.pressure_ratio (number p))
    unfolding Spec.pressure_ratio
    tracks-x = widen _ _ (test tests 2 passed) (tracks (tracks-between lo hi p (test tests 0 passed) range also none) pressure_ratio (test tests 1 passed))

    abbrev h : Float
    h = decimal "145366.45" ⊗ (decimal "1" ⊖ power 60 (exponent_of nws_power) x) ⊗ decimal "0.3048"

    module _ (r : Spec.RaisedPressure (number p)) where
      tracks-h : Tracks altitudes h (Spec.exact_nws_altitude r)
      tracks-h = tracks (tracks-constant-power nws_power w (test tests 3 passed) at-ends x (Spec.pressure_ratio (number p)) tracks-x r.power r.is_power also none) metres (test tests 4 passed)

      kept : Between lowest_height tropopause h
      unfolding of_bits fits
      kept = tracks-inside h _ tracks-h lowest_height tropopause tt tt tt tt (test tests 6 passed)

      is-h : pressure_altitude 60 p ≡ h
      unfolding pressure_altitude
      is-h = ap (λ (q : Exponent). chosen (decimal "145366.45" ⊗ (decimal "1" ⊖ power 60 q x) ⊗ decimal "0.3048")) exponent-is ∙ taken_or h (height_of_pressure 60 (p ⊗ decimal "100")) (is_nan h) (le lowest_height h && le h tropopause) (and_i (le lowest_height h) (le h tropopause) kept.low kept.high)
        where
          chosen : Float → Float
          chosen z = cond (is_nan z || (le lowest_height z && le z tropopause)) z (height_of_pressure 60 (p ⊗ decimal "100"))

      near : IsNear 36 (pressure_altitude 60 p) (Spec.exact_nws_altitude r)
      near = subst (λ (z : Float). IsNear 36 z (Spec.exact_nws_altitude r)) (sym is-h) (near_of 36 _ _ (leb→le (altitudes.E * 2 ^ 36) N (test tests 5 passed)) tracks-h)

    between-near : Near p
    between-near =
        let r = power-exists nws_power w (test tests 3 passed) x (Spec.pressure_ratio (number p)) tracks-x in
        record { altitude-near = near; power-there = record { power = r.0; is_power = r.1 } }

-- ---- the two parts
abbrev window_1 : Window
window_1 = record { c = 17; lo = decimal "0.4934"; hi = decimal "0.987"; error = 129; bottom = decimal "0.874"; top = decimal "0.9976" }

abbrev window_2 : Window
window_2 = record { c = 2; lo = decimal "0.9869"; hi = decimal "1.0857"; error = 257; bottom = decimal "0.997"; top = decimal "1.016" }

both_ends : PowerEnds nws_power window_1 × PowerEnds nws_power window_2
unfolding power antilog antilog_root root root_in word_of_units log_bits round units size span climb odd of_fields of_bits le lt eq
both_ends = (record { least = tt; most = tt }, record { least = tt; most = tt })

both-passed : T (all (tests (decimal "500") (decimal "1000") window_1)) × T (all (tests (decimal "1000") (decimal "1100") window_2))
unfolding N above beneath the span climb size odd units round of_fields of_bits fits le lt eq
both-passed = (tt, tt)

both-near : (p : Float) → Between (decimal "500") (decimal "1100") p → Near p
unfolding of_bits le lt eq
both-near p = side p (decimal "500") (decimal "1000") (decimal "1100") tt (between-near (decimal "500") (decimal "1000") window_1 both-passed.0 both_ends.0 p) (between-near (decimal "1000") (decimal "1100") window_2 both-passed.1 both_ends.1 p)

pub metres-near : (p : Float) → Between (decimal "500") (decimal "1100") p → (r : Spec.RaisedPressure (number p)) → IsNear 36 (pressure_altitude 60 p) (Spec.exact_nws_altitude r)
metres-near p range = (both-near p range).altitude-near

pub record PressureAltitudeNear : Type 0 where
  -- 2 ^ -36 m is 1.5e-11 m
  pub metres : (p : Float) → Between (decimal "500") (decimal "1100") p → (r : Spec.RaisedPressure (number p)) → IsNear 36 (pressure_altitude places p) (Spec.exact_nws_altitude r)
  -- there are such fractions
  pub powers : (p : Float) → Between (decimal "500") (decimal "1100") p → Spec.RaisedPressure (number p)

pub pressure_altitude-near : PressureAltitudeNear
pressure_altitude-near = record { metres = λ p range r. no_further _ 36 _ _ (lit≤ tt) (metres-near p range r); powers = λ p range. (both-near p range).power-there }
