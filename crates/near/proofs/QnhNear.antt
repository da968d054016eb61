-- The station pressure of a QNH is near the exact one. Assumes nothing.
use Rattle.near.proofs.Kit.{◌≡◌, refl, sym, ap, ap₂, ◌∙◌, subst, Bool, List, [], ◌∷◌, ◌*◌, ◌^◌, T, leb, leb→le, lit≤, Float, span, climb, size, odd, units, round, of_fields, of_bits, neg, mul, div, lt, eq, le, fits, decimal, ◌⊕◌, ◌⊗◌, ◌⊘◌, above, beneath, root, root_in, log_bits, word_of_units, antilog_root, antilog, Fraction, Exponent, of_double, pressure_exponent, power, layers, geopotential_height, ◌⊠◌, ◌÷◌, the, number, IsNear, Between, of, positive_part, IsPower, N, Bounds, Tracks, Term, given, ◌plus◌, ◌times◌, ◌by◌, analysed, none, ◌also◌, tracks, ranged, near_of, tracks-between, wider, widen, no_further, all, test, geopotential, exponent, Power, Window, exponent_of, base_bounds, PowerEnds, power_bounds, power-exists, tracks-constant-power, places}
use Rattle.arithmetic.proofs.Order.{le-trans-double}
use Rattle.atmosphere.specs.Station.{reduced_qnh}
use Rattle.exact.proofs.Terms.{num}
use Rattle.near.specs.Qnh as Spec
use Rattle.near.proofs.StandardTerms.{height, pressure_power, exponent-is}
use Rattle.near.proofs.StandardNear.{near, Low}

-- ---- the formula: of the QNH, and of the geopotential height and the inner power
abbrev setting : Term
setting = num "101325" by num "100" by given 0

abbrev at_station : Term
at_station = num "1" plus num "-0.0065" times given 0 by num "288.15" times given 1

abbrev station : Term
station = given 0 times given 1

-- ---- the inner power
abbrev inner_power : Power
inner_power = record { M = (of_double (decimal "1" ⊘ pressure_exponent (decimal "-0.0065"))).magnitude; Q = Spec.setting_exponent; i = 4; j = 21; whole = 1 }

inner-is : of_double (decimal "1" ⊘ pressure_exponent (decimal "-0.0065")) ≡ exponent_of inner_power
unfolding neg mul div round units span climb size odd of_fields of_bits
inner-is = refl

abbrev inner_window : Window
inner_window = record { c = 17; lo = decimal "0.92"; hi = decimal "2.03"; error = 775; bottom = decimal "0.98"; top = decimal "1.145" }

inner-ends : PowerEnds inner_power inner_window
unfolding power antilog antilog_root root root_in word_of_units log_bits round units size span climb odd of_fields of_bits le lt eq neg mul div
inner-ends = record { least = tt; most = tt }

abbrev outer_window : Window
outer_window = record { c = 3; lo = decimal "0.87"; hi = decimal "1.13"; error = 472; bottom = decimal "0.48"; top = decimal "1.91" }

outer-ends : PowerEnds pressure_power outer_window
unfolding power antilog antilog_root root root_in word_of_units log_bits round units size span climb odd of_fields of_bits le lt eq neg mul div
outer-ends = record { least = tt; most = tt }

-- ---- the bounds
abbrev settings : Bounds
settings = ranged (decimal "500") (decimal "1100") 0

abbrev altitudes : Bounds
altitudes = ranged (decimal "-500") (decimal "5000") 0

-- 11 * 2^-42 m from the exact one: wider than the analysis, so that what follows does not compute it again
abbrev heights : Bounds
heights = ranged (decimal "-5001") (decimal "5001") (11 * 2 ^ 1032)

abbrev bases : Bounds
bases = analysed (settings ∷ []) setting

abbrev inners : Bounds
inners = power_bounds inner_power inner_window

abbrev outer-bases : Bounds
outer-bases = analysed (heights ∷ inners ∷ []) at_station

abbrev outers : Bounds
outers = power_bounds pressure_power outer_window

abbrev stations : Bounds
stations = analysed (settings ∷ outers ∷ []) station

abbrev tests : List Bool
tests =
    bases.good ∷ all (wider bases (base_bounds inner_window)) ∷ inners.good ∷ outer-bases.good ∷ all (wider outer-bases (base_bounds outer_window)) ∷ outers.good ∷ stations.good ∷ leb (stations.E * 2 ^ 37) N ∷ (analysed (altitudes ∷ []) height).good ∷ all (wider (analysed (altitudes ∷ []) height) heights) ∷ []

passed : T (all tests)
unfolding exponent Spec.setting_exponent ◌⊠◌ ◌÷◌ N above beneath the span climb size odd units round of_fields of_bits neg mul div fits le lt eq
passed = tt

-- ---- a QNH and an altitude
module _ (qnh h : Float) (qnh-range : Between (decimal "500") (decimal "1100") qnh) (h-range : Between (decimal "-500") (decimal "5000") h) where
  tracks-qnh : Tracks settings qnh (number qnh)
  unfolding above beneath of_bits fits
  tracks-qnh = tracks-between (decimal "500") (decimal "1100") qnh tt qnh-range

  tracks-h : Tracks altitudes h (number h)
  unfolding above beneath of_bits fits
  tracks-h = tracks-between (decimal "-500") (decimal "5000") h tt h-range

  tracks-H : Tracks heights (geopotential_height h) (geopotential (number h))
  unfolding geopotential
  tracks-H = widen _ _ (test tests 9 passed) (tracks (tracks-h also none) height (test tests 8 passed))

  abbrev base : Float
  base = decimal "101325" ⊘ decimal "100" ⊘ qnh

  tracks-base : Tracks (base_bounds inner_window) base (Spec.setting (number qnh))
  unfolding Spec.setting the ◌÷◌
  tracks-base = widen _ _ (test tests 1 passed) (tracks (tracks-qnh also none) setting (test tests 0 passed))

  abbrev inner : Float
  inner = power 60 (exponent_of inner_power) base

  abbrev outer-base : Float
  outer-base = decimal "1" ⊕ decimal "-0.0065" ⊗ geopotential_height h ⊘ decimal "288.15" ⊗ inner

  module _ (s : Fraction) (is-inner : IsPower (positive_part (Spec.setting (number qnh))) Spec.setting_exponent s) where
    tracks-inner : Tracks inners inner (of s)
    tracks-inner = tracks-constant-power inner_power inner_window (test tests 2 passed) inner-ends base (Spec.setting (number qnh)) tracks-base s is-inner

    tracks-outer-base : Tracks (base_bounds outer_window) outer-base (Spec.reduced_ratio (number h) s)
    unfolding Spec.reduced_ratio
    tracks-outer-base = widen _ _ (test tests 4 passed) (tracks (tracks-H also tracks-inner also none) at_station (test tests 3 passed))

  abbrev outer : Float
  outer = power 60 (exponent_of pressure_power) outer-base

  reducing : Exponent → Exponent → Float → Float
  reducing q n H = qnh ⊗ power 60 q (decimal "1" ⊕ decimal "-0.0065" ⊗ H ⊘ decimal "288.15" ⊗ power 60 n base)

  low : Low h
  unfolding of_bits fits le lt eq
  low = record { double = h-range.double; low = h-range.low; high = le-trans-double h (decimal "5000") (decimal "11000") h-range.double tt tt h-range.high tt }

  is-reduced : reduced_qnh 60 qnh h ≡ qnh ⊗ outer
  unfolding reducing layers
  is-reduced = ap (reducing (of_double (pressure_exponent (decimal "-0.0065"))) (of_double (decimal "1" ⊘ pressure_exponent (decimal "-0.0065")))) (near h low).height-kept ∙ ap₂ (λ (q n : Exponent). reducing q n (geopotential_height h)) exponent-is inner-is

  tracks-station : (r : Spec.Reduction (number qnh) (number h)) → Tracks stations (qnh ⊗ outer) (Spec.station_hpa r)
  tracks-station r =
      tracks
      (tracks-qnh also tracks-constant-power pressure_power outer_window (test tests 5 passed) outer-ends outer-base (Spec.reduced_ratio (number h) r.inner) (tracks-outer-base r.inner r.is_inner) r.outer r.is_outer also none)
      station (test tests 6 passed)

  pub reduced-near : (r : Spec.Reduction (number qnh) (number h)) → IsNear 37 (reduced_qnh 60 qnh h) (Spec.station_hpa r)
  reduced-near r = subst (λ (z : Float). IsNear 37 z (Spec.station_hpa r)) (sym is-reduced) (near_of 37 _ _ (leb→le (stations.E * 2 ^ 37) N (test tests 7 passed)) (tracks-station r))

  pub reduction : Spec.Reduction (number qnh) (number h)
  reduction =
      let s = power-exists inner_power inner_window (test tests 2 passed) base (Spec.setting (number qnh)) tracks-base in
      let r = power-exists pressure_power outer_window (test tests 5 passed) outer-base (Spec.reduced_ratio (number h) s.0) (tracks-outer-base s.0 s.1) in
      record { inner = s.0; is_inner = s.1; outer = r.0; is_outer = r.1 }

pub record QnhNear : Type 0 where
  -- 2 ^ -37 hPa is 7.3e-12 hPa
  pub reduced : (qnh h : Float) → Between (decimal "500") (decimal "1100") qnh → Between (decimal "-500") (decimal "5000") h → (r : Spec.Reduction (number qnh) (number h)) → IsNear 37 (reduced_qnh places qnh h) (Spec.station_hpa r)
  -- there are such fractions
  pub reductions : (qnh h : Float) → Between (decimal "500") (decimal "1100") qnh → Between (decimal "-500") (decimal "5000") h → Spec.Reduction (number qnh) (number h)

pub qnh-near : QnhNear
qnh-near = record { reduced = λ qnh h q-range h-range r. no_further _ 37 _ _ (lit≤ tt) (reduced-near qnh h q-range h-range r); reductions = reduction }
