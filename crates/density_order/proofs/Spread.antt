-- One metre of density altitude, from -500 to 3,000 m and at a temperature from -40 to 50 °C or at the standard one, is 2 ft of pressure altitude at least.
-- That survives the roundings, in the altitude in metres and in the base of the pressure's power. Assumes nothing.
use Rattle.density_order.proofs.Kit.{◌≡◌, refl, true, false, ℕ, ◌+◌, ◌-◌, ◌*◌, ◌^◌, ◌≤◌, arith, pos, negsuc, T, lit≤, Float, nan, inf, fin, binary64, of_bits, add, sub, mul, div, fits, lt, le, of_bits-fits, mul-fits, finite, decimal, one, ◌⊖◌, ◌⊗◌, ◌⊘◌, Reading, Given, FromLayer, foot, nws_feet, correction, pressure_altitude_feet, nws_base, correction-rises, Temperate, InRange, OneMetreApart}
use lib.Ieee.Positive.{above_of_le}
use Rattle.arithmetic.specs.Nearest.{units_of}
use Rattle.arithmetic.proofs.CommonDenominator.{above, beneath}
use Rattle.arithmetic.proofs.Sums.{sub-falls}
use Rattle.arithmetic.proofs.Counts.{over, under, Small, le-of-sides, small-between, below-large, above-large, gap-of-counts}
use Rattle.arithmetic.proofs.Near.{Step, step_pos}
use Rattle.arithmetic.proofs.Apart.{Apart, apart-lt, apart_weaker, sub-apart, sub-from-apart, mul-apart, div-apart}

-- ---- the step: 2 ^ -37, in units of 2 ^ -1074, which is that of the doubles below 2 ^ 16
unfoldable U : ℕ
U = 2 ^ 1037

step : Step U
unfolding U
step = (1037, lit≤ tt, refl)

-- the whole number n
abbrev whole : ℕ → ℕ
whole n = n * 2 ^ 37 * U

-- a reading that is a double, if it is one
abbrev pub ReadingFits : Reading → Type 0
ReadingFits (Given t) = T (fits binary64 t)
ReadingFits FromLayer = Unit {0}

-- ---- density altitudes
lowest-small : Small (whole 3000) (decimal "-500")
unfolding U of_bits fits
lowest-small = record { is_finite = tt; double = tt; size = lit≤ tt }

highest-small : Small (whole 3000) (decimal "3000")
unfolding U of_bits fits
highest-small = record { is_finite = tt; double = tt; size = lit≤ tt }

in_range-small : (d : Float) → T (fits binary64 d) → InRange d → Small (whole 3000) d
in_range-small d f r = small-between (decimal "-500") d (decimal "3000") f lowest-small highest-small r.bottom r.top

-- ---- the correction for the temperature, which rises with it: -6,600 ft at -40 °C, and 4,200 ft at 50 °C
coldest-small : Small (whole 6601) (correction (decimal "-40"))
unfolding U of_bits add sub mul div fits
coldest-small = record { is_finite = tt; double = tt; size = lit≤ tt }

hottest-small : Small (whole 6601) (correction (decimal "50"))
unfolding U of_bits add sub mul div fits
hottest-small = record { is_finite = tt; double = tt; size = lit≤ tt }

correction-small : (t : Float) → T (fits binary64 t) → Temperate (Given t) → Small (whole 6601) (correction t)
correction-small t f (cold, hot) =
    let coldest : Float = decimal "-40" in
    let hottest : Float = decimal "50" in
    small-between (correction coldest) (correction t) (correction hottest) (mul-fits binary64 _ _) coldest-small hottest-small
    (correction-rises coldest t (of_bits-fits binary64 0xc044000000000000) f cold) (correction-rises t hottest f (of_bits-fits binary64 0x4049000000000000) hot)

-- ---- the bases of two powers: from 1/2 to 2, y above x by one part in 2 ^ 18 at least
pub record Bases (x y : Float) : Type 0 where
  pub least : T (le (fin false 1 (negsuc 0)) x)
  pub order : T (le x y)
  pub most : T (le y (fin false 1 (pos 1)))
  pub ratio : units_of x * (2 ^ 18 + 1) ≤ units_of y * 2 ^ 18

abbrev half : Float
half = fin false 1 (negsuc 0)

one-small : Small (whole 1) one
unfolding U of_bits fits
one-small = record { is_finite = tt; double = tt; size = lit≤ tt }

-- 1 - q, for a q from -1/4 to 1/4
module _ (q : Float) (s : Small (2 ^ 35 * U) q) where
  base-least : T (le half (one ⊖ q))
  unfolding U of_bits sub fits
  base-least = sub-falls false 1 (pos 0) tt q half s.double tt (below-large 1 (negsuc 0) tt (lit≤ tt) q s)

  base-most : T (le (one ⊖ q) (fin false 1 (pos 1)))
  unfolding U of_bits sub fits
  base-most = sub-falls false 1 (pos 0) tt (fin true 1 (pos 0)) q tt s.double (above-large 1 (pos 0) tt (lit≤ tt) q s)

-- a base is above zero
base-sides : (x : Float) → T (finite x) → T (le half x) → (over x ≡ units_of x) × (under x ≡ 0)
unfolding above beneath
base-sides nan f h = absurd f
base-sides (inf s) f h = absurd f
base-sides (fin true m e) f h = absurd (above_of_le half (fin true m e) tt h)
base-sides (fin false m e) f h = (refl, refl)

module _ (d₁ d₂ : Float) (f₁ : T (fits binary64 d₁)) (f₂ : T (fits binary64 d₂)) (r₁ : InRange d₁) (r₂ : InRange d₂) (metre : OneMetreApart d₁ d₂) where
  metres : Apart (whole 1) (whole 3000) d₁ d₂
  unfolding U
  metres =
      let s₁ = in_range-small d₁ f₁ r₁ in
      let s₂ = in_range-small d₂ f₂ r₂ in
      record { lower = s₁; higher = s₂; gap = gap-of-counts d₁ d₂ (2 ^ 1074) s₁ s₂ metre }

  feet : Apart (whole 3) (whole 9843) (d₁ ⊘ foot) (d₂ ⊘ foot)
  unfolding of_bits
  feet = div-apart U (whole 3000) (whole 9843) 5490788665690108 (negsuc 53) step (omega arith) d₁ d₂ (omega arith) (omega arith) metres

  pressure-altitudes : (t : Reading) → ReadingFits t → Temperate t → Apart (whole 2) (whole (2 ^ 14)) (pressure_altitude_feet t d₁) (pressure_altitude_feet t d₂)
  unfolding of_bits add mul div
  pressure-altitudes (Given t) f mild =
      div-apart U (whole 16445) (whole (2 ^ 14)) 2787728169342336 (negsuc 50) step (omega arith) (d₁ ⊘ foot ⊖ correction t) (d₂ ⊘ foot ⊖ correction t) (omega arith) (omega arith)
      (sub-apart U step (whole 9843) (whole 6601) (whole 16445) (omega arith) (omega arith) {h = (3 * 2 ^ 37 - 2) * U} (d₁ ⊘ foot) (d₂ ⊘ foot) (correction t) (correction-small t f mild) (omega arith) feet)
  pressure-altitudes FromLayer f mild = apart_weaker (d₁ ⊘ foot) (d₂ ⊘ foot) (omega arith) (omega arith) feet

  -- ---- what the station is resolved from: its altitude in m, and the base of its pressure's power
  module _ (t : Reading) (f : ReadingFits t) (mild : Temperate t) where
    pub altitudes-apart : T (lt (pressure_altitude_feet t d₁ ⊗ foot) (pressure_altitude_feet t d₂ ⊗ foot))
    unfolding of_bits
    altitudes-apart =
        let h₁ : Float = pressure_altitude_feet t d₁ in
        let h₂ : Float = pressure_altitude_feet t d₂ in
        apart-lt (h₁ ⊗ foot) (h₂ ⊗ foot) (step_pos U step)
        (mul-apart U (whole (2 ^ 14)) (whole (2 ^ 14)) 5490788665690108 (negsuc 53) step (omega arith) h₁ h₂ (omega arith) (omega arith) (pressure-altitudes t f mild))

    quotients : Apart (2 ^ 20 * U) (2 ^ 35 * U) (pressure_altitude_feet t d₁ ⊘ nws_feet) (pressure_altitude_feet t d₂ ⊘ nws_feet)
    unfolding of_bits
    quotients =
        div-apart U (whole (2 ^ 14)) (2 ^ 35 * U) 2497376594742476 (negsuc 33) step (omega arith) (pressure_altitude_feet t d₁) (pressure_altitude_feet t d₂) (omega arith) (omega arith) (pressure-altitudes t f mild)

    pub bases-apart : Bases (nws_base (pressure_altitude_feet t d₂)) (nws_base (pressure_altitude_feet t d₁))
    bases-apart =
        let q₁ : Float = pressure_altitude_feet t d₁ ⊘ nws_feet in
        let q₂ : Float = pressure_altitude_feet t d₂ ⊘ nws_feet in
        let s₁ = quotients.lower in
        let s₂ = quotients.higher in
        let a = sub-from-apart U step (2 ^ 35 * U) (whole 1) (2 ^ 37 * U + 2 ^ 35 * U + U) (omega arith) (omega arith) {h = (2 ^ 20 - 2) * U} q₁ q₂ one one-small (omega arith) quotients in
        let x = base-sides (one ⊖ q₂) a.lower.is_finite (base-least q₂ s₂) in
        let y = base-sides (one ⊖ q₁) a.higher.is_finite (base-least q₁ s₁) in
        record {
          least = base-least q₂ s₂;
          order = le-of-sides (one ⊖ q₂) (one ⊖ q₁) a.lower a.higher (omega (arith, a.gap));
          most = base-most q₁ s₁;
          ratio = omega (arith, a.gap, a.lower.size, x.0, x.1, y.0, y.1);
        }
