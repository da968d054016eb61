-- Each figure of the resolved station keeps or turns the order of the density altitudes or of the temperatures, infinities included: every step is one rounded operation with the
-- other operand fixed. Assumes nothing.
use Rattle.arithmetic.proofs.Kit.{refl, true, false, ℕ, pos, negsuc, T, Float, nan, inf, fin, binary64, of_bits, neg, add, sub, mul, div, fits, le, sub-fits, mul-fits, div-fits}
use lib.Ieee.Fits.{add-fits}
use Rattle.arithmetic.specs.Decimals.{decimal}
use Rattle.arithmetic.specs.Operators.{◌⊖◌, ◌⊗◌, ◌⊘◌}
use Rattle.arithmetic.proofs.Order.{Rises}
use Rattle.elementary.proofs.Rises.{power-rises, power-fits}
use Rattle.arithmetic.proofs.Sums.{add-rises, sub-falls, sub-rises}
use Rattle.arithmetic.proofs.Products.{mul-rises, mul-by-rises, div-rises}
use Rattle.atmosphere.specs.declared.given.Reading.{Reading}
use Rattle.atmosphere.specs.declared.given.Reading.TheVariants.{Given, FromLayer}
use Rattle.arithmetic.specs.Doubles.{is_finite}
use Rattle.atmosphere.specs.Altitudes.{foot, sea_level_fahrenheit, standard_fahrenheit}
use Rattle.atmosphere.proofs.AltitudeOrder.{Falls, standard_falls}
use Rattle.density_altitude.specs.Inverse.{fahrenheit, correction, steepness, pressure_altitude_feet, station_celsius, nws_base, nws_reciprocal, nws_pressure}

-- ---- the correction for a temperature
pub correction-rises : Rises correction
unfolding of_bits mul div fits
correction-rises t u f g h =
    let n : Float = decimal "9" in
    let d : Float = decimal "5" in
    let ice : Float = decimal "32" in
    mul-by-rises 4691249611844266 (negsuc 45) (fahrenheit t ⊖ sea_level_fahrenheit) (fahrenheit u ⊖ sea_level_fahrenheit) (sub-fits binary64 _ _) (sub-fits binary64 _ _)
    (sub-rises false 59 (pos 0) tt (fahrenheit t) (fahrenheit u) (add-fits binary64 (t ⊗ n ⊘ d) ice) (add-fits binary64 (u ⊗ n ⊘ d) ice)
    (add-rises false 1 (pos 5) tt (t ⊗ n ⊘ d) (u ⊗ n ⊘ d) (div-fits binary64 (t ⊗ n) d) (div-fits binary64 (u ⊗ n) d)
    (div-rises 4 (pos 0) (t ⊗ n) (u ⊗ n) (mul-fits binary64 t n) (mul-fits binary64 u n) (mul-rises 8 (pos 0) t u f g h))))

-- ---- the pressure altitude, where the correction is finite
abbrev pub Corrected : Reading → Type 0
Corrected (Given t) = T (is_finite (correction t))
Corrected FromLayer = Unit {0}

in_feet-rises : Rises (λ d. d ⊘ foot)
unfolding of_bits
in_feet-rises = div-rises 5490788665690108 (negsuc 53)

by-steepness-rises : Rises (λ x. x ⊘ steepness)
unfolding of_bits add mul div
by-steepness-rises = div-rises 2787728169342336 (negsuc 50)

less-rises : (c : Float) → T (is_finite c) → T (fits binary64 c) → Rises (λ x. x ⊖ c)
unfolding is_finite
less-rises nan u f = absurd u
less-rises (inf s) u f = absurd u
less-rises (fin s m e) u f = sub-rises s m e f

less-falls : (x : Float) → T (is_finite x) → T (fits binary64 x) → Falls (λ c. x ⊖ c)
unfolding is_finite
less-falls nan u f = absurd u
less-falls (inf s) u f = absurd u
less-falls (fin s m e) u f = sub-falls s m e f

-- a finite altitude tells that what it is computed from is finite
of-product : (x : Float) → T (is_finite (x ⊗ foot)) → T (is_finite x)
unfolding is_finite of_bits mul
of-product nan u = u
of-product (inf s) u = u
of-product (fin s m e) u = tt

of-quotient : (x : Float) → T (is_finite (x ⊘ steepness)) → T (is_finite x)
unfolding is_finite of_bits add mul div
of-quotient nan u = u
of-quotient (inf s) u = u
of-quotient (fin s m e) u = tt

of_difference : (x c : Float) → T (is_finite (x ⊖ c)) → T (is_finite x) × T (is_finite c)
unfolding is_finite add sub neg
of_difference nan c u = absurd u
of_difference (inf s) nan u = absurd u
of_difference (inf true) (inf true) u = absurd u
of_difference (inf true) (inf false) u = absurd u
of_difference (inf false) (inf true) u = absurd u
of_difference (inf false) (inf false) u = absurd u
of_difference (inf s) (fin t n d) u = absurd u
of_difference (fin s m e) nan u = absurd u
of_difference (fin s m e) (inf t) u = absurd u
of_difference (fin s m e) (fin t n d) u = (tt, tt)

pub corrected-finite : (t d : Float) → T (is_finite (pressure_altitude_feet (Given t) d ⊗ foot)) → T (is_finite (d ⊘ foot)) × T (is_finite (correction t))
corrected-finite t d u = of_difference (d ⊘ foot) (correction t) (of-quotient (d ⊘ foot ⊖ correction t) (of-product ((d ⊘ foot ⊖ correction t) ⊘ steepness) u))

-- it rises with the density altitude, and falls with the temperature
pub pressure_altitude-rises : (t : Reading) → Corrected t → Rises (pressure_altitude_feet t)
pressure_altitude-rises FromLayer u d c f g h = in_feet-rises d c f g h
pressure_altitude-rises (Given t) u d c f g h =
    by-steepness-rises (d ⊘ foot ⊖ correction t) (c ⊘ foot ⊖ correction t) (sub-fits binary64 _ _) (sub-fits binary64 _ _)
    (less-rises (correction t) u (mul-fits binary64 _ _) (d ⊘ foot) (c ⊘ foot) (div-fits binary64 _ _) (div-fits binary64 _ _) (in_feet-rises d c f g h))

pub pressure_altitude-falls : (d : Float) → T (is_finite (d ⊘ foot)) → Falls (λ t. pressure_altitude_feet (Given t) d)
pressure_altitude-falls d u x y f g h =
    by-steepness-rises (d ⊘ foot ⊖ correction y) (d ⊘ foot ⊖ correction x) (sub-fits binary64 _ _) (sub-fits binary64 _ _)
    (less-falls (d ⊘ foot) u (div-fits binary64 _ _) (correction x) (correction y) (mul-fits binary64 _ _) (mul-fits binary64 _ _) (correction-rises x y f g h))

pub pressure_altitude-fits : (t : Reading) (d : Float) → T (fits binary64 (pressure_altitude_feet t d))
pressure_altitude-fits (Given t) d = div-fits binary64 _ _
pressure_altitude-fits FromLayer d = div-fits binary64 _ _

-- ---- the altitude
pub altitude-rises : Rises (λ h. h ⊗ foot)
unfolding of_bits
altitude-rises = mul-rises 5490788665690108 (negsuc 53)

-- ---- the standard temperature
celsius-rises : Rises (λ F. (F ⊖ decimal "32") ⊗ decimal "5" ⊘ decimal "9")
unfolding of_bits fits
celsius-rises x y f g h =
    div-rises 8 (pos 0) _ _ (mul-fits binary64 _ _) (mul-fits binary64 _ _) (mul-rises 4 (pos 0) _ _ (sub-fits binary64 _ _) (sub-fits binary64 _ _) (sub-rises false 1 (pos 5) tt x y f g h))

pub temperature-falls : Falls (λ d. station_celsius FromLayer (d ⊘ foot))
temperature-falls d c f g l =
    celsius-rises (standard_fahrenheit (c ⊘ foot)) (standard_fahrenheit (d ⊘ foot)) (sub-fits binary64 _ _) (sub-fits binary64 _ _)
    (standard_falls (d ⊘ foot) (c ⊘ foot) (div-fits binary64 _ _) (div-fits binary64 _ _) (in_feet-rises d c f g l))

-- ---- the pressure, where the power's base is not below zero
pub base-falls : Falls nws_base
unfolding of_bits fits
base-falls h k f g l = sub-falls false 1 (pos 0) tt _ _ (div-fits binary64 h _) (div-fits binary64 k _) (div-rises 2497376594742476 (negsuc 33) h k f g l)

pub pressure-falls : (p : ℕ) (h k : Float) → T (fits binary64 h) → T (fits binary64 k) → T (le h k) → T (le (fin false 0 (pos 0)) (nws_base k)) → T (le (nws_pressure p k) (nws_pressure p h))
unfolding of_bits div
pressure-falls p h k f g l z =
    mul-by-rises 4052 (negsuc 1) _ _ (power-fits p nws_reciprocal (nws_base k)) (power-fits p nws_reciprocal (nws_base h))
    (power-rises p nws_reciprocal refl (nws_base k) (nws_base h) (sub-fits binary64 _ _) (sub-fits binary64 _ _) z (base-falls h k f g l))
