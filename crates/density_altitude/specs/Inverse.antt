-- The FAA's rule turned round: the station that has a given density altitude d, in m, at a given temperature t in °C or at the standard one. Constants and
-- rounding order are those of src/atmosphere.rs; `places` is the number of places of power. Definitions only.
use Rattle.std.specs.Prelude.{ℕ, Bool, not, ◌&&◌, List, [], ◌∷◌, ◌++◌, Float}
use Rattle.std.specs.Float.Ieee.{le}
use Rattle.refusal.specs.Outcomes.{Outcome, accepted, Row, row, ◌then◌}
use Rattle.arithmetic.specs.Decimals.{decimal, nought, one}
use Rattle.arithmetic.specs.Operators.{◌⊕◌, ◌⊖◌, ◌⊗◌, ◌⊘◌}
use Rattle.elementary.specs.Exponents.{Exponent, of_double, nws_exponent}
use Rattle.elementary.specs.Power.{power}
use Rattle.atmosphere.specs.declared.given.Reading.{Reading}
use Rattle.atmosphere.specs.declared.given.Reading.TheVariants.{Given, FromLayer}
use Rattle.arithmetic.specs.Doubles.{is_finite, is_finite_above}
use Rattle.atmosphere.specs.Station.{standard_pressure}
use Rattle.atmosphere.specs.Altitudes.{foot, nws_feet, sea_level_fahrenheit, thousand, fahrenheit_per_thousand_feet, feet_per_degree, standard_fahrenheit}
use Rattle.refusal.specs.declared.inverse.Station.{Station}

-- ---- the pressure altitude h in ft
-- The FAA's rule is d = h + K (t - (59 - 3.57 h / 1000)), with t in °F and K its feet for each degree. So h is (d - K (t - 59)) / (1 + K 3.57 / 1000).
-- At the standard temperature the rule's correction is nought, and h is d.
abbrev pub fahrenheit : Float → Float
fahrenheit t = t ⊗ decimal "9" ⊘ decimal "5" ⊕ decimal "32"

-- K (t - 59)
abbrev pub correction : Float → Float
correction t = feet_per_degree ⊗ (fahrenheit t ⊖ sea_level_fahrenheit)

-- 1 + K 3.57 / 1000
abbrev pub steepness : Float
steepness = one ⊕ feet_per_degree ⊗ fahrenheit_per_thousand_feet ⊘ thousand

abbrev pub pressure_altitude_feet : Reading → Float → Float
pressure_altitude_feet (Given t) d = (d ⊘ foot ⊖ correction t) ⊘ steepness
pressure_altitude_feet FromLayer d = d ⊘ foot

-- ---- the station at h ft
-- the temperature that is given, or the standard one: (F - 32) 5 / 9
abbrev pub station_celsius : Reading → Float → Float
station_celsius (Given t) h = t
station_celsius FromLayer h = (standard_fahrenheit h ⊖ decimal "32") ⊗ decimal "5" ⊘ decimal "9"

-- the National Weather Service's formula turned round: p = 1013.25 hPa (1 - h / 145366.45)^(1 / 0.190284)
abbrev pub nws_base : Float → Float
nws_base h = one ⊖ h ⊘ nws_feet

abbrev pub nws_reciprocal : Exponent
nws_reciprocal = of_double (one ⊘ nws_exponent)

abbrev pub nws_pressure : ℕ → Float → Float
nws_pressure places h = standard_pressure ⊗ power places nws_reciprocal (nws_base h)

abbrev pub station_with : ℕ → Float → Float → Station
station_with places h t = record { altitude_m = h ⊗ foot; temperature_c = t; pressure_hpa = nws_pressure places h }

abbrev pub resolve : ℕ → Float → Reading → Station
resolve places d t = let h = pressure_altitude_feet t d in station_with places h (station_celsius t h)

-- ---- document 01's table: the rows of the causes 1 to 4, in the order in which they are checked
-- in °C
abbrev pub absolute_zero : Float
absolute_zero = decimal "-273.15"

-- 2: temperature not finite. 3: temperature ≤ -273.15
abbrev pub temperature_rows : Float → List Row
temperature_rows t = row (not (is_finite t)) 2 (t ∷ []) ∷ row (le t absolute_zero) 3 (t ∷ []) ∷ []

abbrev pub given_rows : Reading → List Row
given_rows (Given t) = temperature_rows t
given_rows FromLayer = []

-- 1: density altitude not finite
abbrev pub input_rows : Float → Reading → List Row
input_rows d t = row (not (is_finite d)) 1 (d ∷ []) ∷ given_rows t

-- 4: resolved altitude, pressure or temperature not finite, pressure ≤ 0 or temperature ≤ -273.15
abbrev pub has_air : Station → Bool
has_air s = is_finite s.altitude_m && (is_finite_above nought s.pressure_hpa && is_finite_above absolute_zero s.temperature_c)

abbrev pub resolved_rows : Float → Station → List Row
resolved_rows d s = row (not (has_air s)) 4 (d ∷ s.altitude_m ∷ []) ∷ []

abbrev pub station_rows : ℕ → Float → Reading → List Row
station_rows places d t = input_rows d t ++ resolved_rows d (resolve places d t)

unfoldable pub station : ℕ → Float → Reading → Outcome Station
station places d t = station_rows places d t then accepted (resolve places d t)
