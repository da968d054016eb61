-- The units of typed numbers: their names by the meaning of the reading, how many decimals a number in them has, and the reading of a number's count, the
-- double nearest to its exact value. Definitions only.
use Rattle.std.specs.Prelude.{ℕ, Bool, ◌||◌, cond, List, [], ◌∷◌, eqb, Float, ℤ, pos, ◌*ℤ◌, ◌-ℤ◌, length, Option, Some, None}
use Rattle.std.specs.Borrow.{Bor}
use Rattle.arithmetic.specs.Ascii.{ascii}
use Rattle.arithmetic.specs.Nearest.{nearest_ratio}
use Rattle.fields.specs.Fields.{altitude, temperature, humidity, density_altitude}
use Rattle.pages.specs.Characters.{same}
use Rattle.park_text.specs.declared.units.Unit.{Unit}
use Rattle.park_text.specs.declared.units.Unit.TheVariants.{Plain, Foot, Fahrenheit, Kelvin, Kilopascal, InchOfMercury}

-- ---- names
abbrev pub length_unit : List ℕ → Option Unit
length_unit w = cond (same w (ascii "m")) (Some Plain) (cond (same w (ascii "ft")) (Some Foot) None)

abbrev pub temperature_unit : List ℕ → Option Unit
temperature_unit w = cond (same w (ascii "C")) (Some Plain) (cond (same w (ascii "F")) (Some Fahrenheit) (cond (same w (ascii "K")) (Some Kelvin) None))

abbrev pub pressure_unit : List ℕ → Option Unit
pressure_unit w =
    cond (same w (ascii "hPa")) (Some Plain) (cond (same w (ascii "kPa")) (Some Kilopascal) (cond (same w (ascii "inHg")) (Some InchOfMercury) None))

abbrev pub humidity_unit : List ℕ → Option Unit
humidity_unit w = cond (same w (ascii "percent")) (Some Plain) (cond (same w (ascii "%")) (Some Plain) None)

-- the unit that a name of a table stands for
abbrev pub unit_in : List (Bor (List ℕ) × Unit) → List ℕ → Option Unit
unit_in [] w = None
unit_in (n ∷ names) w = cond (same w n.0.now) (Some n.1) (unit_in names w)

-- by meaning, for a value for each of length, temperature, humidity and pressure
abbrev pub is_length : ℕ → Bool
is_length m = eqb m altitude || eqb m density_altitude

abbrev pub by_quantity : {A : Type 0} → ℕ → A → A → A → A → A
by_quantity m l t h p = cond (is_length m) l (cond (eqb m temperature) t (cond (eqb m humidity) h p))

-- the unit that a name stands for; it needs not be written where it is the reading's own
unfoldable pub unit_named : ℕ → List ℕ → Option Unit
unit_named m w = cond (eqb (length w) 0) (Some Plain) (by_quantity m (length_unit w) (temperature_unit w) (humidity_unit w) (pressure_unit w))

-- ---- numbers
abbrev pub places_of : Unit → ℕ
places_of Plain = 3
places_of Foot = 3
places_of Fahrenheit = 3
places_of Kelvin = 3
places_of Kilopascal = 3
places_of InchOfMercury = 4

-- ---- the reading of n in units of the last decimal: a foot is 0.3048 m, °C is (°F − 32) · 5/9 or K − 273.15, a kilopascal 10 hPa, an inch of mercury
-- 33.8639 hPa
abbrev pub numerator_of : Unit → ℤ → ℤ
numerator_of Plain n = n
numerator_of Foot n = n *ℤ pos 3048
numerator_of Fahrenheit n = n -ℤ pos 32000
numerator_of Kelvin n = n -ℤ pos 273150
numerator_of Kilopascal n = n
numerator_of InchOfMercury n = n *ℤ pos 338639

abbrev pub denominator_of : Unit → ℕ
denominator_of Plain = 1000
denominator_of Foot = 10000000
denominator_of Fahrenheit = 1800
denominator_of Kelvin = 1000
denominator_of Kilopascal = 100
denominator_of InchOfMercury = 100000000

unfoldable pub reading_in : Unit → ℤ → Float
reading_in u n = nearest_ratio (numerator_of u n) (denominator_of u)
