-- Pressure altitude and density altitude: the National Weather Service's formula, the FAA's rule, and the heights of a pressure
-- and of a density in the layers of ICAO Doc 7488, Manual of the ICAO Standard Atmosphere. The manual and the FAA's publications are cited without
-- sections, which were not at hand. Constants and rounding order are those of src/atmosphere.rs; places is the number of places of exp, ln and power.
-- Definitions only.
use Rattle.std.specs.Prelude.{ℕ, zero, suc, ◌&&◌, ◌||◌, cond, Float}
use Rattle.std.specs.Float.Ieee.{neg, le, is_nan}
use Rattle.arithmetic.specs.Decimals.{decimal, one, hundred}
use Rattle.arithmetic.specs.Operators.{◌⊕◌, ◌⊖◌, ◌⊗◌, ◌⊘◌}
use Rattle.elementary.specs.Exponents.{of_double, g₀, Rd, lapse, pressure_exponent, temperature_exponent, density_exponent, troposphere_exponent, nws_exponent}
use Rattle.elementary.specs.Power.{power}
use Rattle.elementary.specs.Exp.{exp}
use Rattle.elementary.specs.Ln.{ln}
use Rattle.atmosphere.specs.Layers.{lowest_height, first_from, base_height, base_temperature, base_pressure, gradient, isothermal}
use Rattle.atmosphere.specs.Station.{standard_pressure}

-- ---- National Weather Service, "Pressure Altitude" (weather.gov/media/epz/wxcalc/pressureAltitude.pdf), of a station pressure p in hPa
-- h = 145366.45 ft (1 - (p / 1013.25)^n), with the exponent n = 0.190284 of elementary's table
abbrev pub nws_feet : Float
nws_feet = decimal "145366.45"

abbrev pub nws_altitude : ℕ → Float → Float
nws_altitude places p = nws_feet ⊗ (one ⊖ power places (of_double nws_exponent) (p ⊘ standard_pressure))

-- ---- the FAA's rule, of a station pressure p in hPa and a temperature t in °F
-- the standard temperature at h feet, in °F: 59 - 3.57 h / 1000
abbrev pub sea_level_fahrenheit : Float
sea_level_fahrenheit = decimal "59"

abbrev pub thousand : Float
thousand = decimal "1000"

abbrev pub fahrenheit_per_thousand_feet : Float
fahrenheit_per_thousand_feet = decimal "3.57"

abbrev pub standard_fahrenheit : Float → Float
standard_fahrenheit h = sea_level_fahrenheit ⊖ h ⊘ thousand ⊗ fahrenheit_per_thousand_feet

-- 120 ft for each °C, which is 120 * 5 / 9 for each °F
abbrev pub feet_per_degree : Float
feet_per_degree = decimal "120" ⊗ decimal "5" ⊘ decimal "9"

abbrev pub faa_density_altitude : ℕ → Float → Float → Float
faa_density_altitude places p t = let h = nws_altitude places p in h ⊕ feet_per_degree ⊗ (t ⊖ standard_fahrenheit h)

-- ---- Doc 7488, a layer from its base to its top, the next layer's base
abbrev pub thickness : ℕ → Float
thickness i = base_height (suc i) ⊖ base_height i

-- the scale height, R T_b / g₀
abbrev pub scale_height : ℕ → Float
scale_height i = Rd ⊗ base_temperature i ⊘ g₀

-- what a pressure or a density at the base is multiplied by at the top: exp (-ΔH / scale height) without a gradient, and with one the q-th power of
-- the temperatures' ratio, 1 + β ΔH / T_b
abbrev pub across : ℕ → Float → ℕ → Float
across places q i =
    cond (isothermal i) (exp places (neg (thickness i) ⊘ scale_height i)) (power places (of_double q) (one ⊕ gradient i ⊗ thickness i ⊘ base_temperature i))

-- the first at whose top the value, which falls with height, is at most x; NaN is left to the last
abbrev pub layer_from : (ℕ → Float) → ℕ → ℕ → Float → ℕ
layer_from value n i x = first_from (λ (j : ℕ). le (value (suc j)) x) n i

-- The height in layer i of the value x, where it is b at the base: H_b + scale height ln (b / x) without a gradient. With one it is
-- H_b + (T - T_b) / β at the temperature T = T_b (x / b)^q, of which `raised` is the power.
abbrev pub height_in : ℕ → (Float → Float) → ℕ → Float → Float → Float
height_in places raised i b x =
    cond (isothermal i) (base_height i ⊕ scale_height i ⊗ ln places (b ⊘ x)) (base_height i ⊕ (base_temperature i ⊗ raised (x ⊘ b) ⊖ base_temperature i) ⊘ gradient i)

-- The height of the value x, in the first layer that has it of the layers i, i + 1, .., i + n: by the values at the bases and the layers' powers.
abbrev pub height_from : ℕ → (ℕ → Float → Float) → (ℕ → Float) → ℕ → ℕ → Float → Float
height_from places raised value n i x = let j = layer_from value n i x in height_in places (raised j) j (value j) x

-- ---- the height of a pressure in Pa
-- the base pressures, each chained from the one below by the layer's formula, with the exponent -g₀ / (β R); they are not the rounded p_b of the table
unfoldable pub chained_pressure : ℕ → ℕ → Float
chained_pressure places zero = base_pressure 0
chained_pressure places (suc i) = chained_pressure places i ⊗ across places (pressure_exponent (gradient i)) i

-- the other way with the exponent -β R / g₀
unfoldable pub height_of_pressure : ℕ → Float → Float
height_of_pressure places p = height_from places (λ (i : ℕ). power places (of_double (temperature_exponent (gradient i)))) (chained_pressure places) 6 0 p

-- ---- the pressure altitude of a station pressure p in hPa
-- the top of the troposphere, in m
abbrev pub tropopause : Float
tropopause = decimal "11000"

-- a foot, in m
abbrev pub foot : Float
foot = decimal "0.3048"

-- the National Weather Service's from -5,000 m to 11,000 m, both included, and where it is NaN; else the height in the layers
unfoldable pub pressure_altitude : ℕ → Float → Float
pressure_altitude places p =
    let h = nws_altitude places p ⊗ foot in
    cond (is_nan h || (le lowest_height h && le h tropopause)) h (height_of_pressure places (p ⊗ hundred))

-- ---- the height of a density, as its ratio x to that at sea level
-- The ratios at the bases: at the tropopause by the temperatures, (T₁ / T₀)^n with the troposphere's exponent n = g₀ / (R lapse) - 1, and above it each
-- chained from the one below, with a layer's exponent -g₀ / (R β) - 1
unfoldable pub chained_ratio : ℕ → ℕ → Float
chained_ratio places zero = one
chained_ratio places (suc zero) = power places (of_double troposphere_exponent) (base_temperature 1 ⊘ base_temperature 0)
chained_ratio places (suc (suc i)) = chained_ratio places (suc i) ⊗ across places (density_exponent (gradient (suc i))) (suc i)

-- above the tropopause
unfoldable pub height_of_ratio : ℕ → Float → Float
height_of_ratio places x = height_from places (λ (i : ℕ). power places (of_double (one ⊘ density_exponent (gradient i)))) (chained_ratio places) 5 1 x

-- in the troposphere: T₀ / lapse (1 - x^(1/n))
abbrev pub troposphere_height : ℕ → Float → Float
troposphere_height places x = base_temperature 0 ⊘ lapse ⊗ (one ⊖ power places (of_double (one ⊘ troposphere_exponent)) x)
