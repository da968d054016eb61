-- The ICAO standard atmosphere, by ICAO Doc 7488, Manual of the ICAO Standard Atmosphere: geopotential height, the layers, and temperature and
-- pressure in a layer. The manual's sections and tables are cited by what they hold, since their numbers were not at hand. Constants and rounding order
-- are those of src/atmosphere.rs; `places` is the number of places of exp and power. Definitions only.
use Rattle.std.specs.Prelude.{◌≡◌, ℕ, zero, suc, ◌<◌, Bool, ◌&&◌, cond, List, [], ◌∷◌, get_or, T, Float}
use Prim.Native.String.{String}
use Rattle.std.specs.Float.{nan}
use Rattle.std.specs.Float.Ieee.{neg, lt, le}
use Rattle.arithmetic.specs.Decimals.{decimal}
use Rattle.arithmetic.specs.Operators.{◌⊕◌, ◌⊖◌, ◌⊗◌, ◌⊘◌}
use Rattle.elementary.specs.Exponents.{of_double, g₀, Rd, gradient_of, pressure_exponent}
use Rattle.elementary.specs.Power.{power}
use Rattle.elementary.specs.Exp.{exp}
use Rattle.arithmetic.specs.Doubles.{clamp_double, abs_double}
use Rattle.atmosphere.specs.declared.layers.StandardAir.{StandardAir}

-- ---- Doc 7488, primary constants; g₀, R, here `Rd`, and the gradients are elementary's, where the exponents need them
-- r, the nominal radius of the Earth, in m
abbrev pub r : Float
r = decimal "6356766"

-- the ends of the range of heights, in m
abbrev pub lowest_height : Float
lowest_height = decimal "-5000"

abbrev pub highest_height : Float
highest_height = decimal "84000"

-- ---- Doc 7488, geopotential and geometric altitudes
-- H = r h / (r + h), for the geometric altitude h
abbrev pub geopotential_height : Float → Float
geopotential_height h = r ⊗ h ⊘ (r ⊕ h)

-- the same of an altitude clamped to the range, and clamped again
unfoldable pub standard_height : Float → Float
standard_height altitude = clamp_double (geopotential_height (clamp_double altitude lowest_height highest_height)) lowest_height highest_height

-- ---- Doc 7488, temperature and vertical temperature gradient: the layers
-- a layer's row: H_b (m), T_b (K) and p_b (Pa), the geopotential height, temperature and pressure of its base, and β (K/m), its temperature gradient
abbrev layer_row : String → String → String → Float → List Float
layer_row H T P β = decimal H ∷ decimal T ∷ decimal P ∷ β ∷ []

unfoldable pub layers : List (List Float)
layers =
    layer_row "0" "288.15" "101325" (gradient_of 0) ∷
    layer_row "11000" "216.65" "22632.1" (gradient_of 1) ∷
    layer_row "20000" "216.65" "5474.89" (gradient_of 2) ∷
    layer_row "32000" "228.65" "868.02" (gradient_of 3) ∷
    layer_row "47000" "270.65" "110.91" (gradient_of 4) ∷
    layer_row "51000" "270.65" "66.94" (gradient_of 5) ∷
    layer_row "71000" "214.65" "3.96" (gradient_of 6) ∷ []

-- H_b, T_b, p_b and β of layer i
abbrev pub base_height : ℕ → Float
base_height i = get_or (get_or layers i []) 0 nan

abbrev pub base_temperature : ℕ → Float
base_temperature i = get_or (get_or layers i []) 1 nan

abbrev pub base_pressure : ℕ → Float
base_pressure i = get_or (get_or layers i []) 2 nan

abbrev pub gradient : ℕ → Float
gradient i = get_or (get_or layers i []) 3 nan

-- the first of the layers i, i + 1, .., i + n that passes the test; the last of them has what is left
unfoldable pub first_from : (ℕ → Bool) → ℕ → ℕ → ℕ
first_from test zero i = i
first_from test (suc n) i = cond (test i) i (first_from test n (suc i))

-- ---- the layer of a geopotential height H, in m
-- from a to below b
abbrev from_to : String → String → Float → Bool
from_to a b H = le (decimal a) H && lt H (decimal b)

-- case by case in the table's order, from the ground up; NaN takes layer 0
unfoldable pub layer_at : Float → ℕ
layer_at H =
    cond (lt H (decimal "11000")) 0
    (cond (from_to "11000" "20000" H) 1
    (cond (from_to "20000" "32000" H) 2
    (cond (from_to "32000" "47000" H) 3
    (cond (from_to "47000" "51000" H) 4
    (cond (from_to "51000" "71000" H) 5
    (cond (le (decimal "71000") H) 6
    -- NaN lies in none
    0))))))

-- The range of layer i: from its base to below the next layer's. The lowest has every height below, and the highest every height above.
pub record Range (i : ℕ) (H : Float) : Type 0 where
  pub layer : i < 7
  pub from : 0 < i → T (le (base_height i) H)
  pub below : i < 6 → T (lt H (base_height (suc i)))

-- H lies in the range of layer i, and in no other
pub record OnlyRange (i : ℕ) (H : Float) : Type 0 where
  pub here : Range i H
  pub alone : (j : ℕ) → Range j H → j ≡ i

-- ---- the search that chose the layer before: of the layers i, i - 1, .., 1 the first whose base is at most H, or else layer 0
unfoldable pub highest_up_to : ℕ → Float → ℕ
highest_up_to zero H = 0
highest_up_to (suc i) H = cond (le (base_height (suc i)) H) (suc i) (highest_up_to i H)

-- ---- temperature
-- in layer i at d = H - H_b above its base: T = T_b + β (H - H_b)
abbrev pub layer_temperature : ℕ → Float → Float
layer_temperature i d = base_temperature i ⊕ gradient i ⊗ d

-- ---- Doc 7488, pressure
-- β counts as zero where its size is below this
abbrev pub negligible : Float
negligible = decimal "1e-10"

abbrev pub isothermal : ℕ → Bool
isothermal i = lt (abs_double (gradient i)) negligible

-- without a gradient: p_b exp (-g₀ (H - H_b) / (R T_b))
abbrev pub isothermal_pressure : ℕ → ℕ → Float → Float
isothermal_pressure places i d = base_pressure i ⊗ exp places (neg g₀ ⊗ d ⊘ (Rd ⊗ base_temperature i))

-- with a gradient, at the temperature T: p_b (T / T_b) ^ (-g₀ / (β R))
abbrev pub gradient_pressure : ℕ → ℕ → Float → Float
gradient_pressure places i T = base_pressure i ⊗ power places (of_double (pressure_exponent (gradient i))) (T ⊘ base_temperature i)

unfoldable pub layer_pressure : ℕ → ℕ → Float → Float → Float
layer_pressure places i d T = cond (isothermal i) (isothermal_pressure places i d) (gradient_pressure places i T)

-- ---- temperature and pressure at the geopotential height H in layer i, and at a geometric altitude
abbrev pub layer_air : ℕ → ℕ → Float → StandardAir
layer_air places i H =
    let d = H ⊖ base_height i in
    let T = layer_temperature i d in
    record { temperature_k = T; pressure_pa = layer_pressure places i d T }

unfoldable pub standard_air : ℕ → Float → StandardAir
unfolding layers layer_at standard_height layer_pressure
standard_air places altitude = let H = standard_height altitude in layer_air places (layer_at H) H
