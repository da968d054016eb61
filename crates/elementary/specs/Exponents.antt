-- The exponents of the `powf` calls in src/atmosphere.rs, each by its expression there and rounded in that order, and what a power needs of one:
-- its sign and its magnitude times 2^58, which is whole. Definitions only.
use Rattle.std.specs.Prelude.{ℕ, ◌*◌, ◌/◌, ◌^◌, Bool, false, not, ◌&&◌, List, [], ◌∷◌, ◌==◌, slice_index_or, Float}
use Rattle.std.specs.Float.{nan, inf, fin}
use Rattle.std.specs.Float.Ieee.{of_bits, neg, sub, mul, div, up, down}
use Rattle.arithmetic.specs.Decimals.{decimal, one}
use Rattle.arithmetic.specs.Operators.{◌⊖◌, ◌⊗◌, ◌⊘◌}

-- ---- ICAO Doc 7488, primary constants
-- the standard acceleration of free fall, m/s² (`G_ACCEL_MPS2`)
abbrev pub g₀ : Float
g₀ = decimal "9.80665"

-- the specific gas constant of dry air, J/(kg K) (`R_AIR`)
abbrev pub Rd : Float
Rd = decimal "287.0531"

-- the temperature gradient of each layer, K/m (`ICAO_LAYERS`); layers 1 and 4 have none
abbrev pub gradient_of : ℕ → Float
gradient_of i = slice_index_or (decimal "-0.0065" ∷ decimal "0" ∷ decimal "0.001" ∷ decimal "0.0028" ∷ decimal "0" ∷ decimal "-0.0028" ∷ decimal "-0.002" ∷ []) i nan

-- the troposphere's lapse rate (`ISA_LAPSE_K_PER_M`)
abbrev pub lapse : Float
lapse = decimal "0.0065"

-- ---- the exponents of a layer with the temperature gradient β
-- of a pressure over its temperature: -g₀ / (β R)
abbrev pub pressure_exponent : Float → Float
pressure_exponent β = neg g₀ ⊘ (β ⊗ Rd)

-- of a temperature over its pressure: -β R / g₀
abbrev pub temperature_exponent : Float → Float
temperature_exponent β = neg β ⊗ Rd ⊘ g₀

-- of a density over its temperature: -g₀ / (R β) - 1
abbrev pub density_exponent : Float → Float
density_exponent β = neg g₀ ⊘ (Rd ⊗ β) ⊖ one

-- the troposphere's, g₀ / (R lapse) - 1
abbrev pub troposphere_exponent : Float
troposphere_exponent = g₀ ⊘ (Rd ⊗ lapse) ⊖ one

-- of the National Weather Service's pressure altitude (`DA_NWS_EXPONENT`)
abbrev pub nws_exponent : Float
nws_exponent = decimal "0.190284"

-- ---- the table
unfoldable pub exponents : List Float
unfolding of_bits neg sub mul div
exponents =
    -- 0 to 4
    pressure_exponent (gradient_of 0) ∷ pressure_exponent (gradient_of 2) ∷ pressure_exponent (gradient_of 3) ∷ pressure_exponent (gradient_of 5) ∷ pressure_exponent (gradient_of 6) ∷
    -- 5: the QNH reduction's `exponent.recip()`
    one ⊘ pressure_exponent (gradient_of 0) ∷
    -- 6 to 10
    temperature_exponent (gradient_of 0) ∷ temperature_exponent (gradient_of 2) ∷ temperature_exponent (gradient_of 3) ∷ temperature_exponent (gradient_of 5) ∷ temperature_exponent (gradient_of 6) ∷
    -- 11, 12: the National Weather Service's and `1.0 / DA_NWS_EXPONENT`
    nws_exponent ∷ one ⊘ nws_exponent ∷
    -- 13, 14
    troposphere_exponent ∷ one ⊘ troposphere_exponent ∷
    -- 15 to 17
    density_exponent (gradient_of 2) ∷ density_exponent (gradient_of 3) ∷ density_exponent (gradient_of 5) ∷
    -- 18 to 21: `1.0 / density_exponent`
    one ⊘ density_exponent (gradient_of 2) ∷ one ⊘ density_exponent (gradient_of 3) ∷ one ⊘ density_exponent (gradient_of 5) ∷ one ⊘ density_exponent (gradient_of 6) ∷
    -- 22 to 26, of the saturation pressure
    decimal "1.5" ∷ decimal "3" ∷ decimal "3.5" ∷ decimal "4" ∷ decimal "7.5" ∷ []

-- ---- what a power needs of an exponent q
pub record Exponent : Type 0 where
  pub negative : Bool
  pub magnitude : ℕ

abbrev pub of_double : Float → Exponent
of_double nan = record { negative = false; magnitude = 0 }
of_double (inf s) = record { negative = s; magnitude = 0 }
of_double (fin s m e) = record { negative = s; magnitude = m * up e * 2 ^ 58 / down e }

abbrev pub exponent_at : ℕ → Exponent
exponent_at i = of_double (slice_index_or exponents i nan)

-- q = 3 and q = 4
abbrev pub is_three : Exponent → Bool
is_three q = not q.negative && q.magnitude == 3 * 2 ^ 58

abbrev pub is_four : Exponent → Bool
is_four q = not q.negative && q.magnitude == 4 * 2 ^ 58
