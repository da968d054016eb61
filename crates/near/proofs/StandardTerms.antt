-- The lowest layer: its formulas, and what the standard air is at an altitude that lies in it. Assumes nothing.
use Rattle.near.proofs.Kit.{◌≡◌, refl, ap, ◌∙◌, ℕ, ◌<◌, arith, T, Float, lt, of_bits, odd, of_fields, neg, mul, div, round, units, span, climb, size, decimal, ◌⊕◌, ◌⊖◌, ◌⊗◌, ◌⊘◌, Exponent, of_double, pressure_exponent, power, geopotential_height, standard_height, lowest_height, highest_height, layers, layer_at, layer_air, layer_pressure, standard_air, clamp_double, abs_double, Exact, ◌⊞◌, ◌⊠◌, ◌÷◌, the, Between, Bounds, Tracks, Term, given, ◌plus◌, ◌minus◌, ◌times◌, ◌by◌, tracks_same, taken, clamp_kept, Power, exponent_of}
use Rattle.atmosphere.specs.declared.layers.StandardAir.{StandardAir}
use Rattle.exact.proofs.Terms.{num}
use Rattle.near.specs.Troposphere as Spec

-- ---- the formulas, of a geometric altitude
abbrev pub height : Term
height = num "6356766" times given 0 by (num "6356766" plus given 0)

abbrev pub temperature : Term
temperature = num "288.15" plus num "-0.0065" times (height minus num "0")

abbrev pub ratio : Term
ratio = temperature by num "288.15"

-- the ratio of the temperatures is the base of the pressure's power
pub same_base : {b : Bounds} (x : Float) (d : Exact) → 0 < d.under → Tracks b x ((the "288.15" ⊞ the "-0.0065" ⊠ d) ÷ the "288.15") → Tracks b x (the "1" ⊞ the "-0.0065" ÷ the "288.15" ⊠ d)
unfolding the ◌⊞◌ ◌⊠◌ ◌÷◌
same_base x d d₀ t = tracks_same x _ _ (omega (arith, d₀)) (omega arith) t

-- the pressure's power
abbrev pub pressure_power : Power
pressure_power = record { M = (of_double (pressure_exponent (decimal "-0.0065"))).magnitude; Q = Spec.exponent; i = 16; j = 3; whole = 6 }

pub exponent-is : of_double (pressure_exponent (decimal "-0.0065")) ≡ exponent_of pressure_power
unfolding neg mul div round units span climb size odd of_fields of_bits
exponent-is = refl

-- ---- the lowest layer
abbrev pub lowest : Float → Float
lowest h = decimal "288.15" ⊕ decimal "-0.0065" ⊗ (geopotential_height h ⊖ decimal "0")

module _ (h : Float) (h-kept : Between lowest_height highest_height h) (H-kept : Between lowest_height highest_height (geopotential_height h)) (below : T (lt (geopotential_height h) (decimal "11000"))) where
  pub height-is : standard_height h ≡ geopotential_height h
  unfolding standard_height
  height-is = ap (λ (z : Float). clamp_double (geopotential_height z) lowest_height highest_height) (clamp_kept h lowest_height highest_height h-kept.low h-kept.high) ∙ clamp_kept (geopotential_height h) lowest_height highest_height H-kept.low H-kept.high

  layer-is : layer_at (geopotential_height h) ≡ 0
  unfolding layer_at
  layer-is = taken 0 _ (lt (geopotential_height h) (decimal "11000")) below

  air-is : standard_air 60 h ≡ layer_air 60 0 (geopotential_height h)
  unfolding standard_air
  air-is = ap (λ (H : Float). layer_air 60 (layer_at H) H) height-is ∙ ap (λ (i : ℕ). layer_air 60 i (geopotential_height h)) layer-is

  pub temperature-is : (standard_air 60 h).temperature_k ≡ lowest h
  unfolding layers
  temperature-is = ap (λ (a : StandardAir). a.temperature_k) air-is

  of_layer : (standard_air 60 h).pressure_pa ≡ decimal "101325" ⊗ power 60 (of_double (pressure_exponent (decimal "-0.0065"))) (lowest h ⊘ decimal "288.15")
  unfolding layers layer_pressure abs_double lt odd of_fields of_bits
  of_layer = ap (λ (a : StandardAir). a.pressure_pa) air-is

  pub pressure-is : (standard_air 60 h).pressure_pa ≡ decimal "101325" ⊗ power 60 (exponent_of pressure_power) (lowest h ⊘ decimal "288.15")
  pressure-is = of_layer ∙ ap (λ (q : Exponent). decimal "101325" ⊗ power 60 q (lowest h ⊘ decimal "288.15")) exponent-is
