-- By whether the troposphere's height is kept. Assumes nothing.
use Rattle.arithmetic.proofs.Kit.{◌≡◌, refl, sym, ap, ap₂, ◌∙◌, Bool, true, false, ◌||◌, cond, Float, of_bits, add, sub, mul, div, lt, le, eq, is_nan}
use Rattle.arithmetic.specs.Decimals.{decimal, one}
use Rattle.arithmetic.specs.Operators.{◌⊖◌, ◌⊗◌, ◌⊘◌}
use Rattle.elementary.specs.Exponents.{lapse}
use Rattle.elementary.specs.Power.{power_at}
use Rattle.humid_air.specs.MoistAir.{mole_fraction, compressibility_factor, air_density_at}
use Rattle.atmosphere.specs.Layers.{layers, base_temperature}
use Rattle.air.specs.Moist.{density_of}
use Rattle.air.specs.Station.{atmosphere}
use Rattle.atmosphere.specs.Altitudes.{tropopause, height_of_ratio, troposphere_height}
use Rattle.air.specs.Matched.{sea_level_density, height_of_density}
use Rattle.air.proofs.matched.density_matched_altitude_of.Goals as goal
use Rattle.air.proofs.matched.density_matched_altitude_of.Goals.{then-is_nan-via-then-is_nan, then-is_nan-via-else-is_nan+then-troposphere}
use Rattle.arithmetic.specs.Places.{places}

-- the code's constant
abbrev reference : Float
reference = decimal "1.225521344728071"

reference_is : reference ≡ sea_level_density places
unfolding sea_level_density atmosphere density_of air_density_at compressibility_factor mole_fraction of_bits add sub mul div lt eq is_nan
reference_is = refl

-- the definition by the code's test of the troposphere's height
by_test : (ρ x H : Float) (b : Bool) → x ≡ ρ ⊘ reference → H ≡ troposphere_height places x → (is_nan H || le H tropopause) ≡ b → cond b H (height_of_ratio places x) ≡ height_of_density places ρ
unfolding height_of_density
by_test ρ x H b ex eH k =
    ap (λ (c : Bool). cond c H (height_of_ratio places x)) (sym k)
    ∙ ap (λ (G : Float). cond (is_nan G || le G tropopause) G (height_of_ratio places x)) eH
    ∙ ap (λ (y : Float). let G = troposphere_height places y in cond (is_nan G || le G tropopause) G (height_of_ratio places y)) (ex ∙ ap (λ (r : Float). ρ ⊘ r) reference_is)

-- of the ratio and the height that the code tests
picks : (ρ y : Float) (b : Bool) → y ≡ power_at places 14 (ρ ⊘ reference) → let H = base_temperature 0 ⊘ lapse ⊗ (one ⊖ y) in (is_nan H || le H tropopause) ≡ b → cond b H (height_of_ratio places (ρ ⊘ reference)) ≡ height_of_density places ρ
unfolding power_at
picks ρ y b e k = by_test ρ (ρ ⊘ reference) (base_temperature 0 ⊘ lapse ⊗ (one ⊖ y)) b refl (ap (λ (z : Float). base_temperature 0 ⊘ lapse ⊗ (one ⊖ z)) e) k

pub returns-then-is_nan : goal.returns-then-is_nan
unfolding layers
returns-then-is_nan c =
    let H = base_temperature 0 ⊘ lapse ⊗ (one ⊖ c.power.result) in
    picks c.args.density_kg_m3 c.power.result true c.power.ensures
    (elim c.then-is_nan.branch [
      | then-is_nan-via-then-is_nan w ↦ ap (λ (b : Bool). b || le H tropopause) (sym c.is_nan.ensures.value ∙ w.if-is_nan.true)
      | then-is_nan-via-else-is_nan+then-troposphere w ↦ ap₂ ◌||◌ (sym c.is_nan.ensures.value ∙ w.if-is_nan.false) w.if-troposphere.true
    ])

pub returns : goal.returns
unfolding layers
returns c =
    c.standard_altitude_above_tropopause_m.ensures
    ∙ picks c.args.density_kg_m3 c.power.result false c.power.ensures (ap₂ ◌||◌ (sym c.is_nan.ensures.value ∙ c.if-is_nan.false) c.if-troposphere.false)
