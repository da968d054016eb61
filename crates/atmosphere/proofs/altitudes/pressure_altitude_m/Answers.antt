-- By whether the NWS figure is kept. Assumes nothing.
use Rattle.arithmetic.proofs.Kit.{◌≡◌, sym, ap, ap₂, ◌∙◌, Bool, true, false, ◌&&◌, ◌||◌, cond, Float, le, is_nan}
use Rattle.arithmetic.specs.Decimals.{hundred}
use Rattle.arithmetic.specs.Operators.{◌⊗◌}
use Rattle.arithmetic.specs.Places.{places}
use Rattle.atmosphere.specs.Layers.{lowest_height}
use Rattle.atmosphere.specs.Altitudes.{nws_altitude, foot, tropopause, height_of_pressure, pressure_altitude}
use Rattle.atmosphere.proofs.altitudes.pressure_altitude_m.Goals as goal
use Rattle.atmosphere.proofs.altitudes.pressure_altitude_m.Goals.{then-is_nan-via-then-is_nan, then-is_nan-via-else-is_nan+then-nws_m-2, then-nws_m, else-nws_m}

abbrev within : Float → Bool
within h = le lowest_height h && le h tropopause

-- the definition by the code's test of the NWS figure
by_test : (p a : Float) (t : Bool) → a ≡ nws_altitude places p → (is_nan (a ⊗ foot) || within (a ⊗ foot)) ≡ t → cond t (a ⊗ foot) (height_of_pressure places (p ⊗ hundred)) ≡ pressure_altitude places p
unfolding pressure_altitude
by_test p a t e k =
    let layered = height_of_pressure places (p ⊗ hundred) in
    ap (λ (b : Bool). cond b (a ⊗ foot) layered) (sym k)
    ∙ ap (λ (x : Float). cond (is_nan (x ⊗ foot) || within (x ⊗ foot)) (x ⊗ foot) layered) e

pub returns-then-is_nan : goal.returns-then-is_nan
returns-then-is_nan c =
    let h = c.nws_pressure_altitude_ft-nws_m.result ⊗ foot in
    let below : Bool → Bool = λ b. b && le h tropopause in
    by_test c.args.station_pressure_hpa c.nws_pressure_altitude_ft-nws_m.result true c.nws_pressure_altitude_ft-nws_m.ensures
    (elim c.then-is_nan.branch [
      | then-is_nan-via-then-is_nan w ↦ ap (λ (b : Bool). b || within h) (sym c.is_nan.ensures.value ∙ w.if-is_nan.true)
      | then-is_nan-via-else-is_nan+then-nws_m-2 w ↦ ap₂ ◌||◌ (sym c.is_nan.ensures.value ∙ w.if-is_nan.false)
          ((elim w.if-nws_m.branch [
            | then-nws_m v ↦ ap below v.if-nws_m.true ∙ sym v.value-is
            | else-nws_m v ↦ ap below v.if-nws_m.false ∙ sym (v.value-is ∙ v.if-nws_m.false)
          ]) ∙ w.if-nws_m-2.true)
    ])

pub returns : goal.returns
returns c =
    let h = c.nws_pressure_altitude_ft-nws_m.result ⊗ foot in
    let below : Bool → Bool = λ b. b && le h tropopause in
    c.standard_pressure_altitude_m.ensures
    ∙ by_test c.args.station_pressure_hpa c.nws_pressure_altitude_ft-nws_m.result false c.nws_pressure_altitude_ft-nws_m.ensures
    (ap₂ ◌||◌ (sym c.is_nan.ensures.value ∙ c.if-is_nan.false)
    ((elim c.if-nws_m.branch [
      | then-nws_m v ↦ ap below v.if-nws_m.true ∙ sym v.value-is
      | else-nws_m v ↦ ap below v.if-nws_m.false ∙ sym (v.value-is ∙ v.if-nws_m.false)
    ]) ∙ c.if-nws_m-2.false))
