-- `atmosphere::resolvers::reduce_qnh_to_station_pressure` meets its contract: its exponents are numbers 0 and 5 of elementary's table. Assumes nothing.
use Rattle.arithmetic.proofs.Kit.{ap, ap₂, ◌∙◌, rules, Float, of_bits}
use Rattle.arithmetic.specs.Decimals.{one}
use Rattle.arithmetic.specs.Operators.{◌⊕◌, ◌⊗◌, ◌⊘◌}
use Rattle.elementary.specs.Power.{power_at}
use Rattle.atmosphere.specs.Layers.{layers, base_temperature, gradient}
use Rattle.atmosphere.proofs.resolvers.reduce_qnh_to_station_pressure.Statement.{statement}
use Rattle.atmosphere.proofs.resolvers.reduce_qnh_to_station_pressure.Tie as tie
use Rattle.arithmetic.specs.Places.{places}

returns : tie.Need-returns
unfolding layers of_bits power_at
returns c =
    ap (λ (x : Float). c.args.qnh_hpa ⊗ x)
    (c.power.ensures
    ∙ ap₂ (λ (h s : Float). power_at places 0 (one ⊕ gradient 0 ⊗ h ⊘ base_temperature 0 ⊗ s)) c.standard_geopotential_height_m.ensures c.power-setting_term.ensures)

pub reduce_qnh_to_station_pressure_spec : {M : Type 1} → statement M
reduce_qnh_to_station_pressure_spec =
    tie.close (tie.spec (λ c. search rules)
    (λ c. search rules)
    (λ c κs. search rules)
    (λ c. search rules)
    (λ c. search rules)
    (λ c κs. search rules)
    (λ c κs. search rules)
    returns)
