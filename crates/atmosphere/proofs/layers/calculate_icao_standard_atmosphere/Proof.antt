-- `atmosphere::layers::calculate_icao_standard_atmosphere` meets its contract. Assumes nothing.
use Rattle.arithmetic.proofs.Kit.{◌∙◌, arith, ◌<◌, rules}
use Rattle.arithmetic.specs.Operators.{◌⊖◌}
use Rattle.atmosphere.specs.Layers.{layers, base_height, layer_temperature}
use Rattle.atmosphere.proofs.LayerNumber.{layer-lt, at-height}
use Rattle.atmosphere.proofs.layers.calculate_icao_standard_atmosphere.Statement.{statement}
use Rattle.atmosphere.proofs.layers.calculate_icao_standard_atmosphere.Tie as tie

in_table : (c : tie.After-layer_number-number) → c.layer_number-number.result < 7
in_table c = omega (arith, layer-lt c.standard_geopotential_height_m-geopotential_height.result, c.layer_number-number.ensures)

returns : tie.Need-returns
unfolding layers
returns c =
    let numbered = c.before.before in
    let lifted = numbered.before in
    let H = lifted.standard_geopotential_height_m-geopotential_height.result in
    let i = numbered.layer_number-number.result in
    (λ k. record { temperature_k = layer_temperature i (H ⊖ base_height i); pressure_pa = c.layer_pressure.ensures k })
    ∙ at-height _ lifted.args.altitude_m H i lifted.standard_geopotential_height_m-geopotential_height.ensures numbered.layer_number-number.ensures

pub calculate_icao_standard_atmosphere_spec : {M : Type 1} → statement M
calculate_icao_standard_atmosphere_spec =
    tie.close (tie.spec (λ c κs. search rules)
    (λ c κs. search rules)
    (λ c. omega (arith, in_table c))
    (λ c. in_table c)
    (λ c. search rules)
    (λ c. search rules)
    (λ c. search rules)
    (λ c κs. in_table c.before)
    returns)
