-- `atmosphere::layers::standard_temperature_k` meets its contract: the standard air's temperature takes no part of its pressure. Assumes nothing.
use Rattle.arithmetic.proofs.Kit.{ap, arith, ◌<◌, rules}
use Rattle.arithmetic.specs.Places.{places}
use Rattle.atmosphere.specs.declared.layers.StandardAir.{StandardAir}
use Rattle.atmosphere.specs.Layers.{layers}
use Rattle.atmosphere.proofs.LayerNumber.{layer-lt, at-height}
use Rattle.atmosphere.proofs.layers.standard_temperature_k.Statement.{statement}
use Rattle.atmosphere.proofs.layers.standard_temperature_k.Tie as tie

in_table : (c : tie.After-layer_number-number) → c.layer_number-number.result < 7
in_table c = omega (arith, layer-lt c.standard_geopotential_height_m-height.result, c.layer_number-number.ensures)

returns : tie.Need-returns
unfolding layers
returns c =
    let numbered = c.before in
    let lifted = numbered.before in
    ap (λ (a : StandardAir). a.temperature_k)
    (at-height places lifted.args.altitude_m _ _ lifted.standard_geopotential_height_m-height.ensures numbered.layer_number-number.ensures)

pub standard_temperature_k_spec : {M : Type 1} → statement M
standard_temperature_k_spec =
    tie.close (tie.spec (λ c κs. search rules)
    (λ c κs. search rules)
    (λ c. omega (arith, in_table c))
    (λ c. in_table c)
    (λ c. search rules)
    (λ c. search rules)
    (λ c. search rules)
    returns)
