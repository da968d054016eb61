-- `atmosphere::altitudes::faa_rule_density_altitude_ft` meets its contract. Assumes nothing.
use Rattle.arithmetic.proofs.Kit.{ap, rules, Float, of_bits, mul, div}
use Rattle.arithmetic.specs.Operators.{◌⊕◌, ◌⊖◌, ◌⊗◌}
use Rattle.atmosphere.specs.Altitudes.{standard_fahrenheit, feet_per_degree}
use Rattle.atmosphere.proofs.altitudes.faa_rule_density_altitude_ft.Statement.{statement}
use Rattle.atmosphere.proofs.altitudes.faa_rule_density_altitude_ft.Tie as tie

returns : tie.Need-returns
unfolding of_bits mul div
returns c = ap (λ (h : Float). h ⊕ feet_per_degree ⊗ (c.args.temperature_f ⊖ standard_fahrenheit h)) c.nws_pressure_altitude_ft-pressure_alt.ensures

pub faa_rule_density_altitude_ft_spec : {M : Type 1} → statement M
faa_rule_density_altitude_ft_spec = tie.close (tie.spec (λ c κs. search rules)
    returns)
