-- `air::moist::saturation_pressure` meets its contract. Assumes nothing.
use Rattle.arithmetic.proofs.Kit.{ap, sym, ◌∙◌, rules, Float}
use Rattle.arithmetic.specs.Places.{places}
use Rattle.humid_air.specs.Humidity.{needed_pressure}
use Rattle.air.proofs.One.{one_double}
use Rattle.air.proofs.moist.saturation_pressure.Statement.{statement}
use Rattle.air.proofs.moist.saturation_pressure.Tie as tie

returns : tie.Need-returns-then-is_one
returns c =
    let start = c.before.before in
    start.requires ∙ ap (λ (T : Float). needed_pressure places T start.args.humidity_percent) (sym (one_double _ _ (search rules) (search rules) c.is_one.ensures c.if-is_one.true))

pub saturation_pressure_spec : {M : Type 1} → statement M
saturation_pressure_spec = tie.close (tie.spec (λ c κs. search rules)
    returns
    (λ c κs. search rules)
    (λ c. search rules))
