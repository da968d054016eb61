-- At one temperature and one pressure there is one density. Assumes nothing.
use Rattle.arithmetic.proofs.Kit.{ap₂, ◌∙◌, rules, Float}
use Rattle.arithmetic.specs.Places.{places}
use Rattle.air.specs.Moist.{density_of}
use Rattle.air.proofs.One.{one_double}
use Rattle.air.proofs.figures.shown_density.Goals as goal

pub returns-then-is_one-2 : goal.returns-then-is_one-2
returns-then-is_one-2 c =
    c.requires.density_kg_m3_value
    ∙ ap₂ (λ (T p : Float). (density_of places T p c.args.humidity_percent).density_kg_m3) (one_double _ _ (search rules) (search rules) c.is_one.ensures c.if-is_one.true) (one_double _ _ (search rules) (search rules) c.is_one-then-is_one.ensures c.if-is_one-2.true)
