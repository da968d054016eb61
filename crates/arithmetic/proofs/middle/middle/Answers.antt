use Rattle.arithmetic.proofs.Kit.{refl, ap₂, ◌∙◌}
use Rattle.arithmetic.specs.Middle.{earlier, later, middle}
use Rattle.arithmetic.proofs.middle.middle.Goals as goal

pub returns : goal.returns
unfolding middle
returns c = c.later-2.ensures ∙ ap₂ later c.earlier.ensures (c.earlier-2.ensures ∙ ap₂ earlier c.later.ensures refl)
