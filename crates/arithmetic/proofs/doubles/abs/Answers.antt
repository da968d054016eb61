use Rattle.arithmetic.proofs.Kit.{◌≡◌, refl, ◌∙◌, false, Float, nan, inf, fin}
use Rattle.std.specs.Float.{float_with_sign}
use Rattle.arithmetic.specs.Doubles.{abs_double}
use Rattle.arithmetic.proofs.doubles.abs.Goals as goal

with_no_sign : (x : Float) → float_with_sign false x ≡ abs_double x
unfolding float_with_sign abs_double
with_no_sign nan = refl
with_no_sign (inf s) = refl
with_no_sign (fin s m e) = refl

pub returns : goal.returns
returns c = c.abs.ensures.value ∙ with_no_sign c.args.x
