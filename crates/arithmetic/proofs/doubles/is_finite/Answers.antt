use Rattle.arithmetic.proofs.Kit.{◌≡◌, refl, ◌∙◌, Float, nan, inf, fin}
use Rattle.std.specs.Float.{float_is_finite}
use Rattle.arithmetic.specs.Doubles.{is_finite}
use Rattle.arithmetic.proofs.doubles.is_finite.Goals as goal

same_test : (x : Float) → float_is_finite x ≡ is_finite x
unfolding float_is_finite is_finite
same_test nan = refl
same_test (inf s) = refl
same_test (fin s m e) = refl

pub returns : goal.returns
returns c = c.is_finite.ensures.value ∙ same_test c.args.x
