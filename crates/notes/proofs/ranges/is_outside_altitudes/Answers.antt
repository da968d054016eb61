use Rattle.arithmetic.proofs.Kit.{refl, neg, lt, of_bits}
use Rattle.notes.specs.Ranges.{is_outside_altitudes}
use Rattle.notes.proofs.ranges.is_outside_altitudes.Goals as goal

pub returns : goal.returns
unfolding is_outside_altitudes lt neg of_bits
returns c = refl
