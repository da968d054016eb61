use Rattle.arithmetic.proofs.Kit.{refl, neg, lt, of_bits}
use Rattle.notes.specs.Ranges.{is_outside_temperatures}
use Rattle.notes.proofs.ranges.is_outside_temperatures.Goals as goal

pub returns : goal.returns
unfolding is_outside_temperatures lt neg of_bits
returns c = refl
