use Rattle.arithmetic.proofs.Kit.{refl, neg, le, of_bits}
use Rattle.notes.specs.Ranges.{is_compared_temperature}
use Rattle.notes.proofs.ranges.is_compared_temperature.Goals as goal

pub returns : goal.returns
unfolding is_compared_temperature le neg of_bits
returns c = refl
