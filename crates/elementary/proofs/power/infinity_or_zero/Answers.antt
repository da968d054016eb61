-- The pattern of infinity is read back. Assumes nothing.
use Rattle.arithmetic.proofs.Kit.{sym, ap, of_bits, nan_bits}
use Rattle.elementary.specs.Power.{infinity_or_zero}
use Rattle.elementary.proofs.power.infinity_or_zero.Goals as goal

pub float_from_bits-result : goal.float_from_bits-result
unfolding nan_bits
float_from_bits-result c = tt

pub returns-else-zero : goal.returns-else-zero
unfolding of_bits
returns-else-zero c = sym (ap infinity_or_zero c.if-zero.false)
