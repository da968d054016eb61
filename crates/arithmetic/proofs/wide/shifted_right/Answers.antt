use Rattle.arithmetic.proofs.Kit.{arith}
use Rattle.arithmetic.proofs.wide.Shifts.{gone_right}
use Rattle.arithmetic.proofs.wide.shifted_right.Goals as goal

pub returns-else-k-lt128 : goal.returns-else-k-lt128
returns-else-k-lt128 c = gone_right _ _ _ (omega arith) (omega arith) c.if-k-lt128.false
