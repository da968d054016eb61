use Rattle.arithmetic.proofs.wide.Shifts.{gone_left}
use Rattle.arithmetic.proofs.wide.shifted_left.Goals as goal

pub returns-else-k-lt128 : goal.returns-else-k-lt128
returns-else-k-lt128 c = gone_left _ _ c.if-k-lt128.false
