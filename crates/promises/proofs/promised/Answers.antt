-- The page holds. Assumes nothing.
use Rattle.promises.proofs.Promises.{promises}
use Rattle.promises.proofs.promised.Goals as goal

-- src/lib.rt:7:1
pub returns : goal.returns
returns c = promises
