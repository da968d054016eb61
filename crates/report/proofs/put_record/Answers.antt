-- The buffer has room for any record.
use Rattle.arithmetic.proofs.Kit.{ℕ, replicate, length-replicate}
use Rattle.report.proofs.Recorded.{not_refused}
use Rattle.report.proofs.put_record.Goals as goal

pub returns-in_default : goal.returns-in_default
returns-in_default c =
    absurd
    (not_refused c.args.readings (replicate 154 0) (length-replicate {A = ℕ} 154 0) c.in_default.field-0 c.in_default.ensures.answered)
