use Rattle.notes.specs.Doubts.{fraction}
use Rattle.notes.proofs.Printed.{and_put}
use Rattle.notes.proofs.doubts.put_fraction.Goals as goal

pub returns-then-percent : goal.returns-then-percent
unfolding fraction
returns-then-percent c = rw (c.in-Some.is, c.if-percent.true) (and_put _ _ _ c.put_figured.ensures c.put_figured-then-percent.ensures)
