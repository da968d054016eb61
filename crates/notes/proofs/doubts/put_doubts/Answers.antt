use Rattle.notes.specs.Doubts.{doubt_notes}
use Rattle.notes.proofs.Absent.{absent}
use Rattle.notes.proofs.Printed.{and_put, last_put}
use Rattle.notes.proofs.doubts.put_doubts.Goals as goal

pub returns : goal.returns
unfolding doubt_notes
returns c =
    rw (← absent _ c.is_none.ensures, ← absent _ c.is_none-2.ensures)
    (and_put _ _ _ c.put_figured_if.ensures (and_put _ _ _ c.put_fraction.ensures (and_put _ _ _ c.put_at_limit.ensures (last_put _ _ c.put_if.ensures))))
