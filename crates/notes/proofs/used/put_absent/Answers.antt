use Rattle.notes.specs.Used.{absent_notes}
use Rattle.notes.proofs.Absent.{absent}
use Rattle.notes.proofs.Printed.{and_put, last_put}
use Rattle.notes.proofs.used.put_absent.Goals as goal

pub returns : goal.returns
unfolding absent_notes
returns c =
    rw (
      ← absent _ c.is_none.ensures,
      ← absent _ c.is_none-2.ensures,
      ← absent _ c.is_none-3.ensures,
      ← absent _ c.is_none-4.ensures,
      ← absent _ c.is_none-5.ensures,
      ← absent _ c.is_none-6.ensures,
    )
    (and_put _ _ _ c.put_figured_if.ensures (and_put _ _ _ c.put_figured_if-2.ensures (last_put _ _ c.put_if.ensures)))
