use Rattle.notes.specs.Ranges.{temperature_notes}
use Rattle.notes.proofs.Absent.{and_true}
use Rattle.notes.proofs.Printed.{and_put, last_put}
use Rattle.notes.proofs.ranges.put_temperature_range.Goals as goal

pub returns-in-Some : goal.returns-in-Some
unfolding temperature_notes
returns-in-Some c =
    rw (
      c.in-Some.is,
      ← c.is_outside_temperatures-outside.ensures,
      and_true c.is_outside_temperatures-outside.result,
      ← c.is_compared_temperature.ensures,
      ← c.is_compared_temperature-in-Some.ensures,
    )
    (and_put _ _ _ c.put_figured_if.ensures (and_put _ _ _ c.put_figured_if-in-Some.ensures (last_put _ _ c.put_figured_if-in-Some-2.ensures)))
