use Rattle.notes.specs.Pressures.{meant_notes}
use Rattle.notes.proofs.Absent.{and_true, and_false}
use Rattle.notes.proofs.Printed.{and_put, last_put}
use Rattle.notes.proofs.pressures.put_meant.Goals as goal

pub returns-in-Some : goal.returns-in-Some
unfolding meant_notes
returns-in-Some c =
    rw (
      ← c.is_some.ensures,
      ← c.is_some-2.ensures,
      ← c.reduced.ensures,
      ← c.is_plausible.ensures,
      ← c.pressure_given.ensures,
      c.in-Some.is,
      and_true c.args.doubtful,
      ← c.is_plausible-in-Some.ensures,
    )
    (and_put _ _ _ c.put_figured_if.ensures (last_put _ _ c.put_figured_if-in-Some.ensures))

pub returns-in_default : goal.returns-in_default
unfolding meant_notes
returns-in_default c =
    rw (
      ← c.is_some.ensures,
      ← c.is_some-2.ensures,
      ← c.reduced.ensures,
      ← c.is_plausible.ensures,
      ← c.pressure_given.ensures,
      c.in_default.is,
      and_false c.args.doubtful,
    )
    (last_put _ _ c.put_figured_if.ensures)
