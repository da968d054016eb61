use Rattle.notes.specs.Pressures.{unit_notes}
use Rattle.notes.proofs.Printed.{and_put, last_put}
use Rattle.notes.proofs.pressures.put_units.Goals as goal

pub returns : goal.returns
unfolding unit_notes
returns c =
    rw (
      ← c.pressure_given-pressure_hpa.ensures,
      ← c.resolved_as-from_kilopascals.ensures,
      ← c.resolved_as-from_inches.ensures,
      ← c.is_plausible.ensures,
      ← c.is_plausible-2.ensures,
      ← c.is_plausible-3.ensures,
      ← c.unwrap_or.ensures,
    )
    (and_put _ _ _ c.put_figured_if.ensures (and_put _ _ _ c.put_figured_if-2.ensures (last_put _ _ c.put_figured_if-3.ensures)))
