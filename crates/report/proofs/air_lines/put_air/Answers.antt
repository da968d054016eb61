use Rattle.notes.proofs.Printed.{and_put}
use Rattle.report.specs.AirLines.{air_lines}
use Rattle.report.proofs.air_lines.put_air.Goals as goal

pub returns : goal.returns
unfolding air_lines
returns c =
    and_put _ _ _
    (and_put _ _ _ (and_put _ _ _ (and_put _ _ _ c.put_figure.ensures c.put_figure-2.ensures) c.put_figure-3.ensures) c.put_figure-4.ensures)
    c.put_figure-5.ensures
