-- The station takes its parts from the readings as the definition does.
use Rattle.std.proofs.Common.{rules}
use Rattle.station.specs.Resolved.{ordinary}
use Rattle.station.proofs.resolved.ordinary.Goals as goal

pub returns : goal.returns
unfolding ordinary
returns c = search rules
