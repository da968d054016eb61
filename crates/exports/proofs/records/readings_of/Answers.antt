-- The definition at no meaning, and at one more.
use Rattle.std.proofs.Common.{add-one, rules}
use Rattle.exports.specs.Records.{array_readings}
use Rattle.exports.proofs.records.readings_of.Goals as goal

pub loop-meaning-init : goal.loop-meaning-init
unfolding array_readings
loop-meaning-init c = search rules

pub loop-meaning-preserved : goal.loop-meaning-preserved
unfolding array_readings
loop-meaning-preserved c = rw add-one (search rules)
