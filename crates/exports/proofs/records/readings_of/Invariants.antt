-- The meanings below the next one are read.
use Rattle.std.proofs.Common.{◌≡◌}
use Rattle.exports.specs.Records.{array_readings}
use Rattle.exports.proofs.records.readings_of.Given as goal

abbrev pub invariant-loop-meaning : goal.invariant-loop-meaning
invariant-loop-meaning l = l.readings ≡ array_readings l.meaning l.forms l.values l.counts
