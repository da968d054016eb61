-- The meanings below the next one are handed out.
use Rattle.std.proofs.Common.{◌≡◌}
use Rattle.exports.specs.Lent.{handed_out}
use Rattle.exports.specs.Reads.{form_of, double_for, count_for, each}
use Rattle.exports.proofs.reads.put_readings.Given as goal

abbrev pub invariant-loop-meaning : goal.invariant-loop-meaning
invariant-loop-meaning l = record {
  forms : l.forms ≡ handed_out (each form_of l.meaning l.readings) l.initial.forms;
  values : l.values ≡ handed_out (each double_for l.meaning l.readings) l.initial.values;
  counts : l.counts ≡ handed_out (each count_for l.meaning l.readings) l.initial.counts;
}
