-- The loop's invariant: the bytes counted and those of the fields that are left are the record's, and no field so far is refused.
use Rattle.writer.proofs.Kit.{◌≡◌, ◌≤◌, ◌+◌, ◌-◌, length, drop, fields_of, record_in}
use Rattle.writer.proofs.Split.{Whole}
use Rattle.writer.proofs.Place.{with_left}
use Rattle.writer.proofs.conversion.converted_length.Given as goal

abbrev pub invariant-loop-at : goal.invariant-loop-at
invariant-loop-at l = record {
  within : l.at ≤ length l.bytes;
  whole : Whole (drop l.at l.bytes);
  counted : l.size + length (record_in l.counts (drop l.at l.bytes)) ≡ length (record_in l.counts l.bytes);
  left : with_left l.counts l.bytes (fields_of l.bytes) ≡ with_left l.counts l.bytes (fields_of (drop l.at l.bytes));
}

abbrev pub decreases-loop-at : goal.decreases-loop-at
decreases-loop-at l = length l.bytes - l.at
