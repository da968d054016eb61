-- The loop's invariant: the fields that are left, stored from the place on, make the buffer what the whole record makes it, and each has a count.
use Rattle.writer.proofs.Kit.{◌≡◌, ◌≤◌, ◌+◌, ◌-◌, length, drop, sets, NoneHolds, count_rows, fields_of, record_in}
use Rattle.writer.proofs.Split.{Whole}
use Rattle.writer.proofs.conversion.put_converted.Given as goal

abbrev pub invariant-loop-at : goal.invariant-loop-at
invariant-loop-at l = record {
  within : l.at ≤ length l.bytes;
  whole : Whole (drop l.at l.bytes);
  counted : NoneHolds (count_rows l.counts (fields_of (drop l.at l.bytes)));
  room : length l.out ≡ length l.fn.out;
  position : l.place + length (record_in l.counts (drop l.at l.bytes)) ≡ length (record_in l.counts l.bytes);
  left : sets l.out l.place (record_in l.counts (drop l.at l.bytes)) ≡ sets l.fn.out 0 (record_in l.counts l.bytes);
}

abbrev pub decreases-loop-at : goal.decreases-loop-at
decreases-loop-at l = length l.bytes - l.at
