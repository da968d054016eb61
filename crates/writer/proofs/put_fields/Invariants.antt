-- The loop's invariant: the fields that are left, stored from the position on, make the buffer what all fields of the form make it.
use Rattle.writer.proofs.Kit.{◌≡◌, ◌+◌, length, sets, meanings, fields_from}
use Rattle.writer.proofs.Fields.{rest}
use Rattle.writer.proofs.put_fields.Given as goal

abbrev pub invariant-loop-tag : goal.invariant-loop-tag
invariant-loop-tag l = record {
  room : length l.out ≡ length l.fn.out;
  position : l.at + length (rest (l.first + meanings) l.tag l.readings) ≡ l.start + length (fields_from meanings l.first l.readings);
  left : sets l.out l.at (rest (l.first + meanings) l.tag l.readings) ≡ sets l.fn.out l.start (fields_from meanings l.first l.readings);
}
