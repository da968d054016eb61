-- The loop's invariant: the bytes counted and those of the fields that are left are those of the form.
use Rattle.writer.proofs.Kit.{◌≡◌, ◌+◌, length, meanings, fields_from}
use Rattle.writer.proofs.Fields.{rest}
use Rattle.writer.proofs.fields_length.Given as goal

abbrev pub invariant-loop-tag : goal.invariant-loop-tag
invariant-loop-tag l = l.size + length (rest (l.first + meanings) l.tag l.readings) ≡ length (fields_from meanings l.first l.readings)
