-- The loop's invariant: the value is the word of the bytes passed, and has room for one more.
use Rattle.std.specs.Prelude.{◌≡◌, ◌^◌, ◌<◌}
use Rattle.fields.specs.Bytes.{number_at}
use Rattle.fields.proofs.bits.word_at.Given as goal

abbrev pub invariant-loop-i : goal.invariant-loop-i
invariant-loop-i l = record { read : l.value ≡ number_at l.bytes l.at l.i; below : l.value < 256 ^ l.i }
