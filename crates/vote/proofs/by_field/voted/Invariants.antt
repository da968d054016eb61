-- The meanings below the next one are voted on.
use Rattle.std.proofs.Common.{◌≡◌}
use Rattle.vote.specs.Fields.{voted_of}
use Rattle.vote.proofs.by_field.voted.Given as goal

abbrev pub invariant-loop-meaning : goal.invariant-loop-meaning
invariant-loop-meaning l = l.readings ≡ voted_of l.meaning l.a l.b l.c
