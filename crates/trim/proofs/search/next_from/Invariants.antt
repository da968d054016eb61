-- The loop's invariant: of all the changes, those of the counts left have the first that gives another class.
use Rattle.trim.proofs.Kit.{◌≡◌, changes, first_of}
use Rattle.trim.proofs.First.{from}
use Rattle.trim.proofs.search.next_from.Given as goal

abbrev pub invariant-loop-tenths : goal.invariant-loop-tenths
invariant-loop-tenths l = first_of l.start changes ≡ from l.start l.tenths
