-- All arguments are of their forms if those from the position on are.
use Rattle.arithmetic.proofs.Kit.{◌≡◌, ◌+◌, drop}
use Rattle.questions.specs.Words.{line_parts}
use Rattle.questions.specs.Forms.{are_from}
use Rattle.questions.proofs.forms.are_of.Given as goal

abbrev pub invariant-loop-i : goal.invariant-loop-i
invariant-loop-i l = are_from (line_parts l.line) 1 l.shape ≡ are_from (line_parts l.line) (l.i + 1) (drop l.i l.shape)
