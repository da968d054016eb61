-- The places passed are filled from the line.
use Rattle.arithmetic.proofs.Kit.{ℕ, ◌+◌}
use Rattle.pages.proofs.Filled.{Filled}
use Rattle.lines.specs.Typed.{typed_at}
use Rattle.lines.proofs.park_answers.typed_text.Given as goal

abbrev pub invariant-loop-i : goal.invariant-loop-i
invariant-loop-i l = Filled (λ (k : ℕ). typed_at l.line (l.blank + 1 + k)) l.initial.out l.i l.out
