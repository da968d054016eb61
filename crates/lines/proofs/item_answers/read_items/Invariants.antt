-- The items from the position on, after the readings so far, give all readings.
use Rattle.arithmetic.proofs.Kit.{◌≡◌, drop}
use Rattle.questions.specs.Words.{line_parts}
use Rattle.lines.specs.Items.{items_in, read_from}
use Rattle.lines.proofs.item_answers.read_items.Given as goal

abbrev pub invariant-loop-i : goal.invariant-loop-i
invariant-loop-i l = items_in (line_parts l.line) ≡ read_from l.readings (drop l.i (line_parts l.line))
