-- The lines passed are answered on the page. Assumes nothing.
use Rattle.std.proofs.Common.{◌≡◌, ◌-◌, ◌≤◌, length, drop}
use Rattle.pages.specs.Pages.{put}
use Rattle.ask_run.specs.Answered.{lines_after, answers_to, AreWhole}
use Rattle.ask_run.proofs.answered.answer_lines.Given as goal

abbrev pub invariant-loop-rest : goal.invariant-loop-rest
invariant-loop-rest l =
    (l.taken ≤ length l.input)
    × (l.lines ≤ l.taken)
    × (drop l.taken l.input ≡ lines_after l.lines l.input)
    × AreWhole l.ended l.lines l.input
    × (l.page ≡ put l.initial.page (answers_to l.lines l.input))
    × (length (answers_to l.lines l.input) ≤ l.room)

abbrev pub decreases-loop-rest : goal.decreases-loop-rest
decreases-loop-rest l = length l.input - l.taken
