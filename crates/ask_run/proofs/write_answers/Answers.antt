-- The answers have room on the page. Assumes nothing.
use Rattle.pages.proofs.Growing.{holds}
use Rattle.ask_run.proofs.write_answers.Goals as goal

pub slice_bounds-write_all-end : goal.slice_bounds-write_all-end
slice_bounds-write_all-end g c =
    let answered = c.answer_lines-progress.ensures.answered in
    (holds answered.text answered.room).within

pub slice_bounds-write_all-end-in-loop-taken : goal.slice_bounds-write_all-end-in-loop-taken
slice_bounds-write_all-end-in-loop-taken g c =
    let answered = c.answer_lines-progress.ensures.answered in
    (holds answered.text answered.room).counted
