-- By the question's number, and whether the arguments fit. Assumes nothing.
use Rattle.arithmetic.proofs.Kit.{◌≡◌, sym, ap, ap₂, ◌∙◌, arith, false, List, [], ℕ, ◌≤◌, le-leb, lt-leb, ne_eqb, get_or}
use Rattle.pages.specs.Pages.{put}
use Rattle.questions.specs.Words.{place_in, line_parts}
use Rattle.questions.specs.Forms.{fits, wrong_line}
use Rattle.lines.specs.Asked.{function_answer}
use Rattle.lines.specs.Answers.{question_names, question_shapes, numbered_answer, question_answer}
use Rattle.lines.proofs.put_question.Goals as goal

module _ (line : List ℕ) {n : ℕ} (is : n ≡ place_in question_names (get_or (line_parts line) 0 [])) where
  answered : numbered_answer n line ≡ question_answer line
  unfolding question_answer
  answered = ap (λ (k : ℕ). numbered_answer k line) is

  other : 13 ≤ n → function_answer line ≡ question_answer line
  other h = sym (rw (le-leb 13 n h)) ∙ answered

  wrong : n ≤ 10 → fits (line_parts line) (get_or question_shapes n []) ≡ false → wrong_line (get_or question_names n []) (get_or question_shapes n []) ≡ question_answer line
  wrong h f = sym (rw (lt-leb 13 n (omega arith), ne_eqb n 12 (λ e. omega arith), ne_eqb n 11 (λ e. omega arith), f)) ∙ answered

pub returns-else-fits : goal.returns-else-fits
returns-else-fits c =
    let line = c.args.line.now in
    let fit : fits (line_parts line) (get_or question_shapes c.place-number.result []) ≡ false = ap (fits (line_parts line)) (sym c.nth_word-shape.ensures.answered) ∙ sym c.fits.ensures.answered ∙ c.if-fits.false in
    c.put_wrong.ensures.put
    ∙ ap (put c.args.page.now)
    (ap₂ wrong_line c.nth_word-else-fits.ensures.answered c.nth_word-shape.ensures.answered
    ∙ wrong line (c.place-number.ensures.answered ∙ ap (place_in question_names) c.nth_word.ensures.answered) (omega arith) fit)

pub returns-in_default : goal.returns-in_default
returns-in_default c =
    let line = c.args.line.now in
    c.put_function_answer.ensures.put
    ∙ ap (put c.args.page.now) (other line (c.place-number.ensures.answered ∙ ap (place_in question_names) c.nth_word.ensures.answered) (omega arith))
