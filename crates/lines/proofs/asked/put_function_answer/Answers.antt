-- By the name's number, and whether the arguments fit. Assumes nothing.
use Rattle.arithmetic.proofs.Kit.{◌≡◌, sym, ap, ap₂, ◌∙◌, true, false, List, [], ℕ, ◌≤◌, ◌<◌, lt-ltb, le-ltb, get_or}
use Rattle.pages.specs.Pages.{put}
use Rattle.questions.specs.Words.{place_in, line_parts}
use Rattle.questions.specs.Forms.{fits, wrong_line}
use Rattle.lines.specs.Asked.{name_text, shape_text, function_names, function_shapes, unknown_line, function_numbered, numbered_function, function_answer}
use Rattle.lines.proofs.asked.put_function_answer.Goals as goal

module _ (line : List ℕ) {n : ℕ} (is : n ≡ place_in function_names (get_or (line_parts line) 0 [])) where
  answered : numbered_function n (line_parts line) ≡ function_answer line
  unfolding function_answer
  answered = ap (λ (k : ℕ). numbered_function k (line_parts line)) is

  unknown : 36 ≤ n → unknown_line ≡ function_answer line
  unknown h = sym (rw (le-ltb n 36 h)) ∙ answered

  known : n < 36 → fits (line_parts line) (get_or function_shapes n []) ≡ true → function_numbered n (line_parts line) ≡ function_answer line
  known h f = sym (rw (lt-ltb n 36 h, f)) ∙ answered

  wrong : n < 36 → fits (line_parts line) (get_or function_shapes n []) ≡ false → wrong_line (get_or function_names n []) (get_or function_shapes n []) ≡ function_answer line
  wrong h f = sym (rw (lt-ltb n 36 h, f)) ∙ answered

pub returns-then-number-ge36-clause-put : goal.returns-then-number-ge36-clause-put
unfolding name_text unknown_line
returns-then-number-ge36-clause-put c =
    let line = c.args.line.now in
    c.put.ensures.put ∙ ap (put c.args.page.now) (unknown line (c.place-number.ensures.answered ∙ ap (place_in function_names) c.nth_word.ensures.answered) c.if-number-ge36.true)

pub returns-then-fits-clause-put : goal.returns-then-fits-clause-put
unfolding name_text shape_text
returns-then-fits-clause-put c =
    let line = c.args.line.now in
    let fit : fits (line_parts line) (get_or function_shapes c.place-number.result []) ≡ true = ap (fits (line_parts line)) (sym c.nth_word-shape.ensures.answered) ∙ sym c.fits.ensures.answered ∙ c.if-fits.true in
    c.put_numbered.ensures
    ∙ ap (put c.args.page.now) (known line (c.place-number.ensures.answered ∙ ap (place_in function_names) c.nth_word.ensures.answered) c.if-number-ge36.false fit)

pub returns-else-fits-clause-put : goal.returns-else-fits-clause-put
unfolding name_text shape_text
returns-else-fits-clause-put c =
    let line = c.args.line.now in
    let fit : fits (line_parts line) (get_or function_shapes c.place-number.result []) ≡ false = ap (fits (line_parts line)) (sym c.nth_word-shape.ensures.answered) ∙ sym c.fits.ensures.answered ∙ c.if-fits.false in
    c.put_wrong.ensures.put
    ∙ ap (put c.args.page.now) (ap₂ wrong_line c.nth_word-else-fits.ensures.answered c.nth_word-shape.ensures.answered
    ∙ wrong line (c.place-number.ensures.answered ∙ ap (place_in function_names) c.nth_word.ensures.answered) c.if-number-ge36.false fit)
