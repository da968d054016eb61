-- Two values. Assumes nothing.
use Rattle.arithmetic.proofs.Kit.{◌≡◌, ap, ◌∙◌, [], ◌∷◌, ◌++◌, append_assoc, append-nil, Float}
use Rattle.arithmetic.specs.Ascii.{ascii}
use Rattle.pages.specs.declared.Page.{Page}
use Rattle.pages.specs.Pages.{put}
use Rattle.pages.proofs.Putting.{put_put}
use Rattle.lines.specs.Values.{value_text, values_text}
use Rattle.lines.proofs.value_lines.put_handed_out.Goals as goal

two : (p : Page) (x y : Float) → put (put p (ascii " " ++ value_text x)) (ascii " " ++ value_text y) ≡ put p (values_text (x ∷ y ∷ []))
unfolding values_text
two p x y = put_put _ _ _ ∙ ap (put p) (simp (append_assoc, append-nil))

pub returns-in-Two : goal.returns-in-Two
returns-in-Two c = rw (c.put_next_value-in-Two-2.ensures, c.put_next_value-in-Two.ensures, c.in-Two.is) (two c.args.page.now c.in-Two.x c.in-Two.y)
