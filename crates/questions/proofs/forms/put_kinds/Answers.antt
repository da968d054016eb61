-- A letter more. Assumes nothing.
use Rattle.arithmetic.proofs.Kit.{sym, ap, ◌∙◌, arith, get_or}
use Rattle.pages.specs.declared.Page.{Page}
use Rattle.pages.specs.Pages.{put}
use Rattle.pages.proofs.Putting.{put_put, put_nothing}
use Rattle.questions.specs.Forms.{kind_text}
use Rattle.questions.proofs.Shapes.{one_more, no_kinds}
use Rattle.questions.proofs.forms.put_kinds.Goals as goal

pub loop-letter-init : goal.loop-letter-init
loop-letter-init c = sym (ap (put c.args.page.now) no_kinds ∙ put_nothing c.args.page.now)

pub loop-letter-preserved : goal.loop-letter-preserved
loop-letter-preserved c =
    c.put_kind.ensures
    ∙ ap (λ (p : Page). put p (kind_text (get_or c.args.shape.now c.loop-letter.letter-index 0))) c.loop-letter.invariant
    ∙ put_put _ _ _
    ∙ ap (put c.args.page.now) (sym (one_more c.args.shape.now c.loop-letter.letter-index (omega arith)))
