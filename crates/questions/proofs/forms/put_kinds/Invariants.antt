-- The letters passed are on the page.
use Rattle.arithmetic.proofs.Kit.{◌≡◌, take}
use Rattle.pages.specs.Pages.{put}
use Rattle.questions.specs.Forms.{kind_texts}
use Rattle.questions.proofs.forms.put_kinds.Given as goal

abbrev pub invariant-loop-letter : goal.invariant-loop-letter
invariant-loop-letter l = l.page ≡ put l.initial.page (kind_texts (take l.letter-index l.shape))
