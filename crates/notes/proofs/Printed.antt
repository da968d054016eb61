-- The lines of notes one after the other are those of all of them. Assumes nothing.
use Rattle.arithmetic.proofs.Kit.{◌≡◌, refl, sym, ap, ◌∙◌, List, [], ◌∷◌, ◌++◌, append_assoc, append-nil, ℕ}
use Rattle.pages.specs.declared.Page.{Page}
use Rattle.pages.specs.Pages.{put}
use Rattle.pages.proofs.Putting.{put_put}
use Rattle.notes.specs.Words.{Note, when, printed}

pub printed_append : (ns ms : List Note) → printed ns ++ printed ms ≡ printed (ns ++ ms)
printed_append [] ms = refl
printed_append (n ∷ ns) ms =
    append_assoc (when n.holds n.line) (printed ns) (printed ms) ∙ ap (λ (l : List ℕ). when n.holds n.line ++ l) (printed_append ns ms)

-- no line after the last
pub ruleset printing = (append-nil, printed_append)

-- a piece after what stands on a page, and the last one
pub and_put : (p : Page) {q r : Page} (text more : List ℕ) → q ≡ put p text → r ≡ put q more → r ≡ put p (text ++ more)
and_put p text more e f = f ∙ ap (λ (x : Page). put x more) e ∙ put_put p text more

pub last_put : (p : Page) {q : Page} (text : List ℕ) → q ≡ put p text → q ≡ put p (text ++ [])
last_put p text e = e ∙ ap (put p) (sym (append-nil text))
