-- Assumes nothing.
use Rattle.arithmetic.proofs.Kit.{ap, ◌∙◌}
use Rattle.arithmetic.specs.Ascii.{ascii}
use Rattle.pages.specs.declared.Page.{Page}
use Rattle.pages.specs.Pages.{put}
use Rattle.pages.proofs.Putting.{put_put}
use Rattle.park_text.specs.ParkLines.{example_of, alone_message}
use Rattle.park_text.proofs.park_lines.put_alone.Goals as goal

pub returns : goal.returns
unfolding alone_message
returns c =
    c.put_example.ensures
    ∙ ap (λ (p : Page). put p (example_of c.args.meaning)) c.put.ensures.put
    ∙ put_put c.args.page.now (ascii ": a name without =, type ") (example_of c.args.meaning)
