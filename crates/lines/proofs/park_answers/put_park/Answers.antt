-- The words that the line has. Assumes nothing.
use Rattle.arithmetic.proofs.Kit.{ap, ◌∙◌, List, ℕ, length-replicate}
use Rattle.pages.specs.Pages.{put}
use Rattle.park_text.specs.Words.{arguments}
use Rattle.park_text.specs.ParkText.{park_text}
use Rattle.lines.specs.Typed.{typed_text, park_answer}
use Rattle.lines.proofs.park_answers.put_park.Goals as goal

pub returns-clause-put : goal.returns-clause-put
unfolding park_answer
returns-clause-put c =
    let line = c.args.line.now in
    let text = c.typed_text-n.ensures.text ∙ ap (λ (room : ℕ). typed_text room line) (length-replicate {A = ℕ} 4096 0) in
    c.put_park_text.ensures ∙ ap (put c.args.page.now) (ap (λ (l : List ℕ). park_text (arguments l)) text)
