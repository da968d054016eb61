-- The record that the line has. Assumes nothing.
use Rattle.arithmetic.proofs.Kit.{ap, ◌∙◌}
use Rattle.pages.specs.Pages.{put}
use Rattle.questions.specs.Words.{line_parts}
use Rattle.lines.specs.Records.{record_answer_text}
use Rattle.lines.specs.Answers.{record_answer}
use Rattle.lines.proofs.Buffer.{read}
use Rattle.lines.proofs.put_record_answer.Goals as goal

pub returns : goal.returns
unfolding record_answer
returns c = c.put_of_record.ensures.put ∙ ap (put c.args.page.now) (ap (record_answer_text c.args.number) (read (line_parts c.args.line.now) 1 c.record_at-n.ensures.read))
