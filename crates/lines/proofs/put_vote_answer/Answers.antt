-- The three records that the line has. Assumes nothing.
use Rattle.questions.specs.Words.{line_parts}
use Rattle.lines.specs.Answers.{vote_answer}
use Rattle.lines.proofs.Buffer.{read}
use Rattle.lines.proofs.put_vote_answer.Goals as goal

pub returns : goal.returns
unfolding vote_answer
returns c =
    let ws = line_parts c.args.line.now in
    rw (← read ws 1 c.record_at-a.ensures.read, ← read ws 2 c.record_at-b.ensures.read, ← read ws 3 c.record_at-c.ensures.read) c.put_vote.ensures.put
