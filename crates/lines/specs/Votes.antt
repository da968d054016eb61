-- The answer to a vote as text: the two lines of the figures, or a refusal, the mast before it where one is named. Definitions only.
use Rattle.std.specs.Prelude.{ℕ, cond, List, [], ◌++◌, eqb}
use Rattle.arithmetic.specs.Ascii.{ascii}
use Rattle.text.specs.Text.{answer_text}
use Rattle.vote.specs.Vote.{VoteOutcome}
use Rattle.lines.specs.Values.{whole}

-- 0 is no mast
unfoldable pub mast_text : ℕ → List ℕ
mast_text n = cond (eqb n 0) [] (ascii "mast " ++ whole n ++ ascii " ")

unfoldable pub vote_text : VoteOutcome → List ℕ
vote_text v = mast_text v.mast ++ answer_text v.outcome
