-- The answers to lines of input, one after the other. Definitions only.
use Rattle.std.specs.Prelude.{ℕ, zero, suc, ◌≤◌, ◌≡◌, Bool, true, List, [], ◌++◌, length, drop}
use Rattle.pages.specs.Pages.{Appended}
use Rattle.questions.specs.Lines.{first_line, next_line, has_line}
use Rattle.lines.specs.Answers.{answer_line}
use Rattle.ask_run.specs.declared.answered.Progress.{Progress}

-- what is left of the input after n lines
unfoldable pub lines_after : ℕ → List ℕ → List ℕ
lines_after zero s = s
lines_after (suc n) s = let t = lines_after n s in drop (next_line t) t

-- the answers to the first n lines
unfoldable pub answers_to : ℕ → List ℕ → List ℕ
answers_to zero s = []
answers_to (suc n) s = answers_to n s ++ answer_line (first_line (lines_after n s))

-- each of them is whole
unfoldable pub AreWhole : Bool → ℕ → List ℕ → Type 0
AreWhole ended zero s = Unit {0}
AreWhole ended (suc n) s = AreWhole ended n s × (has_line ended (lines_after n s) ≡ true)

-- r lines of s are answered on a page, and all the answers have room
pub record Answered (ended : Bool) (s page last : List ℕ) (r : Progress) : Type 0 where
  pub whole : AreWhole ended r.lines s
  pub rest : drop r.taken s ≡ lines_after r.lines s
  pub taken : r.taken ≤ length s
  pub text : Appended page 0 (answers_to r.lines s) last r.written
  pub room : length (answers_to r.lines s) ≤ length page
