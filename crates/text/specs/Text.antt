-- The text of an answer, as bytes in ASCII: the two lines of the figures, or the one of a refusal. Definitions only.
use Rattle.std.specs.Prelude.{ℕ, List, ◌++◌}
use Rattle.refusal.specs.Outcomes.{Outcome, accepted, refused}
use Rattle.refusal.specs.declared.judge.Figures.{Figures}
use Rattle.pages.specs.Characters.{refusal_line}
use Rattle.text.specs.Lines.{station_line, air_line}

abbrev pub answer_text : Outcome Figures → List ℕ
answer_text (accepted f) = station_line f ++ air_line f
answer_text (refused number values) = refusal_line number
