-- What is answered about one record, by the question's number, and the setting sheet. Definitions only.
use Rattle.std.specs.Prelude.{ℕ, true, false, cond, List, eqb}
use Rattle.refusal.specs.Outcomes.{Outcome, accepted, refused}
use Rattle.record.specs.declared.entries.Readings.{Readings}
use Rattle.record.specs.Readings.{read_record}
use Rattle.mast.specs.Judge.{judge, judge_strictly}
use Rattle.writer.specs.Conversion.{converted}
use Rattle.trim.specs.Search.{next_trim_class}
use Rattle.report.specs.declared.Origin.TheVariants.{Record}
use Rattle.report.specs.Report.{report_text}
use Rattle.pages.specs.Characters.{refusal_line}
use Rattle.text.specs.Text.{answer_text}
use Rattle.lines.specs.Values.{answer_values}
use Rattle.lines.specs.Classes.{class_text}
use Rattle.lines.specs.Written.{written_text}

-- the report of readings, or why they are not read
abbrev pub read_text : Outcome Readings → List ℕ
read_text (accepted r) = report_text Record r
read_text (refused number values) = refusal_line number

unfoldable pub record_answer_text : ℕ → List ℕ → List ℕ
record_answer_text number s =
    cond (eqb number 0) (answer_text (judge s))
    (cond (eqb number 1) (answer_text (judge_strictly s))
    (cond (eqb number 2) (answer_values (judge s))
    (cond (eqb number 3) (answer_values (judge_strictly s))
    (cond (eqb number 4) (class_text (next_trim_class s))
    (cond (eqb number 5) (written_text (converted true s))
    (cond (eqb number 6) (written_text (converted false s)) (read_text (read_record false s))))))))

abbrev pub sheet_text : Outcome (List ℕ) → List ℕ
sheet_text (accepted rows) = rows
sheet_text (refused number values) = refusal_line number
