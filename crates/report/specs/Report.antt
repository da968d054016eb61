-- The readable report of readings: eight figures, a line each, the trim class and the next change that turns it, the mark in words,
-- and the notes; or what is said of a refusal; then the record in hex. And that of a record, which may not be read. Definitions only.
use Rattle.std.specs.Prelude.{ℕ, Bool, false, List, ◌++◌}
use Rattle.refusal.specs.Outcomes.{Outcome, accepted, refused}
use Rattle.record.specs.declared.entries.Readings.{Readings}
use Rattle.record.specs.Readings.{read_record}
use Rattle.refusal.specs.declared.judge.Figures.{Figures}
use Rattle.writer.specs.Records.{record_of}
use Rattle.mast.specs.Judge.{judged}
use Rattle.trim.specs.Classes.{trim_class}
use Rattle.trim.specs.Search.{next_of}
use Rattle.arithmetic.specs.Ascii.{ascii}
use Rattle.pages.specs.Characters.{refusal_line, hex}
use Rattle.notes.specs.Notes.{note_lines}
use Rattle.report.specs.declared.Origin.{Origin}
use Rattle.report.specs.declared.Origin.TheVariants.{Record, Words}
use Rattle.report.specs.Advice.{cause_lines, refused_lines}
use Rattle.report.specs.AirLines.{station_lines, air_lines, mark_line}
use Rattle.report.specs.TrimLines.{trim_line, or_from_shown, next_class_line}

-- ---- the answer
unfoldable pub accepted_lines : Readings → Figures → List ℕ
accepted_lines r f =
    station_lines f ++ air_lines f ++ trim_line (trim_class f.density_kg_m3) ++ next_class_line (or_from_shown r f (next_of r)) ++ mark_line f.in_cipm_range

-- ---- with its notes; only words that were typed can have a point that may mean thousands
abbrev pub point_in : Origin → Bool
point_in Record = false
point_in (Words point) = point

unfoldable pub noted_lines : Origin → Readings → Figures → List ℕ
noted_lines o r f = accepted_lines r f ++ note_lines (point_in o) r f

abbrev pub answer_lines : Origin → Readings → Outcome Figures → List ℕ
answer_lines o r (accepted f) = noted_lines o r f
answer_lines o r (refused number values) = refused_lines o r number

-- ---- and the record, as the writer makes it
unfoldable pub record_line : List ℕ → List ℕ
record_line s = ascii "record " ++ hex s ++ ascii "\n"

unfoldable pub report_text : Origin → Readings → List ℕ
report_text o r = answer_lines o r (judged r) ++ record_line (record_of r)

-- ---- a record: the report of its readings as the first reader reads them, or why they are not read, 5 to 8
abbrev pub read_text : List ℕ → Outcome Readings → List ℕ
read_text s (accepted r) = report_text Record r
read_text s (refused number values) = refusal_line number ++ cause_lines Record number ++ record_line s

unfoldable pub record_text : List ℕ → List ℕ
record_text s = read_text s (read_record false s)
