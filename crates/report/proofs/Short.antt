-- How long a report is at most. Assumes nothing.
use Rattle.std.specs.Prelude.{None, Option, Some}
use Rattle.arithmetic.proofs.Kit.{Bool, true, false, List, [], ◌∷◌, ℕ, ◌+◌, ◌*◌, ◌/◌, ◌%◌, ◌≤◌, arith, lit≤, length, length-append}
use Rattle.refusal.specs.Outcomes.{Outcome, accepted, refused}
use Rattle.record.specs.declared.entries.Readings.{Readings}
use Rattle.record.specs.Readings.{read_record}
use Rattle.fields.specs.Fields.{meanings}
use Rattle.refusal.specs.declared.judge.Figures.{Figures}
use Rattle.writer.specs.Records.{fields_from, record_of}
use Rattle.writer.proofs.Fields.{few}
use Rattle.mast.specs.Judge.{judged}
use Rattle.trim.specs.declared.changes.Quantity.{Quantity}
use Rattle.trim.specs.declared.changes.Quantity.TheVariants.{Temperature, MeasuredPressure}
use Rattle.trim.specs.declared.changes.Direction.{Direction}
use Rattle.trim.specs.declared.changes.Direction.TheVariants.{Up, Down}
use Rattle.trim.specs.declared.changes.Turn.{Turn}
use Rattle.trim.specs.Classes.{trim_class}
use Rattle.trim.specs.declared.search.Next.{Next}
use Rattle.trim.specs.Search.{next_of}
use Rattle.arithmetic.specs.Ascii.{ascii}
use Rattle.pages.specs.Characters.{hex}
use Rattle.pages.proofs.Short.{Within, whole, both, number_short, refusal-short, hex-length}
use Rattle.notes.proofs.Short.{notes-short}
use Rattle.report.proofs.ColumnLines.{figure-short}
use Rattle.report.proofs.AdviceShort.{cause_short, refused-short}
use Rattle.report.specs.declared.Origin.{Origin}
use Rattle.report.specs.declared.Origin.TheVariants.{Record}
use Rattle.report.specs.AirLines.{station_lines, air_lines, mark_line}
use Rattle.report.specs.TrimLines.{trim_line, tenths_text, change_words, turn_line, change_line, or_from_shown, next_class_line}
use Rattle.report.specs.Report.{accepted_lines, point_in, noted_lines, answer_lines, record_line, report_text, read_text, record_text}

-- ---- figures
station-short : (f : Figures) → Within (station_lines f) 131
unfolding station_lines
station-short f =
    both
    (both (figure-short (ascii "altitude                ") 1 f.altitude_m (ascii " m\n"))
    (figure-short (ascii "temperature             ") 2 f.temperature_c (ascii " C\n")))
    (figure-short (ascii "station pressure        ") 3 f.pressure_hpa (ascii " hPa\n"))

air-short : (f : Figures) → Within (air_lines f) 261
unfolding air_lines
air-short f =
    both
    (both
    (both
    (both (figure-short (ascii "density                 ") 4 f.density_kg_m3 (ascii " kg/m3, the reference for the trim table\n"))
    (figure-short (ascii "speed of sound          ") 1 f.speed_of_sound_mps (ascii " m/s\n")))
    (figure-short (ascii "pressure altitude       ") 1 f.pressure_altitude_m (ascii " m\n")))
    (figure-short (ascii "density-matched altitude") 1 f.density_matched_altitude_m (ascii " m\n")))
    (figure-short (ascii "vapour mole fraction    ") 6 f.vapor_mole_fraction (ascii " mol/mol\n"))

-- ---- the trim class
trim_short : (n : ℕ) → Within (trim_line n) 14
unfolding trim_line
trim_short n = both (both (whole (ascii "trim class ")) (number_short n)) (whole (ascii "\n"))

words-short : (q : Quantity) (d : Direction) → Within (change_words q d) 12
words-short Temperature Up = record { bound = lit≤ tt }
words-short Temperature Down = record { bound = lit≤ tt }
words-short MeasuredPressure Up = record { bound = lit≤ tt }
words-short MeasuredPressure Down = record { bound = lit≤ tt }

tenths_short : (k : ℕ) → Within (tenths_text k) 4
unfolding tenths_text
tenths_short k = both (number_short (k / 10)) (whole (46 ∷ (48 + k % 10) ∷ []))

turn-short : (t : Turn) → Within (turn_line t) 33
unfolding turn_line
turn-short t =
    both (both (both (both (whole (ascii "next class ")) (number_short t.class)) (whole (ascii " at "))) (tenths_short t.change.tenths))
    (words-short t.change.quantity t.change.direction)

next-short : (n : Outcome Next) → length (next_class_line n) ≤ 60
next-short (accepted n) = go n.turn
  where
    go : (f : (Option Turn)) → length (change_line f) ≤ 60
    go (Some t) = omega (arith, (turn-short t).bound)
    go None = lit≤ tt
next-short (refused number values) = lit≤ tt

mark-short : (b : Bool) → Within (mark_line b) 60
mark-short true = record { bound = lit≤ tt }
mark-short false = record { bound = lit≤ tt }

-- ---- the answer
accepted-short : (r : Readings) (f : Figures) → Within (accepted_lines r f) 526
unfolding accepted_lines
accepted-short r f =
    both (both (both (both (station-short f) (air-short f)) (trim_short (trim_class f.density_kg_m3))) record { bound = next-short (or_from_shown r f (next_of r)) }) (mark-short f.in_cipm_range)

answer-short : (o : Origin) (r : Readings) (x : Outcome Figures) → Within (answer_lines o r x) 2526
unfolding noted_lines
answer-short o r (accepted f) = both (accepted-short r f) (notes-short (point_in o) r f)
answer-short o r (refused n values) = record { bound = omega (arith, (refused-short o r n).bound) }

-- ---- the record: a field has eleven bytes at most
pub record_short : (r : Readings) → length (record_of r) ≤ 154
record_short r = omega (arith, length-append (fields_from meanings 1 r) (fields_from meanings 17 r), few meanings 1 r, few meanings 17 r)

bytes-short : (s : List ℕ) (n : ℕ) → length s ≤ n → Within (record_line s) (8 + 2 * n)
unfolding record_line
bytes-short s n h =
    let digits : Within (hex s) (2 * n) = record { bound = omega (arith, hex-length s) } in
    record { bound = omega (arith, (both (both (whole (ascii "record ")) digits) (whole (ascii "\n"))).bound) }

pub report_short : (o : Origin) (r : Readings) → Within (report_text o r) 2842
unfolding report_text
report_short o r = both (answer-short o r (judged r)) (bytes-short (record_of r) 154 (record_short r))

-- ---- a record of n bytes: what is said of one that is not read has at most 247, beside its bytes
read_short : (s : List ℕ) (n : ℕ) → length s ≤ n → (x : Outcome Readings) → Within (read_text s x) (2842 + 2 * n)
read_short s n h (accepted r) = record { bound = omega (arith, (report_short Record r).bound) }
read_short s n h (refused k values) =
    record { bound = omega (arith, (both (both (refusal-short k) (cause_short Record k)) (bytes-short s n h)).bound) }

pub record_text-short : (s : List ℕ) (n : ℕ) → length s ≤ n → Within (record_text s) (2842 + 2 * n)
unfolding record_text
record_text-short s n h = read_short s n h (read_record false s)
