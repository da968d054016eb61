-- No answer to a line has more than 4,096 bytes, so each has room in the 4,096 with which it is begun. Assumes nothing.
use Rattle.std.specs.Prelude.{None, Option, Some}
use Rattle.trim.specs.declared.changes.Turn.{Turn}
use Rattle.arithmetic.proofs.Kit.{◌≡◌, refl, Bool, true, false, ◌||◌, ◌&&◌, cond, List, [], ◌∷◌, ◌++◌, ℕ, zero, suc, ◌*◌, ◌≤◌, mul-suc, arith, leb-true, ltb-false, ltb, leb, eqb, lit≤, Float, binary64, to_bits, is_nan, length, get_or, length-append}
use Rattle.arithmetic.specs.Places.{places}
use Rattle.arithmetic.specs.declared.word.Word.{Word}
use Rattle.antilog.specs.Log.{logarithm}
use Rattle.refusal.specs.Outcomes.{Outcome, accepted, refused}
use Rattle.refusal.specs.declared.judge.Figures.{Figures}
use Rattle.refusal.specs.declared.inverse.Station.{Station}
use Rattle.atmosphere.specs.declared.given.Reading.{Reading}
use Rattle.atmosphere.specs.declared.given.Reading.TheVariants.{Given, FromLayer}
use Rattle.atmosphere.specs.Station.{in_pressure_band, in_temperature_band, resolved_station_pressure, resolved_station_temperature}
use Rattle.density_altitude.specs.Inverse.{station}
use Rattle.record.specs.declared.entries.Readings.{Readings}
use Rattle.record.specs.Readings.{read_record}
use Rattle.mast.specs.Judge.{judge, judge_strictly}
use Rattle.writer.specs.Conversion.{converted}
use Rattle.writer.specs.Records.{record_of}
use Rattle.trim.specs.declared.changes.Quantity.{Quantity}
use Rattle.trim.specs.declared.changes.Quantity.TheVariants.{Temperature, MeasuredPressure}
use Rattle.trim.specs.declared.changes.Direction.{Direction}
use Rattle.trim.specs.declared.changes.Direction.TheVariants.{Up, Down}
use Rattle.trim.specs.declared.search.Next.{Next}
use Rattle.trim.specs.Search.{next_trim_class}
use Rattle.vote.specs.Vote.{VoteOutcome}
use Rattle.sheet.specs.Sheet.{setting_sheet}
use Rattle.sheet.proofs.GoodSheet.{good_sheet}
use Rattle.report.specs.declared.Origin.TheVariants.{Record}
use Rattle.report.proofs.Short.{report_short}
use Rattle.park_text.proofs.Short.{has_room}
use Rattle.questions.specs.Words.{place_in, line_parts}
use Rattle.arithmetic.specs.Ascii.{ascii}
use Rattle.pages.specs.Characters.{number_text, hex, refusal_line}
use Rattle.pages.proofs.Short.{Within, both, either, word-short, hex-length, number_short, refusal-short}
use Rattle.pages.proofs.Short as pieces
use Rattle.pages.proofs.Same as same
use Rattle.text.proofs.Short.{answer-short}
use Rattle.load_text.specs.Records.{load_record}
use Rattle.load_text.specs.Text.{bytes_line}
use Rattle.load_text.proofs.Every.{short}
use Rattle.questions.specs.Forms.{fits, kind_text, kind_texts, wrong_line}
use Rattle.lines.specs.Values.{whole, value_text, values_text, refusal_values, answer_values}
use Rattle.lines.specs.Texts.{value_line, pair_line, three_line, truth_line, pair_truth_line, some_line, option_line, hex_pair_line}
use Rattle.lines.specs.Stations.{double, given, accepted_line, inverse_line, standard_answer, atmosphere_answer, resolved_answer, station_answer, plausibility_answer}
use Rattle.lines.specs.Rules.{log_line, log_answer, log_word_of, word_line, word_argument, antilog_answer, root_line, root_answer}
use Rattle.lines.specs.Decimal.{shown_line, decimal_answer}
use Rattle.lines.specs.Asked.{name_text, shape_text, unknown_line, value_answer, reading_answer, power_answer, other_answer, function_numbered, function_answer}
use Rattle.lines.specs.Written.{bytes_text, length_text, text_or, written_text}
use Rattle.lines.specs.Classes.{quantity_text, direction_text, turn_text, found_text, class_text}
use Rattle.lines.specs.Votes.{mast_text, vote_text}
use Rattle.lines.specs.Records.{read_text, record_answer_text, sheet_text}
use Rattle.lines.specs.Items.{items_text, items_in, write_answer}
use Rattle.lines.specs.Typed.{park_answer}
use Rattle.lines.specs.Answers.{question_names, question_shapes, record_answer, vote_answer, sheet_answer, load_answer, known_answer, question_answer, answer_line}
use Rattle.ask_run.proofs.Stated.{HasRoom}
use Rattle.ask_run.proofs.FewValues.{Few, station-few, judge-few}

-- a text of n bytes at most, where n is no more
up : {xs : List ℕ} {n : ℕ} → Within xs n → n ≤ 4096 → length xs ≤ 4096
up h few = omega (arith, h.bound)

line : Within (ascii "\n") 1
line = pieces.whole (ascii "\n")

blank : Within (ascii " ") 1
blank = pieces.whole (ascii " ")

-- ---- values
whole-short : (n : ℕ) → Within (whole n) 3
whole-short n = record { bound = either (ltb n 100) (number_text n) _ (omega (arith, (number_short n).bound)) (lit≤ tt) }

value-short : (x : Float) → Within (value_text x) 16
unfolding value_text
value-short x = record { bound = either (is_nan x) (ascii "nan") _ (lit≤ tt) (word-short 16 (to_bits binary64 x)).bound }

values-short : (xs : List Float) → length (values_text xs) ≤ 17 * length xs
unfolding values_text
values-short [] = lit≤ tt
values-short (x ∷ xs) = omega (arith, length-append (ascii " " ++ value_text x) (values_text xs), (value-short x).bound, values-short xs, mul-suc 17 (length xs))

refused-short : (n : ℕ) (values : List Float) → length values ≤ 2 → Within (refusal_values n values) 45
unfolding refusal_values
refused-short n values few =
    let given : Within (values_text values) 34 = record { bound = omega (arith, values-short values) } in
    both (both (both (pieces.whole (ascii "refused ")) (number_short n)) given) line

answer_values-short : (o : Outcome Figures) → Few o → length (answer_values o) ≤ 4096
answer_values-short (accepted f) few = up (answer-short (accepted f)) (lit≤ tt)
answer_values-short (refused n values) few = up (refused-short n values few) (lit≤ tt)

refusal : (n : ℕ) → length (refusal_line n) ≤ 4096
refusal n = up (refusal-short n) (lit≤ tt)

-- ---- the lines of functions
value_line_lem : (x : Float) → length (value_line x) ≤ 4096
unfolding value_line
value_line_lem x = up (both (value-short x) line) (lit≤ tt)

next : (x : Float) → Within (ascii " " ++ value_text x) 17
next x = both blank (value-short x)

pair_line_lem : (x y : Float) → length (pair_line x y) ≤ 4096
unfolding pair_line
pair_line_lem x y = up (both (both (value-short x) (next y)) line) (lit≤ tt)

three_line_lem : (x y z : Float) → length (three_line x y z) ≤ 4096
unfolding three_line
three_line_lem x y z = up (both (both (both (value-short x) (next y)) (next z)) line) (lit≤ tt)

reading_line_lem : (r : Reading) → length (option_line r) ≤ 4096
unfolding some_line value_line
reading_line_lem (Given x) = up (both (pieces.whole (ascii "some ")) (both (value-short x) line)) (lit≤ tt)
reading_line_lem FromLayer = lit≤ tt

truth_short : (b : Bool) → Within (truth_line b) 6
truth_short true = record { bound = lit≤ tt }
truth_short false = record { bound = lit≤ tt }

truth_line_lem : (b : Bool) → length (truth_line b) ≤ 4096
truth_line_lem b = up (truth_short b) (lit≤ tt)

pair_truth_line_lem : (x y : Float) (b : Bool) → length (pair_truth_line x y b) ≤ 4096
unfolding pair_truth_line
pair_truth_line_lem x y b = up (both (both (both (value-short x) (next y)) blank) (truth_short b)) (lit≤ tt)

words-line : (a b : ℕ) → length (hex_pair_line a b) ≤ 4096
unfolding hex_pair_line
words-line a b = up (both (both (both (word-short 16 a) blank) (word-short 16 b)) line) (lit≤ tt)

inverse_line_lem : (o : Outcome Station) → Few o → length (inverse_line o) ≤ 4096
unfolding accepted_line
inverse_line_lem (accepted s) few =
    up (both (both (both (both (pieces.whole (ascii "accepted")) (next s.altitude_m)) (next s.temperature_c)) (next s.pressure_hpa)) line) (lit≤ tt)
inverse_line_lem (refused n values) few = up (refused-short n values few) (lit≤ tt)

log_line_lem : (l : Option Word) → length (log_line l) ≤ 4096
log_line_lem (Some w) = words-line _ _
log_line_lem None = lit≤ tt

word_line_lem : (l : Option Word) → length (word_line l) ≤ 4096
word_line_lem (Some w) = value_line_lem _
word_line_lem None = lit≤ tt

shown_line_lem : (t : List ℕ) → length (shown_line t) ≤ 4096
unfolding shown_line
shown_line_lem t = go (eqb (length t) 0) (ltb 16 (length t)) refl
  where
    go : (a b : Bool) → ltb 16 (length t) ≡ b → length (cond (a || b) (ascii "none\n") (t ++ ascii "\n")) ≤ 4096
    go true b e = lit≤ tt
    go false true e = lit≤ tt
    go false false e = omega (arith, length-append t (ascii "\n"), ltb-false 16 (length t) e)

function_short : (number : ℕ) (ws : List (List ℕ)) → length (function_numbered number ws) ≤ 4096
unfolding function_numbered value_answer reading_answer other_answer standard_answer atmosphere_answer resolved_answer station_answer power_answer log_answer antilog_answer root_answer root_line decimal_answer plausibility_answer
function_short number ws =
    either (ltb number 22) _ _ (either (ltb number 11) _ _ (value_line_lem _) (value_line_lem _))
    (either (ltb number 26) _ _
    (either (eqb number 22) _ _ (truth_line_lem (in_pressure_band (double ws 1)))
    (either (eqb number 23) _ _ (truth_line_lem (in_temperature_band (double ws 1)))
    (either (eqb number 24) _ _ (reading_line_lem (resolved_station_pressure (double ws 1) (double ws 2))) (reading_line_lem (resolved_station_temperature (double ws 1) (double ws 2))))))
    (either (eqb number 26) _ _ (pair_line_lem _ _)
    (either (eqb number 27) _ _ (pair_line_lem _ _)
    (either (eqb number 28) _ _ (three_line_lem _ _ _)
    (either (eqb number 29) _ _ (inverse_line_lem (station places (double ws 1) (given ws 2)) (station-few (double ws 1) (given ws 2)))
    (either (eqb number 30) _ _ (value_line_lem _)
    (either (eqb number 31) _ _ (log_line_lem (logarithm places (double ws 1)))
    (either (eqb number 32) _ _ (word_line_lem (log_word_of (word_argument ws 1) (word_argument ws 2)))
    (either (eqb number 33) _ _ (words-line _ _) (either (eqb number 34) _ _ (shown_line_lem _) (pair_truth_line_lem _ _ _)))))))))))

-- ---- what is said of arguments that do not fit
abbrev at_most_lem : ℕ → List (List ℕ) → Bool
at_most_lem k [] = true
at_most_lem k (w ∷ ws) = leb (length w) k && at_most_lem k ws

each : (k : ℕ) (ws : List (List ℕ)) → at_most_lem k ws ≡ true → (i : ℕ) → length (get_or ws i []) ≤ k
each k [] h i = omega arith
each k (w ∷ ws) h zero = leb-true (length w) k (same.both (leb (length w) k) (at_most_lem k ws) h).0
each k (w ∷ ws) h (suc i) = each k ws (same.both (leb (length w) k) (at_most_lem k ws) h).1 i

kinds_short : (shape : List ℕ) → length (kind_texts shape) ≤ 12 * length shape
unfolding kind_texts
kinds_short [] = lit≤ tt
kinds_short (letter ∷ shape) =
    let one : length (kind_text letter) ≤ 12 =
    either (eqb letter 114) _ _ (lit≤ tt) (either (eqb letter 120) _ _ (lit≤ tt) (either (eqb letter 111) _ _ (lit≤ tt) (either (eqb letter 110) _ _ (lit≤ tt) (lit≤ tt)))) in
    omega (arith, length-append (kind_text letter) (kind_texts shape), kinds_short shape, mul-suc 12 (length shape))

wrong-short : (name shape : List ℕ) → length name ≤ 60 → length shape ≤ 4 → length (wrong_line name shape) ≤ 4096
unfolding wrong_line
wrong-short name shape few fewer =
    let named : Within name 60 = record { bound = few } in
    let kinds : Within (kind_texts shape) 48 = record { bound = omega (arith, kinds_short shape) } in
    up (both (both (both (pieces.whole (ascii "wrong arguments: expected ")) named) kinds) line) (lit≤ tt)

-- ---- records
bytes-short : (t : List ℕ) → length t ≤ 154 → Within (bytes_text t) 308
unfolding bytes_text
bytes-short t few = record { bound = either (eqb (length t) 0) (ascii "-") (hex t) (lit≤ tt) (omega (arith, hex-length t)) }

length-short : (t : List ℕ) → length t ≤ 154 → length (length_text t) ≤ 4096
unfolding length_text
length-short t few = up (both (both (both (whole-short (length t)) blank) (bytes-short t few)) line) (lit≤ tt)

written-short : (o : Outcome (List ℕ)) → length (written_text o) ≤ 4096
unfolding written_text
written-short (refused n values) = refusal n
written-short (accepted t) = go (ltb 154 (length t)) refl
  where
    go : (b : Bool) → ltb 154 (length t) ≡ b → length (text_or length_text (cond b (refused 18 []) (accepted t))) ≤ 4096
    go true e = refusal 18
    go false e = length-short t (ltb-false 154 (length t) e)

quantity : (q : Quantity) → Within (quantity_text q) 12
quantity Temperature = record { bound = lit≤ tt }
quantity MeasuredPressure = record { bound = lit≤ tt }

direction : (d : Direction) → Within (direction_text d) 6
direction Up = record { bound = lit≤ tt }
direction Down = record { bound = lit≤ tt }

found-short : (f : (Option Turn)) → Within (found_text f) 32
unfolding turn_text
found-short (Some t) =
    both (both (both (both (both (quantity t.change.quantity) (direction t.change.direction)) (whole-short t.change.tenths)) (pieces.whole (ascii " class "))) (whole-short t.class)) line
found-short None = record { bound = lit≤ tt }

class-short : (o : Outcome Next) → length (class_text o) ≤ 4096
class-short (accepted n) = up (both (both (pieces.whole (ascii "class ")) (whole-short n.class)) (found-short n.turn)) (lit≤ tt)
class-short (refused n values) = refusal n

vote-short : (v : VoteOutcome) → length (vote_text v) ≤ 4096
unfolding vote_text mast_text
vote-short v =
    let mast : Within (mast_text v.mast) 9 =
    record { bound = either (eqb v.mast 0) [] _ (lit≤ tt) (both (both (pieces.whole (ascii "mast ")) (whole-short v.mast)) blank).bound } in
    up (both mast (answer-short v.outcome)) (lit≤ tt)

read_short : (o : Outcome Readings) → length (read_text o) ≤ 4096
read_short (accepted r) = up (report_short Record r) (lit≤ tt)
read_short (refused n values) = refusal n

record_short : (number : ℕ) (s : List ℕ) → length (record_answer_text number s) ≤ 4096
unfolding record_answer_text judge judge_strictly
record_short number s =
    either (eqb number 0) _ _ (up (answer-short (judge s)) (lit≤ tt))
    (either (eqb number 1) _ _ (up (answer-short (judge_strictly s)) (lit≤ tt))
    (either (eqb number 2) _ _ (answer_values-short (judge s) (judge-few false s))
    (either (eqb number 3) _ _ (answer_values-short (judge_strictly s) (judge-few true s))
    (either (eqb number 4) _ _ (class-short (next_trim_class s))
    (either (eqb number 5) _ _ (written-short (converted true s))
    (either (eqb number 6) _ _ (written-short (converted false s)) (read_short (read_record false s))))))))

sheet_short : (h p u : Float) → length (sheet_text (setting_sheet h p u 1530)) ≤ 4096
sheet_short h p u = go (setting_sheet h p u 1530) refl
  where
    go : (o : Outcome (List ℕ)) → setting_sheet h p u 1530 ≡ o → length (sheet_text o) ≤ 4096
    go (accepted rows) e = omega (arith, (good_sheet.rows_of h p u 1530 rows e).whole)
    go (refused n values) e = refusal n

load_short : (n : ℕ) → length (bytes_line (load_record n)) ≤ 4096
unfolding bytes_line
load_short n = omega (arith, length-append (hex (load_record n)) (ascii "\n"), hex-length (load_record n), short n)

known-short : (number : ℕ) (ws : List (List ℕ)) → length (known_answer number ws) ≤ 4096
unfolding known_answer vote_answer sheet_answer load_answer record_answer
known-short number ws =
    either (eqb number 8) _ _ (vote-short _) (either (eqb number 9) _ _ (sheet_short _ _ _) (either (eqb number 10) _ _ (load_short _) (record_short number _)))

items_short : (r : Option Readings) → length (items_text r) ≤ 4096
items_short (Some r) = written-short (accepted (record_of r))
items_short None = lit≤ tt

-- ---- a line
functions_short : (s : List ℕ) → length (function_answer s) ≤ 4096
unfolding function_answer name_text shape_text line_parts unknown_line
functions_short s =
    let number = place_in (line_parts name_text) (get_or (line_parts s) 0 []) in
    either (ltb number 36) _ _
    (either (fits (line_parts s) (get_or (line_parts shape_text) number [])) _ _ (function_short number (line_parts s)) (wrong-short _ _ (each 60 (line_parts name_text) refl number) (each 4 (line_parts shape_text) refl number)))
    (lit≤ tt)

question_short : (s : List ℕ) → length (question_answer s) ≤ 4096
unfolding question_answer park_answer write_answer line_parts
question_short s =
    let number = place_in question_names (get_or (line_parts s) 0 []) in
    either (leb 13 number) _ _ (functions_short s)
    (either (eqb number 12) _ _ (has_room _)
    (either (eqb number 11) _ _ (items_short (items_in (line_parts s)))
    (either (fits (line_parts s) (get_or question_shapes number [])) _ _ (known-short number (line_parts s)) (wrong-short _ _ (each 60 question_names refl number) (each 4 question_shapes refl number)))))

pub answers_fit : HasRoom
unfolding answer_line
answers_fit s = either (ltb 4096 (length s)) _ _ (lit≤ tt) (either (eqb (length s) 0) _ _ (lit≤ tt) (question_short s))
