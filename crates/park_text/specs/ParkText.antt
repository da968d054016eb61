-- What the program `park` prints for its words: the report of the readings, or of the record that is the only word; or the sheet to pin up, where the first
-- word is `sheet`; or one line on the first word that is not understood; or how it is used, where there is no word or help is asked for. Definitions only.
use Rattle.std.specs.Prelude.{ℕ, ◌%◌, Bool, false, ◌&&◌, ◌||◌, cond, List, [], ◌∷◌, ◌++◌, eqb, ltb, length, get_or, drop, Result, Ok, Err}
use Rattle.record.specs.declared.entries.Readings.{Readings}
use Rattle.pages.specs.Characters.{same}
use Rattle.arithmetic.specs.Ascii.{ascii}
use Rattle.report.specs.declared.Origin.TheVariants.{Words}
use Rattle.report.specs.Report.{report_text, record_text}
use Rattle.sheet_text.specs.SheetText.{sheet_of}
use Rattle.questions.specs.Digits.{are_hex, bytes_in}
use Rattle.park_text.specs.declared.typed_word.Problem.TheVariants.{NotARecord, RecordTooLong}
use Rattle.park_text.specs.declared.typed_word.Problem.{Problem}
use Rattle.park_text.specs.declared.typed_word.TypedReading.{TypedReading}
use Rattle.park_text.specs.declared.typed_readings.WrongWord.{WrongWord}
use Rattle.park_text.specs.Word.{is_record, read_word}
use Rattle.park_text.specs.ParkLines.{problem_line, unit_line}
use Rattle.park_text.specs.Understood.{understand}

-- ---- no word, or one that asks for help
unfoldable pub usage_text : List ℕ
usage_text =
    ascii "usage: park altitude=1586 temperature=24 qnh=1019.3 humidity=32\n" ++
    ascii "       park sheet altitude=1586 pressure=841.9 humidity=32\n" ++
    ascii "       park record=11000400183350\n" ++
    ascii "words in any order, each a number with up to three decimals and, if you like,\n" ++
    ascii "its unit, the first of these where none is written:\n" ++
    ascii "  altitude=          m, ft\n" ++
    ascii "  temperature=       C, F, K\n" ++
    ascii "  pressure=          hPa, kPa, inHg; measured at the station\n" ++
    ascii "  station-pressure=  hPa, kPa, inHg; of a mast that sends 1013.25 until it is set\n" ++
    ascii "                     up: 1012.75 to 1013.75 counts as the standard pressure\n" ++
    ascii "  qnh=               hPa, kPa, inHg\n" ++
    ascii "  humidity=          percent, %; dry air where it is absent\n" ++
    ascii "  density-altitude=  m, ft; in place of altitude and pressure\n" ++
    ascii "a temperature from 14.9 to 15.1 C counts as the standard one; a note says so\n" ++
    ascii "sheet prints a page of densities to pin up, for one of the three pressures\n" ++
    ascii "record= prints the report of a record that was kept, in hex digits\n"

-- ---- a command line that is not read
abbrev pub too_long_text : List ℕ
too_long_text = ascii "the command line is too long: at most 4,096 bytes, a newline counted for each word\n"

abbrev pub is_help : List ℕ → Bool
is_help w = (same w (ascii "help") || same w (ascii "--help")) || same w (ascii "-h")

-- ---- the words: the text of their readings, or the line on the first that is not understood
abbrev pub said : (Readings → List ℕ) → List (List ℕ) → Result Readings WrongWord → List ℕ
said text ws (Ok r) = text r
said text ws (Err e) = problem_line (get_or ws e.number []) e.problem

unfoldable pub sheet_words : List (List ℕ) → List ℕ
sheet_words ws = said sheet_of ws (understand ws)

-- the lines of the readings whose units were written, in the order of the words, and the report
unfoldable pub unit_lines : List (List ℕ) → List ℕ
unit_lines [] = []
unit_lines (w ∷ ws) = unit_line w (read_word w) ++ unit_lines ws

-- whether the altitude was typed with a point that may mean thousands
abbrev pub point_typed : Result TypedReading Problem → Bool
point_typed (Ok t) = t.point
point_typed (Err p) = false

unfoldable pub any_point : List (List ℕ) → Bool
any_point [] = false
any_point (w ∷ ws) = point_typed (read_word w) || any_point ws

abbrev pub report_of : List (List ℕ) → Readings → List ℕ
report_of ws r = unit_lines ws ++ report_text (Words (any_point ws)) r

unfoldable pub readings_words : List (List ℕ) → List ℕ
readings_words ws = said (report_of ws) ws (understand ws)

unfoldable pub words_text : List ℕ → List (List ℕ) → List ℕ
words_text w ws = cond (same w (ascii "sheet")) (sheet_words ws) (readings_words (w ∷ ws))

-- ---- a record that is the only word: the report of its bytes, two hex digits each
abbrev pub are_bytes : List ℕ → Bool
are_bytes d = ltb 0 (length d) && eqb (length d % 2) 0 && are_hex d

unfoldable pub record_word : List ℕ → List ℕ
record_word w =
    let d = drop 7 w in
    cond (are_bytes d) (cond (ltb 512 (length d)) (problem_line w RecordTooLong) (record_text (bytes_in 256 d))) (problem_line w NotARecord)

abbrev pub is_record_alone : List ℕ → List (List ℕ) → Bool
is_record_alone w ws = is_record w && eqb (length ws) 0

unfoldable pub typed_text : List ℕ → List (List ℕ) → List ℕ
typed_text w ws = cond (is_record_alone w ws) (record_word w) (words_text w ws)

unfoldable pub park_text : List (List ℕ) → List ℕ
park_text [] = usage_text
park_text (w ∷ ws) = cond (is_help w) usage_text (typed_text w ws)
