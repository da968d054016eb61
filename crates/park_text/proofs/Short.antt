-- No text that is printed has more than 4,096 bytes. Assumes nothing.
use Rattle.arithmetic.proofs.Kit.{◌≡◌, refl, List, [], ◌∷◌, ℕ, ◌*◌, ◌/◌, ◌≤◌, min, zero-le, arith, lit≤, ltb, length, get_or, drop, length-append}
use Rattle.std.specs.Prelude.{Result, Ok, Err}
use Rattle.record.specs.declared.entries.Readings.{Readings}
use Rattle.arithmetic.specs.Ascii.{ascii}
use Rattle.pages.specs.Characters.{same}
use Rattle.pages.proofs.Filled.{length-up_to}
use Rattle.pages.proofs.Short.{either}
use Rattle.report.specs.declared.Origin.TheVariants.{Words}
use Rattle.report.specs.Report.{report_text}
use Rattle.report.proofs.Short.{report_short, record_text-short}
use Rattle.sheet_text.specs.SheetText.{sheet_of}
use Rattle.sheet_text.proofs.Short.{sheet_short}
use Rattle.questions.specs.Digits.{byte_at, bytes_in}
use Rattle.park_text.specs.declared.typed_word.Problem.TheVariants.{NotARecord, RecordTooLong}
use Rattle.park_text.specs.Word.{read_word}
use Rattle.park_text.specs.ParkLines.{unit_line}
use Rattle.park_text.specs.declared.typed_readings.WrongWord.{WrongWord}
use Rattle.park_text.specs.Understood.{understand}
use Rattle.park_text.specs.ParkText.{usage_text, is_help, said, sheet_words, unit_lines, any_point, report_of, readings_words, words_text, are_bytes, record_word, is_record_alone, typed_text, park_text}
use Rattle.park_text.proofs.Stated.{HasRoom}
use Rattle.park_text.proofs.LinesShort.{problem-short, unit_line-short}
use Rattle.park_text.proofs.Seven.{at_most-seven}

-- ---- words
said-short : (text : Readings → List ℕ) (ws : List (List ℕ)) → ((r : Readings) → understand ws ≡ Ok r → length (text r) ≤ 4096) → length (said text ws (understand ws)) ≤ 4096
said-short text ws short = go (understand ws) refl
  where
    go : (u : Result Readings WrongWord) → understand ws ≡ u → length (said text ws u) ≤ 4096
    go (Ok r) e = short r e
    go (Err p) e = omega (arith, (problem-short (get_or ws p.number []) p.problem).bound)

unit_lines-short : (ws : List (List ℕ)) → length (unit_lines ws) ≤ 93 * length ws
unfolding unit_lines
unit_lines-short [] = zero-le
unit_lines-short (w ∷ ws) = omega (arith, length-append (unit_line w (read_word w)) (unit_lines ws), unit_line-short w (read_word w), unit_lines-short ws)

report_fits : (ws : List (List ℕ)) (r : Readings) → understand ws ≡ Ok r → length (report_of ws r) ≤ 4096
report_fits ws r e = omega (arith, length-append (unit_lines ws) (report_text (Words (any_point ws)) r), unit_lines-short ws, at_most-seven ws r e, (report_short (Words (any_point ws)) r).bound)

words-short : (w : List ℕ) (ws : List (List ℕ)) → length (words_text w ws) ≤ 4096
unfolding words_text sheet_words readings_words
words-short w ws =
    either (same w (ascii "sheet")) (sheet_words ws) (readings_words (w ∷ ws)) (said-short sheet_of ws (λ r e. omega (arith, (sheet_short r).bound)))
    (said-short (report_of (w ∷ ws)) (w ∷ ws) (report_fits (w ∷ ws)))

-- ---- a record
bytes-few : (d : List ℕ) → length (bytes_in 256 d) ≤ 256
unfolding bytes_in
bytes-few d = omega (arith, length-up_to (byte_at d) (min (length d / 2) 256))

record_short : (w : List ℕ) → length (record_word w) ≤ 4096
unfolding record_word
record_short w =
    let d = drop 7 w in
    either (are_bytes d) _ _
    (either (ltb 512 (length d)) _ _ (omega (arith, (problem-short w RecordTooLong).bound))
    (omega (arith, (record_text-short (bytes_in 256 d) 256 (bytes-few d)).bound)))
    (omega (arith, (problem-short w NotARecord).bound))

typed-short : (w : List ℕ) (ws : List (List ℕ)) → length (typed_text w ws) ≤ 4096
unfolding typed_text
typed-short w ws = either (is_record_alone w ws) (record_word w) (words_text w ws) (record_short w) (words-short w ws)

pub has_room : HasRoom
unfolding park_text usage_text
has_room [] = lit≤ tt
has_room (w ∷ ws) = either (is_help w) _ _ (lit≤ tt) (typed-short w ws)
