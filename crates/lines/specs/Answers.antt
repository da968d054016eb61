-- The answer to a line: by its first word, the question, and the words after it. Definitions only.
use Rattle.std.specs.Prelude.{ℕ, cond, List, [], leb, ltb, eqb, length, get_or}
use Rattle.arithmetic.specs.Ascii.{ascii}
use Rattle.questions.specs.Words.{place_in, line_parts}
use Rattle.questions.specs.Digits.{bytes_in}
use Rattle.questions.specs.Arguments.{double_in, number_or}
use Rattle.questions.specs.Forms.{fits, wrong_line}
use Rattle.load_text.specs.Records.{load_record}
use Rattle.load_text.specs.Text.{bytes_line}
use Rattle.vote.specs.Vote.{vote}
use Rattle.sheet.specs.Sheet.{setting_sheet}
use Rattle.lines.specs.Records.{record_answer_text, sheet_text}
use Rattle.lines.specs.Votes.{vote_text}
use Rattle.lines.specs.Asked.{function_answer}
use Rattle.lines.specs.Items.{write_answer}
use Rattle.lines.specs.Typed.{park_answer}

-- ---- the questions, and the shapes of the arguments of all but the last two, which take any words
abbrev pub question_names : List (List ℕ)
question_names = line_parts (ascii "judge strict judge-values strict-values class counts doubles report vote sheet load write park")

abbrev pub question_shapes : List (List ℕ)
question_shapes = line_parts (ascii "r r r r r r r r rrr xxx n")

-- ---- the answer to the words of a line whose arguments fit
-- a line has room for no longer record
abbrev pub record_argument : List (List ℕ) → ℕ → List ℕ
record_argument ws i = bytes_in 2048 (get_or ws i [])

unfoldable pub record_answer : ℕ → List (List ℕ) → List ℕ
record_answer number ws = record_answer_text number (record_argument ws 1)

unfoldable pub vote_answer : List (List ℕ) → List ℕ
vote_answer ws = vote_text (vote (record_argument ws 1) (record_argument ws 2) (record_argument ws 3))

unfoldable pub sheet_answer : List (List ℕ) → List ℕ
sheet_answer ws = sheet_text (setting_sheet (double_in (get_or ws 1 [])) (double_in (get_or ws 2 [])) (double_in (get_or ws 3 [])) 1530)

unfoldable pub load_answer : List (List ℕ) → List ℕ
load_answer ws = bytes_line (load_record (number_or (get_or ws 1 [])))

unfoldable pub known_answer : ℕ → List (List ℕ) → List ℕ
known_answer number ws =
    cond (eqb number 8) (vote_answer ws)
    (cond (eqb number 9) (sheet_answer ws)
    (cond (eqb number 10) (load_answer ws) (record_answer number ws)))

-- ---- a line
-- the question with a number; any other is a function's name, or unknown
abbrev pub numbered_answer : ℕ → List ℕ → List ℕ
numbered_answer number line =
    let ws = line_parts line in
    cond (leb 13 number) (function_answer line)
    (cond (eqb number 12) (park_answer line)
    (cond (eqb number 11) (write_answer ws)
    (cond (fits ws (get_or question_shapes number [])) (known_answer number ws) (wrong_line (get_or question_names number []) (get_or question_shapes number [])))))

unfoldable pub question_answer : List ℕ → List ℕ
question_answer line = numbered_answer (place_in question_names (get_or (line_parts line) 0 [])) line

-- an empty line is answered by an empty line
unfoldable pub answer_line : List ℕ → List ℕ
answer_line line =
    cond (ltb 4096 (length line)) (ascii "line too long: expected 4096 bytes at most\n")
    (cond (eqb (length line) 0) (ascii "\n") (question_answer line))
