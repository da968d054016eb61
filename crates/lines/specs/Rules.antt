-- The functions by whole numbers alone, by the words of their line. A log word is two words: its whole part in two's complement, and what is left of it, below
-- 2^60. Definitions only.
use Rattle.std.specs.Prelude.{ℕ, ◌-◌, ◌^◌, true, false, cond, List, [], ltb, leb, get_or, Option, Some, None}
use Rattle.arithmetic.specs.Places.{places}
use Rattle.arithmetic.specs.Whole.{word_value}
use Rattle.arithmetic.specs.declared.word.Word.{Word}
use Rattle.antilog.specs.Log.{logarithm}
use Rattle.antilog.specs.Antilog.{antilog}
use Rattle.arithmetic.specs.Value.{value}
use Rattle.roots.specs.Root.{root}
use Rattle.arithmetic.specs.Ascii.{ascii}
use Rattle.questions.specs.Digits.{hex_number}
use Rattle.questions.specs.Arguments.{double_in}
use Rattle.lines.specs.Texts.{value_line, hex_pair_line}

abbrev pub word_argument : List (List ℕ) → ℕ → ℕ
word_argument ws i = hex_number (get_or ws i [])

-- ---- the log word: -(a + 1) has the whole part -1 - whole, and what is left of a up to 2^60 - 1
abbrev pub whole_of : Word → ℕ
whole_of w = cond w.negative (2 ^ 64 - 1 - w.whole) w.whole

abbrev pub part_of : Word → ℕ
part_of w = cond w.negative (2 ^ 60 - 1 - w.part) w.part

abbrev pub log_line : Option Word → List ℕ
log_line (Some w) = hex_pair_line (whole_of w) (part_of w)
log_line None = ascii "none\n"

unfoldable pub log_answer : List (List ℕ) → List ℕ
log_answer ws = log_line (logarithm places (double_in (get_or ws 1 [])))

-- ---- and back
abbrev pub log_word_of : ℕ → ℕ → Option Word
log_word_of k f =
    cond (ltb (2 ^ 60 - 1) f) None
    (cond (ltb k (2 ^ 32)) (Some (record { negative = false; whole = k; part = f }))
    (cond (leb (2 ^ 64 - 2 ^ 32) k) (Some (record { negative = true; whole = 2 ^ 64 - 1 - k; part = 2 ^ 60 - 1 - f })) None))

abbrev pub word_line : Option Word → List ℕ
word_line (Some w) = value_line (antilog places (word_value places w))
word_line None = ascii "wrong arguments: expected antilog WORD WORD, FFFFFFFF00000000 to 00000000FFFFFFFF and below 1000000000000000\n"

unfoldable pub antilog_answer : List (List ℕ) → List ℕ
antilog_answer ws = word_line (log_word_of (word_argument ws 1) (word_argument ws 2))

-- ---- the floor of a square root, by the first way and from the table
unfoldable pub root_line : ℕ → List ℕ
root_line n = hex_pair_line (root n) (root n)

unfoldable pub root_answer : List (List ℕ) → List ℕ
root_answer ws = root_line (value (record { hi = word_argument ws 1; lo = word_argument ws 2 }))
