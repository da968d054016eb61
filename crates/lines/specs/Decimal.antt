-- The decimal text of a double on a line; `none` where it has none, or one of more than sixteen bytes. Definitions only.
use Rattle.std.specs.Prelude.{ℕ, min, ◌||◌, cond, List, [], ◌++◌, ltb, eqb, length, get_or}
use Rattle.arithmetic.specs.Ascii.{ascii}
use Rattle.decimals.specs.Decimal.{decimal_text}
use Rattle.questions.specs.Arguments.{double_in, number_or}

unfoldable pub shown_line : List ℕ → List ℕ
shown_line t = cond (eqb (length t) 0 || ltb 16 (length t)) (ascii "none\n") (t ++ ascii "\n")

-- with more than fifteen decimals no number has room
unfoldable pub decimal_answer : List (List ℕ) → List ℕ
decimal_answer ws = shown_line (decimal_text (min (number_or (get_or ws 1 [])) 15) (double_in (get_or ws 2 [])))
