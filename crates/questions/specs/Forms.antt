-- The forms of arguments, a letter for each: r a record, x a double, w a word, both by their sixteen hex digits, o a double that may be absent, n a number. A
-- shape is a question's letters, and fits a line whose first word is the question. Definitions only.
use Rattle.std.specs.Prelude.{ℕ, ◌+◌, ◌%◌, Bool, true, false, ◌&&◌, ◌||◌, cond, List, [], ◌∷◌, ◌++◌, eqb, ltb, length, get_or, Option, Some, None}
use Rattle.arithmetic.specs.Ascii.{ascii}
use Rattle.pages.specs.Characters.{same}
use Rattle.questions.specs.Digits.{are_hex, hex_number, number_in}

-- ---- one argument
abbrev pub is_word : List ℕ → Bool
is_word w = eqb (length w) 16 && are_hex w

-- a word, or `none`
abbrev pub is_none : List ℕ → Bool
is_none w = same w (ascii "none") || is_word w

unfoldable pub given_in : List ℕ → Option ℕ
given_in w = cond (same w (ascii "none")) None (Some (hex_number w))

-- bytes of two hex digits each, one at least, or `-` for the empty record
abbrev pub is_record : List ℕ → Bool
is_record w = same w (ascii "-") || (ltb 0 (length w) && (eqb (length w % 2) 0 && are_hex w))

abbrev pub is_found : Option ℕ → Bool
is_found (Some n) = true
is_found None = false

abbrev pub is_number : List ℕ → Bool
is_number w = is_found (number_in w)

-- r, o and n are 114, 111 and 110
abbrev pub is_of : ℕ → List ℕ → Bool
is_of letter w = cond (eqb letter 114) (is_record w) (cond (eqb letter 111) (is_none w) (cond (eqb letter 110) (is_number w) (is_word w)))

-- ---- all arguments: word i of the line has letter i - 1
unfoldable pub are_from : List (List ℕ) → ℕ → List ℕ → Bool
are_from ws i [] = true
are_from ws i (letter ∷ shape) = is_of letter (get_or ws i []) && are_from ws (i + 1) shape

abbrev pub are_of : List (List ℕ) → List ℕ → Bool
are_of ws shape = are_from ws 1 shape

unfoldable pub fits : List (List ℕ) → List ℕ → Bool
fits ws shape = eqb (length ws) (length shape + 1) && are_of ws shape

-- ---- what is said where they do not fit
-- x is 120
abbrev pub kind_text : ℕ → List ℕ
kind_text letter =
    cond (eqb letter 114) (ascii " RECORD")
    (cond (eqb letter 120) (ascii " DOUBLE")
    (cond (eqb letter 111) (ascii " DOUBLE|none")
    (cond (eqb letter 110) (ascii " NUMBER") (ascii " WORD"))))

unfoldable pub kind_texts : List ℕ → List ℕ
kind_texts [] = []
kind_texts (letter ∷ shape) = kind_text letter ++ kind_texts shape

unfoldable pub wrong_line : List ℕ → List ℕ → List ℕ
wrong_line name shape = ascii "wrong arguments: expected " ++ name ++ kind_texts shape ++ ascii "\n"
