-- Lines that the program `park` prints: what is wrong with a word and what is expected, and the reading of a word in a unit.
-- Definitions only.
use Rattle.std.specs.Prelude.{ℕ, ◌+◌, ◌||◌, cond, List, [], ◌∷◌, ◌++◌, eqb, ltb, Float, get_or, take, drop, Result, Ok, Err}
use Rattle.pages.specs.Scan.{index_of}
use Rattle.decimals.specs.Shown.{shown}
use Rattle.arithmetic.specs.Ascii.{ascii}
use Rattle.pages.specs.Characters.{hex}
use Rattle.park_text.specs.declared.typed_word.Problem.{Problem}
use Rattle.park_text.specs.declared.typed_word.Problem.TheVariants.{RecordBeside, NotARecord, RecordTooLong, NameAlone, UnknownWord, Blank, Comma, MinusSign, NotANumber, UnknownUnit, TooManyDecimals, OutOfRange, RepeatedWord}
use Rattle.park_text.specs.declared.typed_word.TypedReading.{TypedReading}
use Rattle.park_text.specs.Word.{name_in}
use Rattle.park_text.specs.Units.{by_quantity}

-- ---- words on a page
-- a byte outside printable ASCII as \xHH, and `new` in the place of `old`
abbrev pub byte_with : ℕ → List ℕ → ℕ → List ℕ
byte_with old new b = cond (eqb b old) new (cond (ltb b 32 || ltb 126 b) (ascii "\\x" ++ hex (b ∷ [])) (b ∷ []))

unfoldable pub typed_with : ℕ → List ℕ → List ℕ → List ℕ
typed_with old new [] = []
typed_with old new (b ∷ w) = byte_with old new b ++ typed_with old new w

-- a quote (34) in the place of a quote: the word as it was typed
abbrev pub as_typed : List ℕ → List ℕ
as_typed w = typed_with 34 (ascii "\"") w

-- its first 64 bytes in quotes
unfoldable pub quoted : List ℕ → List ℕ
quoted w = ascii "\"" ++ as_typed (take 64 w) ++ ascii "\""

-- ---- what is wrong with a word w
abbrev pub examples : List (List ℕ)
examples =
    ascii "altitude=1586\n" ∷
    ascii "temperature=24\n" ∷
    ascii "station-pressure=841.9\n" ∷
    ascii "qnh=1019.3\n" ∷
    ascii "humidity=32\n" ∷
    ascii "density-altitude=2100\n" ∷
    ascii "pressure=841.9\n" ∷
    ascii "record=11000400183350\n" ∷ []

unfoldable pub example_of : ℕ → List ℕ
example_of m = get_or examples m []

unfoldable pub alone_message : ℕ → List ℕ
alone_message m = ascii ": a name without =, type " ++ example_of m

unfoldable pub unit_message : ℕ → List ℕ
unit_message m = ascii ": unknown unit, expected " ++ by_quantity m (ascii "m or ft\n") (ascii "C, F or K\n") (ascii "percent or %\n") (ascii "hPa, kPa or inHg\n")

-- four decimals are those of inHg
abbrev pub decimals_message : ℕ → List ℕ
decimals_message k =
    cond (eqb k 4) (ascii ": more than four decimals, as 30.1025inHg\n") (ascii ": more than three decimals, expected thousandths at most, as 841.897\n")

abbrev pub range_message : ℕ → List ℕ
range_message k =
    cond (eqb k 4) (ascii ": out of range, expected a number from -214748.3648 to 214748.3647\n")
    (ascii ": out of range, expected a number from -2147483.648 to 2147483.647\n")

-- blanks are 32, commas 44
unfoldable pub blank_message : List ℕ → List ℕ
blank_message w = ascii ": a blank, type " ++ typed_with 32 [] w ++ ascii "\n"

unfoldable pub comma_message : List ℕ → List ℕ
comma_message w = ascii ": a comma, type " ++ typed_with 44 (ascii ".") w ++ ascii " for decimals, " ++ typed_with 44 [] w ++ ascii " for thousands\n"

-- the minus sign's three bytes stand behind the `=` (61)
unfoldable pub minus_message : List ℕ → List ℕ
minus_message w =
    ascii ": a minus sign that is no hyphen, type " ++ as_typed (name_in w) ++ ascii "=-" ++ as_typed (drop (index_of 61 w + 4) w) ++ ascii "\n"

unfoldable pub message_of : List ℕ → Problem → List ℕ
message_of w RecordBeside = ascii ": record= stands alone, as park record=11000400183350\n"
message_of w NotARecord = ascii ": not a record, expected an even number of hex digits, as record=11000400183350\n"
message_of w RecordTooLong = ascii ": more than 256 bytes, and no record is as long\n"
message_of w (NameAlone m) = alone_message m
message_of w UnknownWord =
    ascii
    ": unknown word, expected altitude=, temperature=, pressure=, station-pressure=, qnh=, humidity= or density-altitude= and a number\n"
message_of w Blank = blank_message w
message_of w Comma = comma_message w
message_of w MinusSign = minus_message w
message_of w NotANumber = ascii ": not a number, expected digits with up to three decimals, as 1586 or -12.5\n"
message_of w (UnknownUnit m) = unit_message m
message_of w (TooManyDecimals k) = decimals_message k
message_of w (OutOfRange k) = range_message k
message_of w RepeatedWord = ascii ": repeated, expected each reading once\n"

unfoldable pub problem_line : List ℕ → Problem → List ℕ
problem_line w p = quoted w ++ message_of (take 64 w) p

-- ---- the reading of a word whose unit was written
unfoldable pub reading_line : List ℕ → ℕ → Float → List ℕ
reading_line w m x = take 64 w ++ ascii " is " ++ shown 3 x ++ by_quantity m (ascii " m\n") (ascii " C\n") (ascii " percent\n") (ascii " hPa\n")

abbrev pub unit_line : List ℕ → Result TypedReading Problem → List ℕ
unit_line w (Ok t) = cond t.unit_written (reading_line w t.meaning t.reading) []
unit_line w (Err p) = []
