-- What one word of a command line says, as `altitude=1586` or `altitude=5203ft`. A word is the list of its bytes. Definitions only.
use Rattle.std.specs.Prelude.{ℕ, suc, ◌+◌, ◌<◌, ◌≡◌, Bool, ◌&&◌, ◌||◌, cond, List, [], ◌∷◌, ◌++◌, eqb, leb, ltb, ℤ, nat_abs, length, get_or, take, drop, Option, Some, None, Result, Ok, Err}
use Rattle.pages.specs.Scan.{index_of}
use Rattle.arithmetic.specs.Ascii.{ascii}
use Rattle.pages.specs.Characters.{same}
use Rattle.decimals.specs.declared.typed.NotACount.{NotACount}
use Rattle.decimals.specs.declared.typed.NotACount.TheVariants as decimal
use Rattle.decimals.specs.Typed.{typed}
use Rattle.fields.specs.Fields.{meanings, altitude}
use Rattle.questions.specs.Words.{place_in}
use Rattle.park_text.specs.declared.typed_word.Problem.{Problem}
use Rattle.park_text.specs.declared.typed_word.Problem.TheVariants.{RecordBeside, NameAlone, UnknownWord, Blank, Comma, MinusSign, NotANumber, UnknownUnit, TooManyDecimals, OutOfRange}
use Rattle.park_text.specs.declared.typed_word.TypedReading.{TypedReading}
use Rattle.park_text.specs.declared.units.Unit.{Unit}
use Rattle.park_text.specs.Units.{unit_named, places_of, reading_in}

-- ---- the names, each at the place of its meaning
abbrev pub reading_names : List (List ℕ)
reading_names =
    ascii "altitude" ∷
    ascii "temperature" ∷
    ascii "station-pressure" ∷
    ascii "qnh" ∷
    ascii "humidity" ∷
    ascii "density-altitude" ∷
    ascii "pressure" ∷ []

-- a place past the last one has no meaning
abbrev pub meaning_at : ℕ → Option ℕ
meaning_at i = cond (ltb i meanings) (Some i) None

unfoldable pub meaning_named : List ℕ → Option ℕ
meaning_named w = meaning_at (place_in reading_names w)

-- ---- a number and its unit
-- the number ends at the first byte that is no digit (48 to 57), sign (43, 45) or point (46)
abbrev pub is_number_byte : ℕ → Bool
is_number_byte b = (leb 48 b && leb b 57) || eqb b 43 || eqb b 45 || eqb b 46

unfoldable pub number_length : List ℕ → ℕ
number_length [] = 0
number_length (b ∷ s) = cond (is_number_byte b) (suc (number_length s)) 0

-- the point of an altitude may have been meant for thousands: three decimals, and a count below 10,000 in size
abbrev pub three_decimals : List ℕ → Bool
three_decimals d = eqb (index_of 46 d + 4) (length d)

abbrev pub is_small : ℤ → Bool
is_small n = ltb (nat_abs n) 10000

abbrev pub is_point : ℕ → Bool → ℤ → Bool
is_point m three n = eqb m altitude && three && is_small n

-- a number in the unit u, which is written or not
abbrev pub value_for : ℕ → Unit → Bool → Bool → Result ℤ NotACount → Result TypedReading Problem
value_for m u written three (Ok n) = Ok (record { meaning = m; reading = reading_in u n; unit_written = written; point = is_point m three n })
value_for m u written three (Err decimal.NotANumber) = Err NotANumber
value_for m u written three (Err decimal.TooManyDecimals) = Err (TooManyDecimals (places_of u))
value_for m u written three (Err decimal.OutOfRange) = Err (OutOfRange (places_of u))

abbrev pub no_unit : ℕ → Result ℤ NotACount → Problem
no_unit m (Ok n) = UnknownUnit m
no_unit m (Err decimal.NotANumber) = NotANumber
no_unit m (Err decimal.TooManyDecimals) = UnknownUnit m
no_unit m (Err decimal.OutOfRange) = UnknownUnit m

-- the number d with what stands behind it, w
abbrev pub in_unit : ℕ → List ℕ → List ℕ → Option Unit → Result TypedReading Problem
in_unit m d w (Some u) = value_for m u (ltb 0 (length w)) (three_decimals d) (typed (places_of u) d)
in_unit m d w None = Err (no_unit m (typed 3 d))

unfoldable pub read_number : ℕ → List ℕ → List ℕ → Result TypedReading Problem
read_number m d w = in_unit m d w (unit_named m w)

-- ---- what stands behind the `=`: no blank (32), no comma (44), no minus sign U+2212 at its start
abbrev pub has : ℕ → List ℕ → Bool
has b s = ltb (index_of b s) (length s)

abbrev pub is_minus_sign : List ℕ → Bool
is_minus_sign s = same (take 3 s) (0xE2 ∷ 0x88 ∷ 0x92 ∷ [])

unfoldable pub read_value : ℕ → List ℕ → Result TypedReading Problem
read_value m s =
    cond (has 32 s) (Err Blank)
    (cond (has 44 s) (Err Comma)
    (cond (is_minus_sign s) (Err MinusSign) (read_number m (take (number_length s) s) (drop (number_length s) s))))

-- ---- a word: a name and what stands behind the first `=` (61)
abbrev pub name_in : List ℕ → List ℕ
name_in w = take (index_of 61 w) w

abbrev pub value_in : List ℕ → List ℕ
value_in w = drop (index_of 61 w + 1) w

abbrev pub named : Option ℕ → List ℕ → Result TypedReading Problem
named (Some m) s = read_value m s
named None s = Err UnknownWord

abbrev pub alone : Option ℕ → Problem
alone (Some m) = NameAlone m
alone None = UnknownWord

unfoldable pub read_named : List ℕ → Result TypedReading Problem
read_named w = cond (has 61 w) (named (meaning_named (name_in w)) (value_in w)) (Err (alone (meaning_named w)))

-- ---- among other words a record has no place; `record` is the name after those of readings
abbrev pub is_record : List ℕ → Bool
is_record w = same (take 7 w) (ascii "record=")

unfoldable pub read_word : List ℕ → Result TypedReading Problem
read_word w = cond (is_record w) (Err RecordBeside) (cond (same w (ascii "record")) (Err (NameAlone meanings)) (read_named w))

-- the word w says the number d in the unit u of the meaning m: its name, `=`, the number, and the unit's name behind it
pub record Says (w : List ℕ) (m : ℕ) (u : Unit) (d : List ℕ) : Type 0 where
  pub unit : List ℕ
  pub known : m < meanings
  pub whole : w ≡ get_or reading_names m [] ++ 61 ∷ (d ++ unit)
  pub number : number_length (d ++ unit) ≡ length d
  pub named_by : unit_named m unit ≡ Some u
