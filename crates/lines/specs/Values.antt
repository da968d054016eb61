-- Values as text, in ASCII: a double's sixteen hex digits, or `nan`; a refusal with the values that it hands out, a blank before each. Definitions only.
use Rattle.std.specs.Prelude.{ℕ, ◌+◌, ◌/◌, ◌%◌, cond, List, [], ◌∷◌, ◌++◌, ltb, Float}
use Rattle.std.specs.Float.{binary64}
use Rattle.std.specs.Float.Ieee.{to_bits, is_nan}
use Rattle.refusal.specs.Outcomes.{Outcome, accepted, refused}
use Rattle.refusal.specs.declared.judge.Figures.{Figures}
use Rattle.arithmetic.specs.Ascii.{ascii}
use Rattle.pages.specs.Characters.{number_text, hex_digits}
use Rattle.text.specs.Lines.{station_line, air_line}

-- a number below 1,000
abbrev pub whole : ℕ → List ℕ
whole n = cond (ltb n 100) (number_text n) ((48 + n / 100) ∷ (48 + n / 10 % 10) ∷ (48 + n % 10) ∷ [])

unfoldable pub value_text : Float → List ℕ
value_text x = cond (is_nan x) (ascii "nan") (hex_digits 16 (to_bits binary64 x))

unfoldable pub values_text : List Float → List ℕ
values_text [] = []
values_text (x ∷ xs) = ascii " " ++ value_text x ++ values_text xs

-- ---- a refusal, and an answer, with the values
unfoldable pub refusal_values : ℕ → List Float → List ℕ
refusal_values number values = ascii "refused " ++ number_text number ++ values_text values ++ ascii "\n"

abbrev pub answer_values : Outcome Figures → List ℕ
answer_values (accepted f) = station_line f ++ air_line f
answer_values (refused number values) = refusal_values number values
