-- What the page of promises spells out, in the words of the proofs: statements, and what only these cite. Definitions only.
use Rattle.sheet.proofs.Kit.{ℕ, ◌*◌, ◌≤◌, ◌<◌, ◌≡◌, List, [], ◌∷◌, ◌++◌, Float, lt, length, take, drop, T, ltb, accepted, Row, row, row_outcome, celsius_of_row, rows, setting_sheet, sheet_input_rows, lines_rows}

-- "The first n rows of a good sheet are always the rows of the first n temperatures, rising": the text is one of 1,530 bytes, its first 30 n bytes are the
-- first n rows, the 30 bytes of row n are the row of the temperature n - 10 °C, and a later temperature is higher
pub record FirstRows (h p u : Float) (text : List ℕ) : Type 0 where
  pub whole : length text ≡ 1530
  pub first : (n : ℕ) → n ≤ 51 → rows h p u n ≡ accepted (take (30 * n) text)
  pub each : (n : ℕ) → n < 51 → row_outcome h p u (celsius_of_row n) ≡ accepted (take 30 (drop (30 * n) text))

pub record GoodSheet : Type 0 where
  pub rows_of : (h p u : Float) (room : ℕ) (text : List ℕ) → setting_sheet h p u room ≡ accepted text → FirstRows h p u text
  pub rising : (m n : ℕ) → m < n → n < 51 → T (lt (celsius_of_row m) (celsius_of_row n))

abbrev pub sheet_rows : Float → Float → Float → ℕ → List Row
sheet_rows h p u room = (row (ltb room 1530) 16 [] ∷ sheet_input_rows h p u) ++ lines_rows h p u 51
