-- The setting sheet of document 02, K1: 51 rows, from -10 to 40 °C by whole degrees, or the number of one refusal with its values. Altitude h in m,
-- station pressure p in hPa, humidity u in percent. Definitions only.
use Rattle.std.specs.Prelude.{ℕ, zero, suc, List, [], ◌∷◌, ◌++◌, ltb, Float}
use Rattle.std.specs.Float.{binary64}
use Rattle.std.specs.Float.Ieee.{of_int, minus}
use Rattle.refusal.specs.Outcomes.{Outcome, accepted, ◌⟫◌, Row, row, ◌then◌}
use Rattle.mast.specs.Checks.{finite_rows, pressure_rows, humidity_rows}
use Rattle.sheet.specs.Row.{row_outcome}

-- the temperature of row n, counted from 0: n - 10 °C
unfoldable pub celsius_of_row : ℕ → Float
celsius_of_row n = of_int binary64 (minus n 10)

-- the first n rows, or the refusal of the first that is refused
unfoldable pub rows : Float → Float → Float → ℕ → Outcome (List ℕ)
rows h p u zero = accepted []
rows h p u (suc n) = rows h p u n ⟫ (λ text. row_outcome h p u (celsius_of_row n) ⟫ (λ line. accepted (text ++ line)))

-- 11, 12 and 13: the inputs, as those of a record
abbrev pub sheet_input_rows : Float → Float → Float → List Row
sheet_input_rows h p u = finite_rows h ++ pressure_rows p ++ humidity_rows u

-- 16: a page of fewer than 1,530 bytes. Then the inputs, which all rows share, then row by row 14, 15 and 17.
unfoldable pub setting_sheet : Float → Float → Float → ℕ → Outcome (List ℕ)
unfolding rows
setting_sheet h p u room = (row (ltb room 1530) 16 [] ∷ sheet_input_rows h p u) then rows h p u 51

-- an outcome without its text
abbrev pub bare : Outcome (List ℕ) → Outcome (Unit {0})
bare o = o ⟫ (λ _. accepted tt)
