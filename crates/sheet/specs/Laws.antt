-- What may be relied on of a good sheet and of a refused one, document 02, K1. Definitions only.
use Rattle.std.specs.Prelude.{ℕ, zero, suc, ◌≤◌, ◌≡◌, ◌⊎◌, List, [], ◌∷◌, ◌++◌, Float, length}
use Rattle.refusal.specs.Outcomes.{Row, row}
use Rattle.station.specs.Figures.{figures_of}
use Rattle.mast.specs.Judge.{air_rows}
use Rattle.sheet.specs.Row.{row_text, is_too_wide, station_of_row}
use Rattle.sheet.specs.Sheet.{celsius_of_row}

-- ---- a refusal: 11, 12 and 13 hand out the input, 14 to 17 the number alone
abbrev pub HandedOut : ℕ → List Float → Type 0
HandedOut number values = ((11 ≤ number) × (number ≤ 13) × (length values ≡ 1)) ⊎ ((14 ≤ number) × (number ≤ 17) × (values ≡ []))

-- ---- each number has exactly its cause: 16, then 11 to 13 of the inputs, then row by row 14, 15 and 17
-- a row's checks, and its text
abbrev pub line_rows : Float → Float → Float → Float → List Row
line_rows h p u t = let a = station_of_row h p u t in air_rows a ++ row (is_too_wide t (figures_of a)) 17 [] ∷ []

abbrev pub line_text : Float → Float → Float → Float → List ℕ
line_text h p u t = row_text t (figures_of (station_of_row h p u t))

-- those of the first n rows
unfoldable pub lines_rows : Float → Float → Float → ℕ → List Row
lines_rows h p u zero = []
lines_rows h p u (suc n) = lines_rows h p u n ++ line_rows h p u (celsius_of_row n)

unfoldable pub lines_text : Float → Float → Float → ℕ → List ℕ
lines_text h p u zero = []
lines_text h p u (suc n) = lines_text h p u n ++ line_text h p u (celsius_of_row n)

-- in this order, where `repeated n ns` has the numbers ns n times
unfoldable pub repeated : ℕ → List ℕ → List ℕ
repeated zero ns = []
repeated (suc n) ns = repeated n ns ++ ns
