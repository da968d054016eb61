-- The rows of a setting sheet, counted from 0 at -10 °C: the density of each, the first that is refused, and the first whose density is below a limit.
-- A site s has the altitude in m, the pressure in hPa and the humidity in percent. Definitions only.
use Rattle.std.specs.Prelude.{ℕ, Bool, true, false, List, Float, Option}
use Rattle.std.specs.Float.Ieee.{lt}
use Rattle.std.specs.List.{find, range_with_len}
use Rattle.refusal.specs.Outcomes.{Outcome, accepted, refused}
use Rattle.station.specs.Figures.{figures_of}
use Rattle.sheet.specs.Row.{station_of_row, row_outcome}
use Rattle.sheet.specs.Sheet.{celsius_of_row}
use Rattle.sheet_text.specs.declared.rows.Site.{Site}

-- the density in row n
abbrev pub row_density : Site → ℕ → Float
row_density s n = (figures_of (station_of_row s.altitude_m s.pressure_hpa s.humidity_percent (celsius_of_row n))).density_kg_m3

abbrev pub is_refused : Outcome (List ℕ) → Bool
is_refused (accepted line) = false
is_refused (refused number values) = true

-- of the 51 rows, where there is one
unfoldable pub refused_row : Site → Option ℕ
refused_row s = find (λ n. is_refused (row_outcome s.altitude_m s.pressure_hpa s.humidity_percent (celsius_of_row n))) (range_with_len 0 51)

unfoldable pub first_below : Site → Float → Option ℕ
first_below s limit = find (λ n. lt (row_density s n) limit) (range_with_len 0 51)
