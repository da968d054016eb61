-- The sheet to pin up that readings give, docs/PARK.md: the setting sheet under a heading; or why it is refused, or what readings a sheet takes.
-- Definitions only.
use Rattle.std.specs.Prelude.{ℕ, Bool, false, not, ◌&&◌, ◌||◌, cond, List, [], ◌++◌, ltb, Float, Option, None, Some, unwrap_or}
use Rattle.std.specs.Float.Ieee.{le}
use Rattle.arithmetic.specs.Decimals.{nought}
use Rattle.refusal.specs.Outcomes.{Outcome, accepted, refused}
use Rattle.record.specs.declared.entries.Readings.{Readings}
use Rattle.record.specs.Entries.{entry_of}
use Rattle.fields.specs.Fields.{altitude, temperature, station_pressure, qnh, density_altitude, measured_pressure}
use Rattle.atmosphere.specs.declared.given.Reading.{Reading}
use Rattle.station.specs.declared.resolved.Resolved.{Resolved}
use Rattle.station.specs.Resolved.{ordinary}
use Rattle.station.specs.Figures.{shown_pressure}
use Rattle.mast.specs.Checks.{has}
use Rattle.sheet.specs.Sheet.{celsius_of_row, setting_sheet}
use Rattle.arithmetic.specs.Ascii.{ascii}
use Rattle.pages.specs.Characters.{refusal_line}
use Rattle.decimals.specs.Shown.{shown}
use Rattle.report.specs.declared.Origin.TheVariants.{Words}
use Rattle.report.specs.Advice.{cause_lines}
use Rattle.sheet_text.specs.declared.rows.Site.{Site}
use Rattle.sheet_text.specs.Rows.{refused_row}
use Rattle.sheet_text.specs.Lines.{heading, row_lines, limit_lines}

-- ---- a sheet that is refused: by its inputs, 11 to 13, or by a row
unfoldable pub row_of : Site → ℕ → List ℕ
row_of s number = cond (ltb 13 number) (ascii "row: " ++ shown 1 (celsius_of_row (unwrap_or (refused_row s) 51)) ++ ascii " C\n") []

unfoldable pub refused_sheet : Site → ℕ → List ℕ
refused_sheet s number = refusal_line number ++ row_of s number ++ cause_lines (Words false) number

-- ---- the rows of document 02, K1, between the heading and the limits, or why there are none
abbrev pub pinned : Site → Readings → Reading → Outcome (List ℕ) → List ℕ
pinned s r resolved (accepted rows) = heading s r resolved ++ row_lines s rows 51 ++ limit_lines s
pinned s r resolved (refused number values) = refused_sheet s number

unfoldable pub sheet_page : Site → Readings → Reading → List ℕ
sheet_page s r resolved = pinned s r resolved (setting_sheet s.altitude_m s.pressure_hpa s.humidity_percent 1530)

-- ---- readings: altitude, pressure and humidity as they are resolved; a QNH that is not above 0 is refused as any pressure is, 12
abbrev pub pressure_for : Option Float → Float → Float
pressure_for None p = p
pressure_for (Some q) p = cond (le q nought) q p

abbrev pub sheet_at : Readings → Resolved → List ℕ
sheet_at r a =
    sheet_page
    (record { altitude_m = a.altitude_m; pressure_hpa = pressure_for (entry_of r qnh) (shown_pressure a); humidity_percent = a.humidity_percent })
    r a.pressure

abbrev pub takes_other : Readings → Bool
takes_other r = has r temperature || has r density_altitude

-- no altitude, no pressure, or two
abbrev pub is_wanting : Readings → Bool
is_wanting r =
    not (has r altitude)
    || not (has r station_pressure || has r qnh || has r measured_pressure)
    || (has r station_pressure && has r qnh)
    || (has r measured_pressure && (has r station_pressure || has r qnh))

abbrev pub sheet_only : List ℕ
sheet_only = ascii "a sheet takes altitude=, one pressure and humidity=, and no temperature= or density-altitude=: its rows have the temperatures\n"

abbrev pub sheet_needs : List ℕ
sheet_needs = ascii "a sheet needs altitude= and one of pressure=, station-pressure= and qnh=, as park sheet altitude=1586 pressure=841.9 humidity=32\n"

unfoldable pub sheet_of : Readings → List ℕ
sheet_of r = cond (takes_other r) sheet_only (cond (is_wanting r) sheet_needs (sheet_at r (ordinary r)))
