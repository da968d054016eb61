-- The lines of a sheet to pin up, as bytes in ASCII: the heading, the rows with their trim class, and from which temperature on each limit is passed.
-- A site s has the altitude in m, the pressure in hPa and the humidity in percent. Definitions only.
use Rattle.std.specs.Prelude.{ℕ, zero, suc, ◌*◌, cond, List, [], ◌++◌, Float, Option, Some, None, get_or, take, drop}
use Rattle.arithmetic.specs.Ascii.{ascii}
use Rattle.arithmetic.specs.Decimals.{nought, hundred}
use Rattle.arithmetic.specs.Operators.{◌⊗◌}
use Rattle.arithmetic.specs.Places.{places}
use Rattle.decimals.specs.Decimal.{decimal_text}
use Rattle.decimals.specs.Places.{in_sixteen}
use Rattle.atmosphere.specs.declared.given.Reading.{Reading}
use Rattle.atmosphere.specs.declared.given.Reading.TheVariants.{Given, FromLayer}
use Rattle.atmosphere.specs.Plausibility.{plausibility}
use Rattle.record.specs.declared.entries.Readings.{Readings}
use Rattle.fields.specs.Fields.{station_pressure, qnh, measured_pressure}
use Rattle.record.specs.Entries.{entry_of, value_or_zero}
use Rattle.mast.specs.Checks.{has}
use Rattle.trim.specs.Classes.{class_densities, trim_class}
use Rattle.sheet.specs.Sheet.{celsius_of_row}
use Rattle.pages.specs.Characters.{number_text}
use Rattle.decimals.specs.Shown.{shown}
use Rattle.sheet_text.specs.declared.rows.Site.{Site}
use Rattle.sheet_text.specs.Rows.{row_density, first_below}

-- ---- the heading
-- a reading with three decimals at the right of sixteen places
unfoldable pub reading_places : Float → List ℕ
reading_places x = (in_sixteen (decimal_text 3 x)).bytes

unfoldable pub heading_line : List ℕ → Float → List ℕ → List ℕ
heading_line name x unit = name ++ reading_places x ++ unit

-- where the pressure comes from; that of a mast by what it resolves to
abbrev pub mast_line : Reading → List ℕ
mast_line (Given p) = ascii ", a mast's"
mast_line FromLayer = ascii ", the standard atmosphere's, for a mast that is not set up"

unfoldable pub source_line : Readings → Reading → List ℕ
source_line r resolved =
    cond (has r measured_pressure) (ascii ", measured")
    (cond (has r station_pressure) (mast_line resolved)
    (ascii ", from the QNH " ++ shown 3 (value_or_zero (entry_of r qnh)) ++ ascii " hPa"))

-- and whether it belongs to the altitude, by `station_pressure_plausibility`
unfoldable pub doubt_line : Float → Float → List ℕ
doubt_line h p = cond (plausibility places (hundred ⊗ p) h).implausible (ascii ", implausible at this altitude\n") (ascii "\n")

unfoldable pub pressure_words : Float → Float → Readings → Reading → List ℕ
pressure_words h p r resolved = source_line r resolved ++ doubt_line h p

unfoldable pub heading : Site → Readings → Reading → List ℕ
heading s r resolved =
    ascii "setting sheet for the trim brakes\npark ______________________________ date ____________\n" ++
    heading_line (ascii "altitude ") s.altitude_m (ascii " m\n") ++
    heading_line (ascii "pressure ") s.pressure_hpa (ascii " hPa") ++
    pressure_words s.altitude_m s.pressure_hpa r resolved ++
    heading_line (ascii "humidity ") s.humidity_percent (ascii " percent\n") ++
    ascii "  temp density  sound matched class\n     C   kg/m3    m/s       m\n"

-- ---- the rows: the 30 bytes of each without their newline, and behind a blank the trim class in five places
unfoldable pub row_line : List ℕ → ℕ → List ℕ
row_line figures class = figures ++ ascii "     " ++ number_text class ++ ascii "\n"

-- the first n rows of a sheet's text
unfoldable pub row_lines : Site → List ℕ → ℕ → List ℕ
row_lines s text zero = []
row_lines s text (suc n) = row_lines s text n ++ row_line (take 29 (drop (30 * n) text)) (trim_class (row_density s n))

-- ---- the limits: the degrees of row n in five places, the last of sixteen
unfoldable pub degree_places : Option ℕ → List ℕ
degree_places (Some n) = drop 11 (in_sixteen (decimal_text 0 (celsius_of_row n))).bytes
degree_places None = ascii "    -"

unfoldable pub limit_words : List ℕ → Float → List ℕ
limit_words before limit = before ++ ascii "below " ++ decimal_text 2 limit ++ ascii " from"

unfoldable pub limit_part : Site → List ℕ → Float → List ℕ
limit_part s words limit = words ++ degree_places (first_below s limit) ++ ascii " C"

abbrev pub limit_of : ℕ → Float
limit_of i = get_or class_densities i nought

-- three on a line
unfoldable pub limit_line : Site → ℕ → ℕ → ℕ → List ℕ
limit_line s i j k =
    limit_part s (limit_words [] (limit_of i)) (limit_of i) ++
    limit_part s (limit_words (ascii "   ") (limit_of j)) (limit_of j) ++
    limit_part s (limit_words (ascii "   ") (limit_of k)) (limit_of k) ++
    ascii "\n"

-- from the greatest to the least
unfoldable pub limit_lines : Site → List ℕ
limit_lines s = limit_line s 5 4 3 ++ limit_line s 2 1 0
