-- How long the sheet of any readings is at most. Assumes nothing.
use Rattle.arithmetic.proofs.Kit.{false, List, [], ℕ, zero, suc, ◌+◌, ◌*◌, ◌≤◌, arith, ltb, lit≤, Float, of_bits, length, take, drop, length-take, length-drop}
use Rattle.std.specs.Prelude.{Option, None, Some, unwrap_or}
use Rattle.refusal.specs.Outcomes.{Outcome, accepted, refused}
use Rattle.record.specs.declared.entries.Readings.{Readings}
use Rattle.fields.specs.Fields.{station_pressure, qnh, measured_pressure}
use Rattle.record.specs.Entries.{entry_of, value_or_zero}
use Rattle.atmosphere.specs.declared.given.Reading.{Reading}
use Rattle.atmosphere.specs.declared.given.Reading.TheVariants.{Given, FromLayer}
use Rattle.decimals.specs.Decimal.{last_digits, digits_within, digits, nearest_count, count_text, decimal_text}
use Rattle.decimals.specs.Places.{in_sixteen}
use Rattle.atmosphere.specs.Plausibility.{plausibility}
use Rattle.arithmetic.specs.Decimals.{hundred}
use Rattle.arithmetic.specs.Operators.{◌⊗◌}
use Rattle.arithmetic.specs.Places.{places}
use Rattle.station.specs.declared.resolved.Resolved.{Resolved}
use Rattle.station.specs.Resolved.{ordinary}
use Rattle.station.specs.Figures.{shown_pressure}
use Rattle.mast.specs.Checks.{has}
use Rattle.trim.specs.Classes.{class_densities, trim_class}
use Rattle.sheet.specs.Sheet.{celsius_of_row, setting_sheet}
use Rattle.arithmetic.specs.Ascii.{ascii}
use Rattle.decimals.specs.Shown.{shown}
use Rattle.decimals.proofs.Places.{sixteen, shown-short}
use Rattle.pages.proofs.Short.{Within, whole, both, either, number_short, refusal-short}
use Rattle.report.specs.declared.Origin.TheVariants.{Words}
use Rattle.report.proofs.AdviceShort.{cause_short}
use Rattle.sheet_text.specs.declared.rows.Site.{Site}
use Rattle.sheet_text.specs.Rows.{row_density, refused_row, first_below}
use Rattle.sheet_text.specs.Lines.{reading_places, heading_line, mast_line, source_line, doubt_line, pressure_words, heading, row_line, row_lines, degree_places, limit_words, limit_part, limit_of, limit_line, limit_lines}
use Rattle.sheet_text.specs.SheetText.{row_of, refused_sheet, pinned, sheet_page, pressure_for, sheet_at, takes_other, is_wanting, sheet_only, sheet_needs, sheet_of}

-- ---- a decimal text
sixteen-short : (t : List ℕ) → Within (in_sixteen t).bytes 16
sixteen-short t = record { bound = omega (arith, sixteen t) }

shown-within : (k : ℕ) (x : Float) → Within (shown k x) 16
shown-within k x = record { bound = shown-short k x }

-- ---- the heading
reading-short : (name : List ℕ) (x : Float) (unit : List ℕ) → Within (heading_line name x unit) (length name + 16 + length unit)
unfolding heading_line reading_places
reading-short name x unit = both (both (whole name) (sixteen-short (decimal_text 3 x))) (whole unit)

mast-short : (x : Reading) → length (mast_line x) ≤ 58
mast-short (Given p) = lit≤ tt
mast-short FromLayer = lit≤ tt

source-short : (r : Readings) (x : Reading) → Within (source_line r x) 58
unfolding source_line
source-short r x =
    let from = both (both (whole (ascii ", from the QNH ")) (shown-within 3 (value_or_zero (entry_of r qnh)))) (whole (ascii " hPa")) in
    record { bound = either (has r measured_pressure) _ _ (lit≤ tt) (either (has r station_pressure) _ _ (mast-short x) (omega (arith, from.bound))) }

doubt_short : (h p : Float) → Within (doubt_line h p) 31
unfolding doubt_line
doubt_short h p = record { bound = either (plausibility places (hundred ⊗ p) h).implausible (ascii ", implausible at this altitude\n") _ (lit≤ tt) (lit≤ tt) }

heading-short : (s : Site) (r : Readings) (x : Reading) → Within (heading s r x) 334
unfolding heading pressure_words
heading-short s r x =
    both
    (both
    (both
    (both
    (both (whole (ascii "setting sheet for the trim brakes\npark ______________________________ date ____________\n")) (reading-short (ascii "altitude ") s.altitude_m (ascii " m\n")))
    (reading-short (ascii "pressure ") s.pressure_hpa (ascii " hPa")))
    (both (source-short r x) (doubt_short s.altitude_m s.pressure_hpa)))
    (reading-short (ascii "humidity ") s.humidity_percent (ascii " percent\n")))
    (whole (ascii "  temp density  sound matched class\n     C   kg/m3    m/s       m\n"))

-- ---- the rows
row-short : (text : List ℕ) (n class : ℕ) → Within (row_line (take 29 (drop n text)) class) 37
unfolding row_line
row-short text n class =
    let figures : Within (take 29 (drop n text)) 29 = record { bound = omega (arith, length-take 29 (drop n text)) } in
    both (both (both figures (whole (ascii "     "))) (number_short class)) (whole (ascii "\n"))

rows_short : (s : Site) (text : List ℕ) (n : ℕ) → Within (row_lines s text n) (37 * n)
unfolding row_lines
rows_short s text zero = record { bound = omega arith }
rows_short s text (suc n) =
    let line = row-short text (30 * n) (trim_class (row_density s n)) in
    record { bound = omega (arith, (both (rows_short s text n) line).bound) }

-- ---- the limits
degrees-short : (row : Option ℕ) → Within (degree_places row) 5
unfolding degree_places
degrees-short (Some n) =
    let t = (in_sixteen (decimal_text 0 (celsius_of_row n))).bytes in
    record { bound = omega (arith, length-drop 11 t, (sixteen-short (decimal_text 0 (celsius_of_row n))).bound) }
degrees-short None = whole (ascii "    -")

part-short : (s : Site) (words : List ℕ) (limit : Float) → length words ≤ 18 → Within (limit_part s words limit) 25
unfolding limit_part
part-short s words limit few =
    let named : Within words 18 = record { bound = few } in
    both (both named (degrees-short (first_below s limit))) (whole (ascii " C"))

-- by the words' lengths, which are computed
line-short : (s : Site) (i j k : ℕ) → length (limit_words [] (limit_of i)) ≤ 18 → length (limit_words (ascii "   ") (limit_of j)) ≤ 18
    → length (limit_words (ascii "   ") (limit_of k)) ≤ 18
    → Within (limit_line s i j k) 76
unfolding limit_line
line-short s i j k first second third =
    both (both (both (part-short s _ (limit_of i) first) (part-short s _ (limit_of j) second)) (part-short s _ (limit_of k) third)) (whole (ascii "\n"))

limits-short : (s : Site) → Within (limit_lines s) 152
unfolding of_bits last_digits digits_within digits nearest_count count_text decimal_text class_densities limit_words limit_lines
limits-short s = both (line-short s 5 4 3 (lit≤ tt) (lit≤ tt) (lit≤ tt)) (line-short s 2 1 0 (lit≤ tt) (lit≤ tt) (lit≤ tt))

-- ---- the page
refused-short : (s : Site) (n : ℕ) → Within (refused_sheet s n) 271
unfolding refused_sheet row_of
refused-short s n =
    let named = both (both (whole (ascii "row: ")) (shown-within 1 (celsius_of_row (unwrap_or (refused_row s) 51)))) (whole (ascii " C\n")) in
    let row : Within (row_of s n) 24 = record { bound = either (ltb 13 n) _ [] named.bound (lit≤ tt) } in
    both (both (refusal-short n) row) (cause_short (Words false) n)

page_short : (s : Site) (r : Readings) (x : Reading) → length (sheet_page s r x) ≤ 2373
unfolding sheet_page
page_short s r x = go (setting_sheet s.altitude_m s.pressure_hpa s.humidity_percent 1530)
  where
    go : (o : Outcome (List ℕ)) → length (pinned s r x o) ≤ 2373
    go (accepted rows) = (both (both (heading-short s r x) (rows_short s rows 51)) (limits-short s)).bound
    go (refused n values) = omega (arith, (refused-short s n).bound)

at-short : (r : Readings) (a : Resolved) → length (sheet_at r a) ≤ 2373
at-short r a =
    page_short
    (record { altitude_m = a.altitude_m; pressure_hpa = pressure_for (entry_of r qnh) (shown_pressure a); humidity_percent = a.humidity_percent })
    r a.pressure

pub sheet_short : (r : Readings) → Within (sheet_of r) 2373
unfolding sheet_of
sheet_short r =
    record { bound = either (takes_other r) sheet_only _ (lit≤ tt) (either (is_wanting r) sheet_needs _ (lit≤ tt) (at-short r (ordinary r))) }
