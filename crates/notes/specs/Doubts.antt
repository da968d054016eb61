-- The notes on a point in the altitude, a humidity that may be a fraction, a density that its decimals show as a limit of the trim table, and what the next
-- class is searched from. Definitions only.
use Rattle.std.specs.Prelude.{ℕ, ◌%◌, Bool, ◌&&◌, ◌||◌, List, [], ◌∷◌, ◌++◌, ltb, Float, get_or, unwrap_or, is_some, is_none}
use Rattle.std.specs.Float.{nan}
use Rattle.std.specs.Float.Ieee.{lt, le}
use Rattle.arithmetic.specs.Ascii.{ascii}
use Rattle.arithmetic.specs.Decimals.{nought, one, hundred}
use Rattle.arithmetic.specs.Operators.{◌⊗◌}
use Rattle.decimals.specs.Decimal.{decimal_text}
use Rattle.decimals.specs.Places.{in_sixteen}
use Rattle.refusal.specs.declared.judge.Figures.{Figures}
use Rattle.trim.specs.Classes.{class_densities, trim_class}
use Rattle.pages.specs.Characters.{number_text, same}
use Rattle.notes.specs.declared.given.Given.{Given}
use Rattle.notes.specs.Words.{Note, note, figured}

-- ---- humidity-fraction
unfoldable pub fraction : Given → Note
fraction g =
    let percent = unwrap_or g.humidity_percent nought in
    note (is_some g.humidity_percent && lt nought percent && le percent one)
    (figured "note: humidity " 3 percent " percent is nearly dry air:" ++ figured " type humidity=" 3 (hundred ⊗ percent) " if it was a fraction\n")

-- ---- at-limit: below the limit of the next class, and with the same four decimals. A class below 6 counts the limits at or below a density, so that the
-- next limit is at its place in the table
unfoldable pub limit_of : ℕ → Float
limit_of class = get_or class_densities (class % 6) nan

-- texts in sixteen places
unfoldable pub are_alike : Float → Float → Bool
are_alike x y = same (in_sixteen (decimal_text 4 x)).bytes (in_sixteen (decimal_text 4 y)).bytes

abbrev pub at_limit_of : Float → ℕ → Note
at_limit_of d class =
    note (ltb class 6 && are_alike d (limit_of class))
    (figured "note: the density is below " 4 (limit_of class) " kg/m3 by less than four decimals show: its class is " ++ number_text class ++ ascii "\n")

unfoldable pub at_limit : Float → Note
at_limit d = at_limit_of d (trim_class d)

-- ---- altitude-point, these two, and next-from-used, document 02's 22 for accepted readings
unfoldable pub doubt_notes : Given → Figures → Bool → List Note
doubt_notes g f point =
    note point
    (figured "note: the altitude was read as " 3 f.altitude_m " m: the point marks decimals, leave it out if it was meant for thousands\n") ∷
    fraction g ∷
    at_limit f.density_kg_m3 ∷
    note (is_none g.temperature_c || is_none g.measured_pressure_hpa)
    (ascii "note: the next class is searched from the temperature and the station pressure above\n") ∷ []
