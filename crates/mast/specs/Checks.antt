-- The checks on a record's readings, document 01's table: which fields exclude each other, and the values field by field. Definitions only.
use Rattle.std.specs.Prelude.{Bool, not, ◌&&◌, ◌||◌, List, [], ◌∷◌, ◌++◌, ℕ, Float, None, Option, Some, is_some}
use Rattle.std.specs.Float.Ieee.{lt, le}
use Rattle.arithmetic.specs.Decimals.{nought, hundred}
use Rattle.arithmetic.specs.Doubles.{is_finite}
use Rattle.refusal.specs.Outcomes.{Row, row}
use Rattle.density_altitude.specs.Inverse.{temperature_rows}
use Rattle.record.specs.declared.entries.Readings.{Readings}
use Rattle.fields.specs.Fields.{altitude, temperature, station_pressure, qnh, humidity, density_altitude, measured_pressure}
use Rattle.record.specs.Entries.{entry_of}

abbrev pub has : Readings → ℕ → Bool
has r m = is_some (entry_of r m)

-- ---- 9: 03 with 04, or 06 with 01, 03 or 04; document 02: 07 with 03, 04 or 06, and 06 with 05 is answered
abbrev pub is_clash : Readings → Bool
is_clash r =
    (has r station_pressure && has r qnh)
    || (has r measured_pressure && (has r station_pressure || has r qnh))
    || (has r density_altitude && (has r altitude || has r station_pressure || has r qnh || has r measured_pressure))

-- ---- a value
-- 11: not finite
abbrev pub finite_rows : Float → List Row
finite_rows x = row (not (is_finite x)) 11 (x ∷ []) ∷ []

-- 12: pressure ≤ 0
abbrev pub pressure_rows : Float → List Row
pressure_rows p = finite_rows p ++ row (le p nought) 12 (p ∷ []) ∷ []

-- 13: humidity below 0 or above 100
abbrev pub humidity_rows : Float → List Row
humidity_rows h = finite_rows h ++ row (lt h nought || lt hundred h) 13 (h ∷ []) ∷ []

-- ---- the values by rising tag, each where it is present: 01 to 05, and 07 after 05. 2 and 3 are those of a temperature
abbrev pub present : (Float → List Row) → Option Float → List Row
present rows None = []
present rows (Some x) = rows x

abbrev pub value_rows : Readings → List Row
value_rows r =
    present finite_rows (entry_of r altitude) ++
    present temperature_rows (entry_of r temperature) ++
    present pressure_rows (entry_of r station_pressure) ++
    present pressure_rows (entry_of r qnh) ++
    present humidity_rows (entry_of r humidity) ++
    present pressure_rows (entry_of r measured_pressure)

-- ---- without 06. 10: neither 01 nor 06
abbrev pub ordinary_rows : Readings → List Row
ordinary_rows r = row (not (has r altitude)) 10 [] ∷ value_rows r
