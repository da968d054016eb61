-- The judge of a mast record, document 01: the figures, or the number of one refusal with its values, by a fixed order of checks. It takes any order of tags;
-- document 02's strict one only rising tags. Definitions only.
use Rattle.std.specs.Prelude.{ℕ, Bool, true, false, not, List, [], ◌∷◌, ◌++◌, Float, None, Option, Some}
use Rattle.std.specs.Float.Ieee.{lt}
use Rattle.arithmetic.specs.Places.{places}
use Rattle.arithmetic.specs.Decimals.{one}
use Rattle.humid_air.specs.Humidity.{mole_fraction_celsius}
use Rattle.refusal.specs.Outcomes.{Outcome, accepted, ◌⟫◌, Row, row, ◌then◌}
use Rattle.density_altitude.specs.Inverse.{resolve, station_rows}
use Rattle.record.specs.declared.entries.Readings.{Readings}
use Rattle.fields.specs.Fields.{temperature, humidity, density_altitude}
use Rattle.record.specs.Readings.{read_rows, readings, read_record}
use Rattle.record.specs.Entries.{entry_of}
use Rattle.refusal.specs.declared.judge.Figures.{Figures}
use Rattle.station.specs.declared.resolved.Resolved.{Resolved}
use Rattle.mast.specs.Checks.{is_clash, humidity_rows, present, ordinary_rows}
use Rattle.station.specs.Resolved.{ordinary, given_temperature, at_station}
use Rattle.station.specs.Figures.{shown_temperature, shown_pressure, figures_of, is_air}

-- ---- a station's air
-- 14: `water_vapor_mole_fraction_uncapped` of the shown temperature and pressure and the humidity above 1
-- 15: a figure not finite, or pressure, density or sound speed not above 0
abbrev pub air_rows : Resolved → List Row
air_rows a =
    row (lt one (mole_fraction_celsius places (shown_temperature a) (shown_pressure a) a.humidity_percent)) 14 [] ∷
    row (not (is_air (figures_of a))) 15 [] ∷ []

unfoldable pub air_outcome : Resolved → Outcome Figures
air_outcome a = air_rows a then accepted (figures_of a)

-- ---- readings: with 06 they ask for a density altitude, where 1 to 4 are the inverse's and 05 is checked after them; without 06 for an altitude
abbrev pub way_rows : Readings → Option Float → List Row
way_rows r (Some d) = station_rows places d (given_temperature (entry_of r temperature)) ++ present humidity_rows (entry_of r humidity)
way_rows r None = ordinary_rows r

abbrev pub resolved_by : Readings → Option Float → Resolved
resolved_by r (Some d) = at_station (resolve places d (given_temperature (entry_of r temperature))) r
resolved_by r None = ordinary r

abbrev pub resolved : Readings → Resolved
resolved r = resolved_by r (entry_of r density_altitude)

-- 9: fields that exclude each other
abbrev pub reading_rows : Readings → List Row
reading_rows r = row (is_clash r) 9 [] ∷ (way_rows r (entry_of r density_altitude) ++ air_rows (resolved r))

unfoldable pub judged : Readings → Outcome Figures
judged r = reading_rows r then accepted (figures_of (resolved r))

-- ---- a record
abbrev pub judge_by : Bool → List ℕ → Outcome Figures
judge_by strict s = read_record strict s ⟫ judged

unfoldable pub judge : List ℕ → Outcome Figures
judge s = judge_by false s

unfoldable pub judge_strictly : List ℕ → Outcome Figures
judge_strictly s = judge_by true s

-- each number has exactly its cause: the rows of the record's fields, one after the other, and then those of its readings
abbrev pub record_rows : Bool → List ℕ → List Row
record_rows strict s = read_rows strict s ++ reading_rows (readings s)
