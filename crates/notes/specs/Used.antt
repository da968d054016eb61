-- The notes on what was used in place of readings: g are the readings as given, f their figures, and `air` is the judge's outcome for the air as given.
-- Definitions only.
use Rattle.std.specs.Prelude.{ℕ, Bool, ◌&&◌, List, [], ◌∷◌, ◌++◌, Float, None, Option, Some, unwrap_or, is_some, is_none}
use Rattle.std.specs.Float.Ieee.{lt}
use Rattle.arithmetic.specs.Ascii.{ascii}
use Rattle.arithmetic.specs.Decimals.{nought, one}
use Rattle.arithmetic.specs.Doubles.{abs_double}
use Rattle.refusal.specs.Outcomes.{Outcome, accepted, refused}
use Rattle.refusal.specs.declared.judge.Figures.{Figures}
use Rattle.atmosphere.specs.declared.given.Reading.{Reading}
use Rattle.atmosphere.specs.declared.given.Reading.TheVariants as reading
use Rattle.atmosphere.specs.Station.{in_pressure_band, in_temperature_band}
use Rattle.fields.specs.Fields.{temperature, station_pressure}
use Rattle.record.specs.declared.entries.Readings.{Readings}
use Rattle.record.specs.Entries.{entry_of}
use Rattle.station.specs.declared.resolved.Resolved.{Resolved}
use Rattle.station.specs.Resolved.{ordinary, given_temperature}
use Rattle.trim.specs.Classes.{trim_class}
use Rattle.pages.specs.Characters.{number_text}
use Rattle.decimals.specs.Shown.{shown}
use Rattle.notes.specs.declared.given.Given.{Given}
use Rattle.notes.specs.Words.{Note, note, figured}

-- ---- the air as given: temperature and station pressure pass no default band, as on the setting sheet
abbrev pub pressure_as_given : (Option Float) → Reading → Reading
pressure_as_given (Some p) otherwise = reading.Given p
pressure_as_given None otherwise = otherwise

abbrev pub as_given : Readings → Resolved
as_given r =
    let station = ordinary r in
    record {
      altitude_m = station.altitude_m;
      temperature = given_temperature (entry_of r temperature);
      pressure = pressure_as_given (entry_of r station_pressure) station.pressure;
      humidity_percent = station.humidity_percent;
    }

abbrev pub air_text : Outcome Figures → List ℕ
air_text (accepted f) = figured "density " 4 f.density_kg_m3 " kg/m3, trim class " ++ number_text (trim_class f.density_kg_m3)
air_text (refused number values) = ascii "refused " ++ number_text number

-- ---- a reading in its default band, more than 1 m from sea level
abbrev pub is_far : Float → Bool
is_far h = lt one (abs_double h)

unfoldable pub is_temperature_default : Given → Float → Bool
is_temperature_default g h = is_none g.density_altitude_m && is_some g.temperature_c && in_temperature_band (unwrap_or g.temperature_c nought) && is_far h

unfoldable pub is_pressure_default : Given → Float → Bool
is_pressure_default g h = is_none g.density_altitude_m && is_some g.station_pressure_hpa && in_pressure_band (unwrap_or g.station_pressure_hpa nought) && is_far h

-- what is used in the reading's place, and the air as given
unfoldable pub default_line : List ℕ → Float → List ℕ → Float → List ℕ → Outcome Figures → List ℕ
default_line name typed band used unit air =
    (name ++ shown 3 typed ++ band) ++ (ascii " the standard atmosphere's " ++ shown 3 used ++ unit) ++ air_text air ++ ascii "\n"

-- temperature-default
unfoldable pub temperature_default : Given → Figures → Outcome Figures → Note
temperature_default g f air =
    note (is_temperature_default g f.altitude_m)
    (default_line (ascii "note: temperature ") (unwrap_or g.temperature_c nought)
    (ascii " C counts as that of a mast that is not set up, 14.9 to 15.1 C:") f.temperature_c (ascii " C is used; as given: ") air)

-- pressure-default
unfoldable pub pressure_default : Given → Figures → Outcome Figures → Note
pressure_default g f air =
    note (is_pressure_default g f.altitude_m)
    (default_line (ascii "note: station pressure ") (unwrap_or g.station_pressure_hpa nought)
    (ascii " hPa counts as that of a mast that is not set up, 1012.75 to 1013.75 hPa:") f.pressure_hpa (ascii " hPa is used; as given: ") air)

-- ---- no-temperature, no-pressure, no-humidity
unfoldable pub absent_notes : Given → Figures → List Note
absent_notes g f =
    note (is_none g.temperature_c)
    (figured "note: no temperature is given: the standard atmosphere's " 3 f.temperature_c " C is used\n") ∷
    note (is_none g.density_altitude_m && is_none g.station_pressure_hpa && is_none g.qnh_hpa && is_none g.measured_pressure_hpa)
    (figured "note: no pressure is given: the standard atmosphere's " 3 f.pressure_hpa " hPa is used\n") ∷
    note (is_none g.humidity_percent)
    (ascii "note: no humidity is given: dry air is used\n") ∷ []

unfoldable pub used_notes : Given → Figures → Outcome Figures → List Note
used_notes g f air = temperature_default g f air ∷ pressure_default g f air ∷ absent_notes g f
