-- What the readings of a record resolve to: altitude, temperature, pressure and humidity. Temperatures in °C, pressures in hPa, altitudes in m, humidities
-- in percent. Definitions only.
use Rattle.std.specs.Prelude.{Float, None, Option, Some}
use Rattle.arithmetic.specs.Places.{places}
use Rattle.atmosphere.specs.declared.given.Reading.{Reading}
use Rattle.atmosphere.specs.declared.given.Reading.TheVariants.{Given, FromLayer}
use Rattle.atmosphere.specs.Station.{resolved_station_temperature, reduced_qnh}
use Rattle.atmosphere.specs.Station as station
use Rattle.refusal.specs.declared.inverse.Station.{Station}
use Rattle.record.specs.declared.entries.Readings.{Readings}
use Rattle.fields.specs.Fields.{altitude, temperature, station_pressure, qnh, humidity, measured_pressure}
use Rattle.record.specs.Entries.{entry_of, value_or_zero}
use Rattle.station.specs.declared.resolved.Resolved.{Resolved}
use Rattle.station.specs.declared.resolved.Pressure.{Pressure}
use Rattle.station.specs.declared.resolved.Pressure.TheVariants as pressure

-- ---- readings without 06
-- 03, or else 04
abbrev pub unmeasured_pressure : Option Float → Option Float → Pressure
unmeasured_pressure (Some p) q = pressure.Station p
unmeasured_pressure None (Some q) = pressure.Qnh q
unmeasured_pressure None None = pressure.Absent

-- 07, or else one of these
abbrev pub measured_or : Option Float → Pressure → Pressure
measured_or (Some p) other = pressure.Measured p
measured_or None other = other

abbrev pub pressure_of : Readings → Pressure
pressure_of r = measured_or (entry_of r measured_pressure) (unmeasured_pressure (entry_of r station_pressure) (entry_of r qnh))

-- 02 and 03 pass their `resolve_` functions; 04 is reduced at the altitude; 07 is used as it comes
abbrev pub resolved_temperature : Option Float → Float → Reading
resolved_temperature (Some t) h = resolved_station_temperature t h
resolved_temperature None h = FromLayer

abbrev pub resolved_pressure : Pressure → Float → Reading
resolved_pressure (pressure.Station p) h = station.resolved_station_pressure p h
resolved_pressure (pressure.Qnh q) h = Given (reduced_qnh places q h)
resolved_pressure (pressure.Measured p) h = Given p
resolved_pressure pressure.Absent h = FromLayer

-- absent humidity is 0; an absent altitude is refused
unfoldable pub ordinary : Readings → Resolved
ordinary r =
    let h = value_or_zero (entry_of r altitude) in
    record {
      altitude_m = h;
      temperature = resolved_temperature (entry_of r temperature) h;
      pressure = resolved_pressure (pressure_of r) h;
      humidity_percent = value_or_zero (entry_of r humidity);
    }

-- ---- with 06: the inverse gives altitude, temperature and pressure, both passed as overrides
abbrev pub given_temperature : Option Float → Reading
given_temperature (Some t) = Given t
given_temperature None = FromLayer

abbrev pub at_station : Station → Readings → Resolved
at_station s r = record { altitude_m = s.altitude_m; temperature = Given s.temperature_c; pressure = Given s.pressure_hpa; humidity_percent = value_or_zero (entry_of r humidity) }
