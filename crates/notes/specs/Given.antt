-- What readings give, by name, each where it is given. Definitions only.
use Rattle.std.specs.Prelude.{Float, unwrap_or}
use Rattle.std.specs.Option.{option_or}
use Rattle.arithmetic.specs.Decimals.{nought}
use Rattle.record.specs.declared.entries.Readings.{Readings}
use Rattle.fields.specs.Fields.{altitude, temperature, station_pressure, qnh, humidity, density_altitude, measured_pressure}
use Rattle.record.specs.Entries.{entry_of}
use Rattle.notes.specs.declared.given.Given.{Given}

unfoldable pub given_by : Readings → Given
given_by r =
    record {
      altitude_m = entry_of r altitude;
      temperature_c = entry_of r temperature;
      station_pressure_hpa = entry_of r station_pressure;
      qnh_hpa = entry_of r qnh;
      humidity_percent = entry_of r humidity;
      density_altitude_m = entry_of r density_altitude;
      measured_pressure_hpa = entry_of r measured_pressure;
    }

-- the pressure that is given: that of 07, 03 or 04
unfoldable pub pressure_given : Given → Float
pressure_given g = unwrap_or (option_or (option_or g.measured_pressure_hpa g.station_pressure_hpa) g.qnh_hpa) nought
