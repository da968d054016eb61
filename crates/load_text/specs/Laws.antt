-- What may be relied on of every record of the load, whatever its number, document 02: it is a whole, rising, unclashing record of counts within their ranges, so
-- no refusal of a field or of a value can occur. Definitions only.
use Rattle.fields.specs.declared.fields.Value.{Value}
use Rattle.std.specs.Prelude.{◌≡◌, ◌⊎◌, ℤ, pos, neg_ℤ, None, Option, Some}
use Rattle.thousandths.specs.Thousandths.{twos_complement}
use Rattle.load_text.specs.CountLaws.{CountBetween}
use Rattle.fields.specs.declared.fields.Value.TheVariants.{Count}
use Rattle.record.specs.declared.entries.Readings.{Readings}
use Rattle.fields.specs.Fields as meaning
use Rattle.record.specs.Entries.{stored_of}

-- ---- the readings: a count in its range for each of these meanings, thousandths as the ranges of `load_records`, and nothing for any other
pub record CountIn (low high : ℤ) (s : (Option Value)) : Type 0 where
  pub count : ℤ
  pub stored : s ≡ Some (Count (twos_complement count))
  pub between : CountBetween low high count

pub record IsOfTheLoad (r : Readings) : Type 0 where
  pub altitude : CountIn (neg_ℤ (pos 500_000)) (pos 3_000_000) (stored_of r meaning.altitude)
  pub temperature : CountIn (neg_ℤ (pos 40_000)) (pos 50_000) (stored_of r meaning.temperature)
  pub pressure : CountIn (pos 600_000) (pos 1_100_000) (stored_of r meaning.measured_pressure)
  pub humidity : (stored_of r meaning.humidity ≡ None) ⊎ CountIn (pos 0) (pos 100_000) (stored_of r meaning.humidity)
  pub no_station_pressure : stored_of r meaning.station_pressure ≡ None
  pub no_qnh : stored_of r meaning.qnh ≡ None
  pub no_density_altitude : stored_of r meaning.density_altitude ≡ None
