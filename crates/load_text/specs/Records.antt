-- The records of the load, document 02: of the counts of record n, "the record's fields rise by tag". Definitions only.
use Rattle.std.specs.Prelude.{ℕ, cond, List, ℤ}
use Rattle.thousandths.specs.Thousandths.{twos_complement}
use Rattle.load_text.specs.declared.counts.LoadCounts.{LoadCounts}
use Rattle.load_text.specs.Counts.{load_counts}
use Rattle.fields.specs.declared.fields.Value.TheVariants.{Count}
use Rattle.record.specs.declared.entries.Readings.{Readings}
use Rattle.fields.specs.Fields.{altitude, temperature, humidity, measured_pressure}
use Rattle.record.specs.Entries.{no_readings, with_value}
use Rattle.writer.specs.Records.{record_of}

abbrev pub with_count : Readings → ℕ → ℤ → Readings
with_count r m count = with_value r m (Count (twos_complement count))

-- altitude, temperature, measured pressure, and humidity unless it is left out
unfoldable pub readings_of_counts : LoadCounts → Readings
readings_of_counts c =
    let dry = with_count (with_count (with_count no_readings altitude c.altitude) temperature c.temperature) measured_pressure c.pressure in
    cond c.humid (with_count dry humidity c.humidity) dry

-- ---- record n, counted from 0: its readings, and its bytes by the writer
unfoldable pub load_readings : ℕ → Readings
load_readings n = readings_of_counts (load_counts n)

unfoldable pub load_record : ℕ → List ℕ
load_record n = record_of (load_readings n)
