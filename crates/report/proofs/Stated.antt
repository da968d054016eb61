-- What the page of promises spells out, in the words of the proofs: statements, and what only these cite. Definitions only.
use Rattle.arithmetic.proofs.Kit.{◌≡◌, nan, false}
use Rattle.fields.specs.Fields.{altitude, temperature, qnh}
use Rattle.record.specs.Entries.{no_readings, with_entry}
use Rattle.arithmetic.specs.Decimals.{decimal, nought}
use Rattle.arithmetic.specs.Ascii.{ascii}
use Rattle.report.specs.declared.Origin.TheVariants.{Record, Words}
use Rattle.report.specs.Report.{report_text}

pub record ReportSamples : Type 0 where
  pub none : report_text Record no_readings ≡ ascii "refused 10\ncause: neither altitude nor density altitude\nwhat to do: set the mast's altitude\nrecord \n"
  pub none-typed : report_text (Words false) no_readings
      ≡ ascii "refused 10\ncause: neither altitude nor density altitude\nwhat to do: add altitude=1586 with the altitude of the park\nrecord \n"
  pub no_pressure : report_text Record (with_entry (with_entry no_readings altitude nought) qnh nan)
      ≡ ascii "refused 11\nreading: QNH\ncause: altitude, a pressure or humidity not finite\nwhat to do: that sensor is unplugged or broken\nrecord 01000800000000000000000400087FF8000000000000\n"
  -- the altitude 0 m and 21.1 C, and nothing else
  pub sea_level_lem : report_text Record (with_entry (with_entry no_readings altitude nought) temperature (decimal "21.1"))
      ≡ ascii "altitude                             0.0 m\ntemperature                        21.10 C\nstation pressure                1013.250 hPa\ndensity                           1.2000 kg/m3, the reference for the trim table\nspeed of sound                     343.9 m/s\npressure altitude                    0.0 m\ndensity-matched altitude           218.3 m\nvapour mole fraction            0.000000 mol/mol\ntrim class 5\nnext class 4 at 0.1 C warmer\nin the range for which CIPM-2007 states its formula\nnote: no pressure is given: the standard atmosphere's 1013.250 hPa is used\nnote: no humidity is given: dry air is used\nnote: the next class is searched from the temperature and the station pressure above\nrecord 0100080000000000000000020008403519999999999A\n"
