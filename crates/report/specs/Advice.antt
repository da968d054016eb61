-- What is said of a refusal, as bytes in ASCII: the number, the reading that it is about, its cause and what to do. Readings are refused with 1 to 4 or 9 to
-- 15, a record that is not read with 5 to 8, a setting sheet with 11 to 15 or 17. Definitions only.
use Rattle.std.specs.Prelude.{ℕ, cond, List, [], ◌++◌, eqb}
use Rattle.record.specs.declared.entries.Readings.{Readings}
use Rattle.fields.specs.Fields.{altitude, temperature, station_pressure, qnh, humidity, density_altitude, measured_pressure}
use Rattle.arithmetic.specs.Ascii.{ascii}
use Rattle.pages.specs.Characters.{refusal_line}
use Rattle.report.specs.declared.Origin.{Origin}
use Rattle.report.specs.declared.Origin.TheVariants.{Record, Words}
use Rattle.report.specs.Fault.{reading_about}

-- ---- the reading that it is about
unfoldable pub reading_line : ℕ → List ℕ
reading_line m =
    cond (eqb m altitude) (ascii "reading: altitude\n")
    (cond (eqb m temperature) (ascii "reading: temperature\n")
    (cond (eqb m station_pressure) (ascii "reading: station pressure\n")
    (cond (eqb m qnh) (ascii "reading: QNH\n")
    (cond (eqb m humidity) (ascii "reading: humidity\n")
    (cond (eqb m density_altitude) (ascii "reading: density altitude\n")
    (cond (eqb m measured_pressure) (ascii "reading: measured pressure\n")
    []))))))

-- ---- the cause, in the words of docs/RECORD.md; 15 is the other one
unfoldable pub cause_of : ℕ → List ℕ
cause_of n =
    cond (eqb n 1) (ascii "density altitude not finite")
    (cond (eqb n 2) (ascii "temperature not finite")
    (cond (eqb n 3) (ascii "temperature at or below -273.15 C")
    (cond (eqb n 4) (ascii "no air has this density altitude")
    (cond (eqb n 5) (ascii "header or data cut")
    (cond (eqb n 6) (ascii "unknown tag")
    (cond (eqb n 7) (ascii "length not 8 (double) or 4 (count)")
    (cond (eqb n 8) (ascii "tag repeated, or a reading in both forms")
    (cond (eqb n 9) (ascii "two of station pressure, QNH and measured pressure, or a density altitude with an altitude or a pressure")
    (cond (eqb n 10) (ascii "neither altitude nor density altitude")
    (cond (eqb n 11) (ascii "altitude, a pressure or humidity not finite")
    (cond (eqb n 12) (ascii "a pressure not above 0 hPa")
    (cond (eqb n 13) (ascii "humidity below 0 or above 100 percent")
    (cond (eqb n 14) (ascii "more water vapour than there is air")
    (cond (eqb n 17) (ascii "a figure wider than its column")
    (ascii "a figure not finite, or pressure, density or sound speed not above 0")))))))))))))))

-- ---- what to do with a record, likewise
unfoldable pub sender_advice : ℕ → List ℕ
sender_advice n =
    cond (eqb n 1) (ascii "the sender computed it from a missing reading: mend that")
    (cond (eqb n 2) (ascii "the thermometer is unplugged or broken")
    (cond (eqb n 3) (ascii "wrong unit, or a raw count sent as degrees")
    (cond (eqb n 4) (ascii "check the unit: feet sent as metres, or a height far outside the air")
    (cond (eqb n 5) (ascii "not sent whole: read it again, check the line")
    (cond (eqb n 6) (ascii "the sender speaks a newer form, or the bytes have slipped")
    (cond (eqb n 7) (ascii "the sender speaks a newer form, or the bytes have slipped")
    (cond (eqb n 8) (ascii "two sensors answer for one reading: switch one off")
    (cond (eqb n 9) (ascii "send one pressure; send a density altitude with nothing but temperature and humidity")
    (cond (eqb n 10) (ascii "set the mast's altitude")
    (cond (eqb n 11) (ascii "that sensor is unplugged or broken")
    (cond (eqb n 12) (ascii "wrong unit, or a barometer without power")
    (cond (eqb n 13) (ascii "calibrate the hygrometer")
    (cond (eqb n 14) (ascii "temperature, humidity and pressure do not belong together: check each")
    (cond (eqb n 17) (ascii "check altitude and pressure")
    (ascii "no such air: check temperature and pressure")))))))))))))))

-- ---- what to do at the keyboard, in the words of docs/PARK.md
unfoldable pub typed_advice : ℕ → List ℕ
typed_advice n =
    cond (eqb n 3) (ascii "type degrees Celsius, as temperature=24, or temperature=75F")
    (cond (eqb n 4) (ascii "type metres, as density-altitude=2100, or density-altitude=7000ft")
    (cond (eqb n 9) (ascii "give one of pressure=, station-pressure= and qnh=; density-altitude= stands without altitude= and a pressure")
    (cond (eqb n 10) (ascii "add altitude=1586 with the altitude of the park")
    (cond (eqb n 11) (ascii "check the altitude and the pressure, and their units")
    (cond (eqb n 12) (ascii "type the pressure in hPa, as pressure=841.9")
    (cond (eqb n 13) (ascii "type percent, as humidity=32")
    (sender_advice n)))))))

abbrev pub advice_for : Origin → ℕ → List ℕ
advice_for Record n = sender_advice n
advice_for (Words point) n = typed_advice n

-- ---- the lines
unfoldable pub cause_lines : Origin → ℕ → List ℕ
cause_lines o n = ascii "cause: " ++ cause_of n ++ ascii "\nwhat to do: " ++ advice_for o n ++ ascii "\n"

unfoldable pub refused_lines : Origin → Readings → ℕ → List ℕ
refused_lines o r n = refusal_line n ++ reading_line (reading_about r n) ++ cause_lines o n
