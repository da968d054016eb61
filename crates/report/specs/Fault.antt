-- The reading that a refusal of readings is about, by its meaning; `meanings` where there is not one. Definitions only.
use Rattle.std.specs.Prelude.{ℕ, Bool, false, not, cond, eqb, Float, None, Option, Some}
use Rattle.std.specs.Float.Ieee.{le}
use Rattle.arithmetic.specs.Decimals.{nought}
use Rattle.arithmetic.specs.Doubles.{is_finite}
use Rattle.record.specs.declared.entries.Readings.{Readings}
use Rattle.fields.specs.Fields.{meanings, altitude, temperature, station_pressure, qnh, humidity, density_altitude, measured_pressure}
use Rattle.record.specs.Entries.{entry_of}

abbrev pub not_finite : (Option Float) → Bool
not_finite None = false
not_finite (Some x) = not (is_finite x)

abbrev pub not_positive : (Option Float) → Bool
not_positive None = false
not_positive (Some p) = le p nought

-- 11: the first that is not finite, by the order of the checks
unfoldable pub first_not_finite : Readings → ℕ
first_not_finite r =
    cond (not_finite (entry_of r altitude)) altitude
    (cond (not_finite (entry_of r station_pressure)) station_pressure
    (cond (not_finite (entry_of r qnh)) qnh
    (cond (not_finite (entry_of r humidity)) humidity
    measured_pressure)))

-- 12: the first pressure that is not above 0
unfoldable pub first_not_positive : Readings → ℕ
first_not_positive r =
    cond (not_positive (entry_of r station_pressure)) station_pressure
    (cond (not_positive (entry_of r qnh)) qnh
    measured_pressure)

-- the meaning that is named, and `meanings` where none is
abbrev pub named : Option ℕ → ℕ
named None = meanings
named (Some m) = m

unfoldable pub reading_about : Readings → ℕ → ℕ
unfolding first_not_finite first_not_positive
reading_about r n =
    cond (eqb n 1) density_altitude
    (cond (eqb n 2) temperature
    (cond (eqb n 3) temperature
    (cond (eqb n 4) density_altitude
    (cond (eqb n 11) (first_not_finite r)
    (cond (eqb n 12) (first_not_positive r)
    (cond (eqb n 13) humidity
    meanings))))))
