-- The trim class of a report, and the smallest change of temperature or pressure that gives another, searched as document 02's K9 says; as bytes in ASCII.
-- Definitions only.
use Rattle.std.specs.Prelude.{ℕ, ◌+◌, ◌/◌, ◌%◌, List, [], ◌∷◌, ◌++◌, None, Option, Some}
use Rattle.arithmetic.specs.Decimals.{nought}
use Rattle.refusal.specs.Outcomes.{Outcome, accepted, refused}
use Rattle.refusal.specs.declared.judge.Figures.{Figures}
use Rattle.record.specs.declared.entries.Readings.{Readings}
use Rattle.fields.specs.Fields.{altitude, temperature, humidity, measured_pressure}
use Rattle.record.specs.Entries.{no_readings, entry_of, value_or_zero, with_entry}
use Rattle.trim.specs.declared.changes.Quantity.{Quantity}
use Rattle.trim.specs.declared.changes.Quantity.TheVariants.{Temperature, MeasuredPressure}
use Rattle.trim.specs.declared.changes.Direction.{Direction}
use Rattle.trim.specs.declared.changes.Direction.TheVariants.{Up, Down}
use Rattle.trim.specs.declared.changes.Turn.{Turn}
use Rattle.trim.specs.declared.search.Next.{Next}
use Rattle.trim.specs.Search.{next_of}
use Rattle.arithmetic.specs.Ascii.{ascii}
use Rattle.pages.specs.Characters.{number_text}

unfoldable pub trim_line : ℕ → List ℕ
trim_line class = ascii "trim class " ++ number_text class ++ ascii "\n"

-- so many tenths as a decimal
unfoldable pub tenths_text : ℕ → List ℕ
tenths_text k = number_text (k / 10) ++ (ascii "." ++ (48 + k % 10) ∷ [])

abbrev pub change_words : Quantity → Direction → List ℕ
change_words Temperature Up = ascii " C warmer\n"
change_words Temperature Down = ascii " C colder\n"
change_words MeasuredPressure Up = ascii " hPa higher\n"
change_words MeasuredPressure Down = ascii " hPa lower\n"

unfoldable pub turn_line : Turn → List ℕ
turn_line t =
    ascii "next class " ++ number_text t.class ++ ascii " at " ++ tenths_text t.change.tenths
    ++ change_words t.change.quantity t.change.direction

abbrev pub change_line : (Option Turn) → List ℕ
change_line (Some t) = turn_line t
change_line None = ascii "no other class within 20 C or 20 hPa\n"

-- ---- where a reading for the search is wanting, 22, it starts at what the figures show, as if measured at sea level, where no default band acts: the density
-- is that of the temperature, pressure and humidity alone. No line where that is refused
abbrev pub shown_station : Readings → Figures → Readings
shown_station r f =
    let placed = with_entry (with_entry no_readings altitude nought) temperature f.temperature_c in
    with_entry (with_entry placed humidity (value_or_zero (entry_of r humidity))) measured_pressure f.pressure_hpa

abbrev pub or_from_shown : Readings → Figures → Outcome Next → Outcome Next
or_from_shown r f (accepted n) = accepted n
or_from_shown r f (refused number values) = next_of (shown_station r f)

abbrev pub next_class_line : Outcome Next → List ℕ
next_class_line (accepted n) = change_line n.turn
next_class_line (refused number values) = []
