-- The changes of one reading, document 02: "k tenths of a degree or of a hectopascal, k from 1 to 200, applied as one tenth-count divided by 10 and added
-- to the field's value; the record is then judged anew". Definitions only.
use Rattle.trim.specs.declared.changes.Turn.{Turn}
use Rattle.std.specs.Prelude.{ℕ, cond, eqb, pos, Float, None, Option, Some}
use Rattle.std.specs.Float.{binary64}
use Rattle.std.specs.Float.Ieee.{neg, of_int}
use Rattle.arithmetic.specs.Decimals.{decimal}
use Rattle.arithmetic.specs.Operators.{◌⊕◌, ◌⊘◌}
use Rattle.refusal.specs.Outcomes.{Outcome, accepted, refused}
use Rattle.record.specs.declared.entries.Readings.{Readings}
use Rattle.fields.specs.Fields.{temperature, measured_pressure}
use Rattle.record.specs.Entries.{with_entry}
use Rattle.trim.specs.declared.changes.Quantity.{Quantity}
use Rattle.trim.specs.declared.changes.Quantity.TheVariants.{Temperature, MeasuredPressure}
use Rattle.trim.specs.declared.changes.Direction.{Direction}
use Rattle.trim.specs.declared.changes.Direction.TheVariants.{Up, Down}
use Rattle.trim.specs.declared.changes.Change.{Change}
use Rattle.trim.specs.declared.changes.Start.{Start}
use Rattle.trim.specs.Classes.{class_of}

-- ---- a change
-- k or -k
abbrev pub changed_count : Direction → ℕ → Float
changed_count Up k = of_int binary64 (pos k)
changed_count Down k = neg (of_int binary64 (pos k))

-- the count divided by 10
abbrev pub by : Change → Float
by x = changed_count x.direction x.tenths ⊘ decimal "10"

-- the readings with the quotient added to the field's value
abbrev pub changed_by : Start → Quantity → Float → Readings
changed_by s Temperature d = with_entry s.readings temperature (s.temperature_c ⊕ d)
changed_by s MeasuredPressure d = with_entry s.readings measured_pressure (s.pressure_hpa ⊕ d)

abbrev pub changed : Start → Change → Readings
changed s x = changed_by s x.quantity (by x)

abbrev pub change : Quantity → Direction → ℕ → Change
change q d k = record { quantity = q; direction = d; tenths = k }

-- ---- the class that a change gives, where it is another than the first; a changed reading that is refused does not count
abbrev pub another : ℕ → Change → Outcome ℕ → (Option Turn)
another first x (accepted n) = cond (eqb n first) None (Some (record { change = x; class = n }))
another first x (refused number values) = None

unfoldable pub tried : Start → Change → (Option Turn)
tried s x = another s.class x (class_of (changed s x))
