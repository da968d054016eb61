-- Readings by meaning: what is stored, in the form of its field, and the entry, whatever the form. Definitions only.
use Rattle.std.specs.Prelude.{ℕ, Float, get_or, set, replicate, None, Option, Some}
use Rattle.arithmetic.specs.Decimals.{nought}
use Rattle.fields.specs.declared.fields.Value.{Value}
use Rattle.fields.specs.declared.fields.Value.TheVariants.{Double}
use Rattle.record.specs.declared.entries.Readings.{Readings}
use Rattle.fields.specs.Fields.{meanings, double_of}

-- ---- what is stored by meaning: the value of its field, in the field's form
abbrev pub no_readings : Readings
no_readings = record { slots = replicate meanings None }

abbrev pub stored_of : Readings → ℕ → Option Value
stored_of r m = get_or r.slots m None

abbrev pub with_value : Readings → ℕ → Value → Readings
with_value r m v = record { slots = set r.slots m (Some v) }

-- ---- entries by meaning, whatever the form
abbrev pub entry_for : Option Value → Option Float
entry_for None = None
entry_for (Some v) = Some (double_of v)

abbrev pub entry_of : Readings → ℕ → Option Float
entry_of r m = entry_for (stored_of r m)

abbrev pub with_entry : Readings → ℕ → Float → Readings
with_entry r m x = with_value r m (Double x)

abbrev pub value_or_zero : Option Float → Float
value_or_zero (Some x) = x
value_or_zero None = nought
