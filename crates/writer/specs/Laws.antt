-- What may be relied on of a record that is written and read, document 02. Definitions only.
use Rattle.std.specs.Prelude.{ℕ, ◌<◌, ◌≡◌, List, T, length, get_or, Some}
use Rattle.std.specs.Float.{binary64}
use Rattle.std.specs.Float.Ieee.{fits}
use Rattle.fields.specs.declared.fields.Value.{Value}
use Rattle.fields.specs.declared.fields.Value.TheVariants.{Double, Count}
use Rattle.record.specs.declared.entries.Readings.{Readings}
use Rattle.fields.specs.Fields.{meanings}
use Rattle.record.specs.Entries.{stored_of}

-- a value as the code holds it: a double, or a count's word of 32 bits
abbrev pub IsHeld : Value → Type 0
IsHeld (Double x) = T (fits binary64 x)
IsHeld (Count word) = word < 4294967296

-- readings as the code holds them: a slot for each meaning
pub record AreHeld (r : Readings) : Type 0 where
  pub all : length r.slots ≡ meanings
  pub values : (m : ℕ) (v : Value) → stored_of r m ≡ Some v → IsHeld v

-- bytes as the code holds them
abbrev pub AreBytes : List ℕ → Type 0
AreBytes s = (i : ℕ) → get_or s i 0 < 256
