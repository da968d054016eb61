-- What is typed and what is judged are tied: each word's number is a reading, each reading a word's number, and the record that a new mast would send of
-- them is judged as they are. Definitions only.
use Rattle.std.specs.Prelude.{ℕ, ◌≡◌, ℤ, Ok, Some}
use mathlib.Core.List.{List, Memᴰ}
use Rattle.decimals.specs.Typed.{typed}
use Rattle.record.specs.declared.entries.Readings.{Readings}
use Rattle.record.specs.Entries.{entry_of}
use Rattle.park_text.specs.declared.units.Unit.{Unit}
use Rattle.park_text.specs.Units.{places_of, reading_in}
use Rattle.park_text.specs.Word.{Says}

-- the reading of m is the double nearest to the exact value of the number d in the unit u: d is a count of its last decimal, and `reading_in` the double
-- nearest to that many
pub record Nearest (r : Readings) (m : ℕ) (u : Unit) (d : List ℕ) : Type 0 where
  pub count : ℤ
  pub read : typed (places_of u) d ≡ Ok count
  pub entry : entry_of r m ≡ Some (reading_in u count)

-- one of the words says something of m
pub record Typed (ws : List (List ℕ)) (m : ℕ) : Type 0 where
  pub word : List ℕ
  pub unit : Unit
  pub decimal : List ℕ
  pub there : Memᴰ word ws
  pub says : Says word m unit decimal
