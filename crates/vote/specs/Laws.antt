-- What may be relied on of a vote beyond its contract, document 02. Definitions only.
use Rattle.std.specs.Prelude.{ℕ, ◌+◌, ◌<◌, ◌≡◌, List, Float, None, Option, Some, is_some}
use Rattle.refusal.specs.Outcomes.{accepted}
use Rattle.record.specs.declared.entries.Readings.{Readings}
use Rattle.fields.specs.Fields.{meanings}
use Rattle.record.specs.Entries.{entry_of}
use Rattle.refusal.specs.declared.judge.Figures.{Figures}
use Rattle.record.specs.Readings.{readings}
use Rattle.mast.specs.Judge.{judge}
use Rattle.arithmetic.specs.Middle.{middle, one_if}

-- the first mast that the judge refuses gives its refusal and its number, whatever the masts after it say
abbrev pub Accepts : List ℕ → Type 0
Accepts s = (f : Figures) × (judge s ≡ accepted f)

-- ---- 21 is answered exactly if the three masts are accepted and a field, by meaning and in either form, is in one or two of them
abbrev pub in_how_many : List ℕ → List ℕ → List ℕ → ℕ → ℕ
in_how_many a b c m = one_if (is_some (entry_of (readings a) m)) + one_if (is_some (entry_of (readings b) m)) + one_if (is_some (entry_of (readings c) m))

-- ---- each meaning that is in all three takes the middle of the three values, and no other is there
abbrev pub middle_entry : Option Float → Option Float → Option Float → Option Float
middle_entry (Some x) (Some y) (Some z) = Some (middle x y z)
middle_entry (Some x) (Some y) None = None
middle_entry (Some x) None c = None
middle_entry None b c = None

-- ---- two equal records outvote a third with the same fields: each field takes their value, so the figures are theirs
abbrev pub SameFields : Readings → Readings → Type 0
SameFields r q = (m : ℕ) → m < meanings → is_some (entry_of r m) ≡ is_some (entry_of q m)
