-- The vote on the fields of three records, document 02: by meaning, each field takes the middle of the three values. Definitions only.
use Rattle.std.specs.Prelude.{ℕ, zero, suc, Bool, false, not, ◌&&◌, ◌||◌, List, [], ◌∷◌, Float, None, Option, Some, is_some}
use Rattle.refusal.specs.Outcomes.{Row, row}
use Rattle.record.specs.declared.entries.Readings.{Readings}
use Rattle.fields.specs.Fields.{meanings}
use Rattle.record.specs.Entries.{no_readings, entry_of, with_entry}
use Rattle.arithmetic.specs.Middle.{middle}

-- ---- 21: a field is in one or two of the three records
abbrev pub is_not_in_all : Option Float → Option Float → Option Float → Bool
is_not_in_all a b c = (is_some a || is_some b || is_some c) && not (is_some a && is_some b && is_some c)

-- one of the first n meanings
unfoldable pub not_in_all_of : ℕ → Readings → Readings → Readings → Bool
not_in_all_of zero a b c = false
not_in_all_of (suc m) a b c = not_in_all_of m a b c || is_not_in_all (entry_of a m) (entry_of b m) (entry_of c m)

abbrev pub any_not_in_all : Readings → Readings → Readings → Bool
any_not_in_all a b c = not_in_all_of meanings a b c

abbrev pub shared_rows : Readings → Readings → Readings → List Row
shared_rows a b c = row (any_not_in_all a b c) 21 [] ∷ []

-- ---- a meaning that is in all three takes the middle
abbrev pub with_middle : Readings → ℕ → Option Float → Option Float → Option Float → Readings
with_middle r m (Some x) (Some y) (Some z) = with_entry r m (middle x y z)
with_middle r m (Some x) (Some y) None = r
with_middle r m (Some x) None c = r
with_middle r m None b c = r

-- the first n meanings
unfoldable pub voted_of : ℕ → Readings → Readings → Readings → Readings
voted_of zero a b c = no_readings
voted_of (suc m) a b c = with_middle (voted_of m a b c) m (entry_of a m) (entry_of b m) (entry_of c m)

abbrev pub voted : Readings → Readings → Readings → Readings
voted a b c = voted_of meanings a b c
