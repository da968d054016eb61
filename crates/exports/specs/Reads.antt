-- A record's readings as arrays with a place for each meaning, which is what `Records` takes. Definitions only.
use Rattle.fields.specs.declared.fields.Value.{Value}
use Rattle.std.specs.Prelude.{ℕ, zero, suc, Bool, List, [], ◌∷◌, ◌++◌, Float, None, Option, Some}
use Rattle.refusal.specs.Outcomes.{Outcome, accepted, refused}
use Rattle.fields.specs.declared.fields.Value.TheVariants.{Double, Count}
use Rattle.fields.specs.Fields.{meanings}
use Rattle.record.specs.declared.entries.Readings.{Readings}
use Rattle.record.specs.Entries.{stored_of, entry_for, value_or_zero}
use Rattle.record.specs.Readings.{read_record}
use Rattle.exports.specs.Lent.{with_room, handed_out}

-- ---- what is stored: its form, 0 absent, 1 a double or 2 a count
abbrev pub form_of : Option Value → ℕ
form_of None = 0
form_of (Some (Double x)) = 1
form_of (Some (Count word)) = 2

-- its double, whatever the form; 0 where it is absent
abbrev pub double_for : Option Value → Float
double_for s = value_or_zero (entry_for s)

-- a count's word by two's complement; 0 where it is none
abbrev pub count_for : Option Value → ℕ
count_for None = 0
count_for (Some (Double x)) = 0
count_for (Some (Count word)) = word

-- ---- one of these for each of the first n meanings
unfoldable pub each : {A : Type 0} → (Option Value → A) → ℕ → Readings → List A
each of zero r = []
each of (suc m) r = each of m r ++ (of (stored_of r m) ∷ [])

-- ---- a record's readings, for arrays that each have a place for each meaning
abbrev pub read_in : Bool → List ℕ → List Float → List ℕ → List ℕ → Outcome Readings
read_in strict forms values counts bytes = with_room meanings forms (with_room meanings values (with_room meanings counts (read_record strict bytes)))

-- what is refused leaves an array
abbrev pub array_after : {A : Type 0} → (Option Value → A) → List A → Outcome Readings → List A
array_after of lent (accepted r) = handed_out (each of meanings r) lent
array_after of lent (refused number values) = lent
