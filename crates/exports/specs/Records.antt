-- Readings as arrays with a place for each meaning, and what the writer leaves in a lent buffer. Definitions only.
use Rattle.std.specs.Prelude.{ℕ, zero, suc, Bool, true, not, ◌&&◌, cond, List, [], ◌∷◌, leb, eqb, get_or, Float}
use Rattle.std.specs.Float.{nan}
use Rattle.refusal.specs.Outcomes.{Outcome, accepted, refused, row, ◌then◌, ◌⟫◌}
use Rattle.fields.specs.declared.fields.Value.TheVariants.{Count}
use Rattle.record.specs.declared.entries.Readings.{Readings}
use Rattle.fields.specs.Fields.{meanings}
use Rattle.record.specs.Entries.{no_readings, with_value, with_entry}
use Rattle.writer.specs.Records.{record_of}
use Rattle.writer.specs.Written.{length_written, overwritten}
use Rattle.exports.specs.Lent.{with_room}

-- ---- a form for each meaning, 0 absent, 1 a double or 2 a count, and a value: the double, or the count's word by two's complement
abbrev pub is_form : ℕ → Bool
is_form form = leb form 2

-- the first n
unfoldable pub are_forms : ℕ → List ℕ → Bool
are_forms zero forms = true
are_forms (suc m) forms = are_forms m forms && is_form (get_or forms m 0)

unfoldable pub with_form : Readings → ℕ → ℕ → Float → ℕ → Readings
with_form r m form x word = cond (eqb form 1) (with_entry r m x) (cond (eqb form 2) (with_value r m (Count word)) r)

-- the readings of the first n meanings
unfoldable pub array_readings : ℕ → List ℕ → List Float → List ℕ → Readings
array_readings zero forms values counts = no_readings
array_readings (suc m) forms values counts = with_form (array_readings m forms values counts) m (get_or forms m 0) (get_or values m nan) (get_or counts m 0)

-- the record of arrays, each with a place for each meaning. 254: a form is none of these
abbrev pub array_record : List ℕ → List Float → List ℕ → Outcome (List ℕ)
array_record forms values counts =
    with_room meanings forms
    (with_room meanings values
    (with_room meanings counts (row (not (are_forms meanings forms)) 254 [] ∷ [] then accepted (record_of (array_readings meanings forms values counts)))))

-- ---- a record in a lent buffer: its length, or 18 where the buffer is shorter
abbrev pub length_in : List ℕ → Outcome (List ℕ) → Outcome ℕ
length_in buffer o = o ⟫ (λ s. length_written s buffer)

-- what is refused leaves the buffer
abbrev pub out_after : List ℕ → Outcome (List ℕ) → List ℕ
out_after buffer (accepted s) = overwritten s buffer
out_after buffer (refused number values) = buffer
