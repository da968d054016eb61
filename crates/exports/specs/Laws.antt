-- What may be relied on of arrays that are read of a record and written as one. Definitions only.
use Rattle.std.specs.Prelude.{ℕ, ◌<◌, ◌≡◌, List, T, false, Float, get_or, Some}
use Rattle.std.specs.Float.{nan, binary64}
use Rattle.std.specs.Float.Ieee.{fits, is_nan}
use Rattle.fields.specs.Fields.{meanings}
use Rattle.fields.specs.declared.fields.Value.TheVariants.{Double}
use Rattle.record.specs.declared.entries.Readings.{Readings}
use Rattle.record.specs.Entries.{stored_of}
use Rattle.refusal.specs.Outcomes.{Outcome, accepted}
use Rattle.exports.specs.Records.{array_record}
use Rattle.exports.specs.Reads.{form_of, double_for, count_for, each, array_after}

-- values and counts as the code holds them: doubles, and words of 32 bits
pub record AreNumbers (values : List Float) (counts : List ℕ) : Type 0 where
  pub doubles : (m : ℕ) → T (fits binary64 (get_or values m nan))
  pub words : (m : ℕ) → get_or counts m 0 < 4294967296

-- no reading is NaN, which has other patterns than the one that is written
abbrev pub NoneIsNan : Readings → Type 0
NoneIsNan r = (m : ℕ) (x : Float) → stored_of r m ≡ Some (Double x) → is_nan x ≡ false

-- the record that is written of three arrays in which r was read
abbrev pub written_of : List ℕ → List Float → List ℕ → Readings → Outcome (List ℕ)
written_of forms values counts r =
    array_record (array_after form_of forms (accepted r)) (array_after double_for values (accepted r)) (array_after count_for counts (accepted r))

-- r is read in the forms of these arrays, with the values of the doubles and the counts of the counts
pub record ReadAs (forms : List ℕ) (values : List Float) (counts : List ℕ) (r : Readings) : Type 0 where
  pub form : (m : ℕ) → m < meanings → get_or (each form_of meanings r) m 0 ≡ get_or forms m 0
  pub value : (m : ℕ) → m < meanings → get_or forms m 0 ≡ 1 → get_or (each double_for meanings r) m nan ≡ get_or values m nan
  pub count : (m : ℕ) → m < meanings → get_or forms m 0 ≡ 2 → get_or (each count_for meanings r) m 0 ≡ get_or counts m 0
