-- A stored record in counts of thousandths or in doubles, document 02: "convert a stored record to the new form and back, fields in their old order".
-- Definitions only.
use Rattle.std.specs.Prelude.{ℕ, ℤ, ◌≡◌, Bool, true, false, List, [], ◌∷◌, ◌++◌, map, length, take, Option, Some, None, Result, Ok, Err}
use Rattle.refusal.specs.declared.Refusal.{Refusal}
use Rattle.refusal.specs.declared.Refusal.TheVariants.{NoCount}
use Rattle.refusal.specs.Outcomes.{Outcome, accepted, refused, ◌⟫◌, Row, row, ◌then◌}
use Rattle.thousandths.specs.Thousandths.{count_of, twos_complement, thousandths, count_for}
use Rattle.fields.specs.declared.fields.Value.{Value}
use Rattle.fields.specs.declared.fields.Value.TheVariants.{Double, Count}
use Rattle.fields.specs.Fields.{is_count_tag, meaning_of, tag_of, size_of, value_of, heads}
use Rattle.record.specs.Readings.{read_rows}
use Rattle.writer.specs.Records.{field_for}
use Rattle.writer.specs.Written.{length_written, overwritten}

-- ---- a value, in counts or in doubles: none where it is kept, since it is so already, and the refusal of a double that has no count
abbrev pub Turned : Type 0
Turned = Result (Option Value) Refusal

abbrev pub counted_field : Option ℤ → Turned
counted_field (Some n) = Ok (Some (Count (twos_complement n)))
counted_field None = Err NoCount

abbrev pub turned : Bool → Value → Turned
turned true (Double x) = counted_field (count_for x)
turned true (Count word) = Ok None
turned false (Double x) = Ok None
turned false (Count word) = Ok (Some (Double (thousandths (count_of word))))

-- ---- a field: what is kept is so byte for byte
abbrev pub field_as : List ℕ → Turned → List ℕ
field_as f (Ok None) = f
field_as f (Ok (Some v)) = field_for (meaning_of (tag_of f)) v
field_as f (Err c) = []

-- its length, where it has n bytes and the meaning m
abbrev pub size_as : ℕ → ℕ → Turned → ℕ
size_as n m (Ok None) = n
size_as n m (Ok (Some v)) = length (field_for m v)
size_as n m (Err c) = 0

abbrev pub turned_of : Bool → List ℕ → Turned
turned_of counts f = turned counts (value_of f)

abbrev pub field_in : Bool → List ℕ → List ℕ
field_in counts f = field_as f (turned_of counts f)

abbrev pub has_no_count : Turned → Bool
has_no_count (Ok v) = false
has_no_count (Err c) = true

-- ---- a record: its fields, each with all of its bytes
abbrev pub fields_of : List ℕ → List (List ℕ)
fields_of s = map (λ f. take (size_of f) f) (heads s)

abbrev pub fields_in : Bool → List (List ℕ) → List ℕ
fields_in counts [] = []
fields_in counts (f ∷ fs) = field_in counts f ++ fields_in counts fs

abbrev pub record_in : Bool → List ℕ → List ℕ
record_in counts s = fields_in counts (fields_of s)

-- 20: to counts, a double that no count in the signed 32-bit range gives
abbrev pub count_rows : Bool → List (List ℕ) → List Row
count_rows counts fs = map (λ f. row (has_no_count (turned_of counts f)) 20 []) fs

-- 5 to 8 of the whole record, by the first reader; then 20, field by field
unfoldable pub converted : Bool → List ℕ → Outcome (List ℕ)
converted counts s = (read_rows false s ++ count_rows counts (fields_of s)) then accepted (record_in counts s)

-- ---- into a lent buffer. Last, 18: it is shorter than the record
abbrev pub length_converted : Bool → List ℕ → List ℕ → Outcome ℕ
length_converted counts s buffer = converted counts s ⟫ (λ t. length_written t buffer)

-- what a refusal leaves is the buffer as it was
abbrev pub written_in : Outcome (List ℕ) → List ℕ → List ℕ
written_in (accepted t) buffer = overwritten t buffer
written_in (refused n vs) buffer = buffer

-- ---- every field is in a form: of counts, or of doubles
abbrev pub AllIn : Bool → List (List ℕ) → Type 0
AllIn counts [] = Unit {0}
AllIn counts (f ∷ fs) = (is_count_tag (tag_of f) ≡ counts) × AllIn counts fs
