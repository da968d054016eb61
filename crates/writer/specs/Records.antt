-- The bytes of readings as a mast record, document 02: any set of fields, each in its form, the tag bytes rising, absent fields skipped. Definitions only.
use Rattle.std.specs.Prelude.{ℕ, zero, suc, ◌/◌, ◌%◌, ◌^◌, Bool, not, cond, List, [], ◌∷◌, ◌++◌, ltb, None, Option, Some}
use Rattle.std.specs.Float.{binary64}
use Rattle.std.specs.Float.Ieee.{to_bits}
use Rattle.fields.specs.declared.fields.Value.{Value}
use Rattle.fields.specs.declared.fields.Value.TheVariants.{Double, Count}
use Rattle.record.specs.declared.entries.Readings.{Readings}
use Rattle.fields.specs.Fields.{meanings, is_count_tag, meaning_of, tag_in, data_size, is_count}
use Rattle.record.specs.Entries.{stored_of}

-- the last k bytes of n, the highest first
unfoldable pub bytes : ℕ → ℕ → List ℕ
bytes zero n = []
bytes (suc k) n = (n / 256 ^ k % 256) ∷ bytes k n

-- the number that a value's data spells: a double's pattern, every NaN the one pattern, or a count's word
abbrev pub data_of : Value → ℕ
data_of (Double x) = to_bits binary64 x
data_of (Count word) = word

-- a field: tag, length, data
unfoldable pub field_with : ℕ → Value → List ℕ
field_with tag v = bytes 1 tag ++ bytes 2 (data_size tag) ++ bytes (data_size tag) (data_of v)

-- the field of a meaning with a value, by the tag of the value's form; nothing where there is no such meaning
abbrev pub field_for : ℕ → Value → List ℕ
field_for m v = cond (ltb m meanings) (field_with (tag_in (is_count v) m) v) []

-- whether a tag is of a value's form
abbrev pub has_form : ℕ → Value → Bool
has_form tag (Double x) = not (is_count_tag tag)
has_form tag (Count word) = is_count_tag tag

-- the field of a tag, where there is a value in its form
abbrev pub stored_field : ℕ → (Option Value) → List ℕ
stored_field tag None = []
stored_field tag (Some v) = cond (has_form tag v) (field_with tag v) []

-- the fields of the tags from `tag` on, k of them
unfoldable pub fields_from : ℕ → ℕ → Readings → List ℕ
fields_from zero tag r = []
fields_from (suc k) tag r = stored_field tag (stored_of r (meaning_of tag)) ++ fields_from k (suc tag) r

-- all doubles, 01 to 07, and then all counts, 11 to 17 (hex)
abbrev pub record_of : Readings → List ℕ
record_of r = fields_from meanings 1 r ++ fields_from meanings 17 r
