-- The readings of a mast record, document 01: fields one after the other, each meaning at most once. The first reader takes any order of tags; document 02's
-- strict reader takes only rising ones. Definitions only.
use Rattle.std.specs.Prelude.{ℕ, Bool, ◌&&◌, ltb, is_some}
use mathlib.Core.List.{List, [], ◌∷◌, ◌++◌, map, foldl}
use Rattle.refusal.specs.Outcomes.{Outcome, accepted, Row, row, ◌then◌}
use Rattle.fields.specs.declared.fields.Field.{Field}
use Rattle.record.specs.declared.entries.Readings.{Readings}
use Rattle.fields.specs.Fields.{tag_of, field, head_rows, heads}
use Rattle.record.specs.Entries.{no_readings, with_value, entry_of}

-- ---- a field that is whole, after those that gave r, the last of them with the tag `last`. 8: tag repeated, or the field in both forms. 19, to the strict
-- reader: a tag below the last
abbrev pub order_rows : Bool → Readings → ℕ → Field → List Row
order_rows strict r last f =
    row (is_some (entry_of r f.meaning)) 8 [] ∷
    row (strict && ltb f.tag last) 19 [] ∷ []

abbrev pub noted : Readings → Field → Readings
noted r f = with_value r f.meaning f.value

-- ---- the record: the rows of its fields, one field after the other, and the readings that they give. No tag is below 0
abbrev pub rows_of : Bool → Readings → ℕ → List (List ℕ) → List Row
rows_of strict r last [] = []
rows_of strict r last (s ∷ rest) = (head_rows s ++ order_rows strict r last (field s)) ++ rows_of strict (noted r (field s)) (tag_of s) rest

abbrev pub read_rows : Bool → List ℕ → List Row
read_rows strict s = rows_of strict no_readings 0 (heads s)

abbrev pub readings : List ℕ → Readings
readings s = foldl noted no_readings (map field (heads s))

abbrev pub read_record : Bool → List ℕ → Outcome Readings
read_record strict s = read_rows strict s then accepted (readings s)
