-- A field of the mast record, document 01: one-byte tag, two-byte length, data; big-endian. It stands at the head of the bytes s. Definitions only.
use Rattle.std.specs.Prelude.{ℕ, zero, suc, ◌+◌, ◌-◌, Bool, true, false, not, ◌&&◌, ◌||◌, cond, List, [], ◌∷◌, ltb, leb, eqb, length, get_or, drop, Float}
use Rattle.refusal.specs.Outcomes.{Outcome, accepted, ◌⟫◌, Row, row, ◌then◌}
use Rattle.thousandths.specs.Thousandths.{count_of, thousandths}
use Rattle.fields.specs.declared.fields.Field.{Field}
use Rattle.fields.specs.declared.fields.Value.{Value}
use Rattle.fields.specs.declared.fields.Value.TheVariants.{Double, Count}
use Rattle.fields.specs.Bytes.{number_at, double_at}

-- ---- the tags, and the meanings that readings are kept by
-- 01 altitude m, 02 temperature °C, 03 station pressure hPa, 04 QNH hPa, 05 humidity percent, 06 density altitude m; document 02: 07 measured station
-- pressure hPa
abbrev pub meanings : ℕ
meanings = 7

-- document 02: tags 11 to 17 (hex) match 01 to 07, in counts of thousandths
abbrev pub is_count_tag : ℕ → Bool
is_count_tag tag = leb 17 tag && leb tag (16 + meanings)

abbrev pub is_tag : ℕ → Bool
is_tag tag = leb 1 tag && leb tag meanings || is_count_tag tag

abbrev pub meaning_of : ℕ → ℕ
meaning_of tag = cond (is_count_tag tag) (tag - 17) (tag - 1)

-- the tag of a meaning in a form: of counts, or of doubles
abbrev pub tag_in : Bool → ℕ → ℕ
tag_in counts m = cond counts 17 1 + m

abbrev pub altitude : ℕ
altitude = meaning_of 1

abbrev pub temperature : ℕ
temperature = meaning_of 2

abbrev pub station_pressure : ℕ
station_pressure = meaning_of 3

abbrev pub qnh : ℕ
qnh = meaning_of 4

abbrev pub humidity : ℕ
humidity = meaning_of 5

abbrev pub density_altitude : ℕ
density_altitude = meaning_of 6

abbrev pub measured_pressure : ℕ
measured_pressure = meaning_of 7

-- data is a double's eight bytes, or a count's four
abbrev pub data_size : ℕ → ℕ
data_size tag = cond (is_count_tag tag) 4 8

abbrev pub is_count : Value → Bool
is_count (Double x) = false
is_count (Count word) = true

-- a count, kept as its word by two's complement: n means the double nearest n / 1000
abbrev pub double_of : Value → Float
double_of (Double x) = x
double_of (Count word) = thousandths (count_of word)

-- ---- the field at the head of s
abbrev pub tag_of : List ℕ → ℕ
tag_of s = get_or s 0 0

abbrev pub length_of : List ℕ → ℕ
length_of s = number_at s 1 2

abbrev pub size_of : List ℕ → ℕ
size_of s = 3 + data_size (tag_of s)

abbrev pub value_of : List ℕ → Value
value_of s = cond (is_count_tag (tag_of s)) (Count (number_at s 3 4)) (Double (double_at s 3))

unfoldable pub field : List ℕ → Field
field s = record { tag = tag_of s; meaning = meaning_of (tag_of s); value = value_of s }

-- what is wrong with it. 5: header cut. 6: unknown tag. 7: length not the form's. 5: data cut
unfoldable pub head_rows : List ℕ → List Row
head_rows s =
    row (ltb (length s) 3) 5 [] ∷
    row (not (is_tag (tag_of s))) 6 [] ∷
    row (not (eqb (length_of s) (data_size (tag_of s)))) 7 [] ∷
    row (ltb (length s) (size_of s)) 5 [] ∷ []

abbrev pub field_of : List ℕ → Outcome Field
field_of s = head_rows s then accepted (field s)

-- ---- the fields of a record one after the other: the bytes from the first of each on. A field has a byte at least, so n fields for n bytes are enough
unfoldable pub heads_from : ℕ → List ℕ → List (List ℕ)
heads_from zero s = []
heads_from (suc n) [] = []
heads_from (suc n) (b ∷ t) = let s = b ∷ t in s ∷ heads_from n (drop (size_of s) s)

abbrev pub heads : List ℕ → List (List ℕ)
heads s = heads_from (length s) s

-- ---- the position after the field at position i, or the record's end where that comes first
unfoldable pub next_at : List ℕ → ℕ → ℕ
next_at s i = cond (leb (size_of (drop i s)) (length (drop i s))) (i + size_of (drop i s)) (length s)

-- the field at position i and the position after it, or what is wrong with the field
abbrev pub step_at : List ℕ → ℕ → Outcome (Field × ℕ)
step_at s i = field_of (drop i s) ⟫ (λ f. accepted (f, next_at s i))
