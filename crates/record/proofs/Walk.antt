-- Reading a record field by field: what the field at the head refuses, or else the reading of what follows it. Assumes nothing.
use Rattle.record.proofs.Kit.{◌≡◌, refl, ap, ◌∙◌, Bool, false, List, [], ◌∷◌, ◌++◌, map, ℕ, ◌<◌, length, drop, length-set, Outcome, accepted, Row, ◌then◌, then_append, Readings, Some, meanings, tag_of, field, head_rows, size_of, heads, heads-none, heads-step, order_rows, noted, rows_of, readings, no_readings}
use mathlib.Core.List.{foldl}

module _ (strict : Bool) where
  abbrev read_of : Readings → ℕ → List (List ℕ) → Outcome Readings
  read_of r last fs = rows_of strict r last fs then accepted (foldl noted r (map field fs))

  -- the outcome of all fields, after those that gave r
  abbrev pub read : Readings → ℕ → List ℕ → Outcome Readings
  read r last s = read_of r last (heads s)

  -- all that the field at the head may be refused for
  abbrev pub field_rows : Readings → ℕ → List ℕ → List Row
  field_rows r last s = head_rows s ++ order_rows strict r last (field s)

  pub no_bytes : (r : Readings) (last : ℕ) → read r last [] ≡ accepted r
  no_bytes r last = ap (read_of r last) heads-none

  pub read_step : (r : Readings) (last : ℕ) (s : List ℕ) → 0 < length s
      → read r last s ≡ (field_rows r last s then read (noted r (field s)) (tag_of s) (drop (size_of s) s))
  read_step r last s some =
      let q = noted r (field s) in
      let rest = heads (drop (size_of s) s) in
      ap (read_of r last) (heads-step s some) ∙ then_append (field_rows r last s) (rows_of strict q (tag_of s) rest) (accepted (foldl noted q (map field rest)))

-- the first reader does not look at the last tag
pub any_last : (r : Readings) (i j : ℕ) (s : List ℕ) → read false r i s ≡ read false r j s
any_last r i j s = go (heads s)
  where
    go : (fs : List (List ℕ)) → read_of false r i fs ≡ read_of false r j fs
    go [] = refl
    go (f ∷ fs) = refl

-- a slot for each meaning
pub all_slots : (s : List ℕ) → length (readings s).slots ≡ meanings
all_slots s = go (heads s) no_readings refl
  where
    go : (fs : List (List ℕ)) (r : Readings) → length r.slots ≡ meanings → length (foldl noted r (map field fs)).slots ≡ meanings
    go [] r all = all
    go (s ∷ fs) r all = let f = field s in go fs (noted r f) (length-set r.slots f.meaning (Some f.value) ∙ all)
