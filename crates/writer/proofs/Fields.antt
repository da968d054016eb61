-- The bytes of a field and of the fields from a tag on: how many they are, and one field after the other. Assumes nothing.
use Rattle.writer.proofs.Kit.{◌≡◌, sym, ap, ◌∙◌, Bool, true, false, cond, List, [], ◌++◌, ℕ, zero, suc, ◌+◌, ◌-◌, ◌*◌, ◌≤◌, ◌<◌, arith, add-one, lt-ltb, le-ltb, ltb, length, length-append, Value, Option, None, Some, Readings, meanings, meaning_of, tag_in, data_size, is_count, stored_of, at_most_lem, bytes, data_of, field_with, field_for, has_form, stored_field, fields_from}
use Rattle.writer.proofs.Bytes.{length-bytes}

pub length-field : (tag : ℕ) (v : Value) → length (field_with tag v) ≡ 3 + data_size tag
unfolding field_with
length-field tag v =
    let n = data_size tag in
    let a = bytes 1 tag in
    let b = bytes 2 n in
    omega (arith, length-append (a ++ b) (bytes n (data_of v)), length-append a b, length-bytes 1 tag, length-bytes 2 n, length-bytes n (data_of v))

-- the field of a meaning with a value
module _ (m : ℕ) (v : Value) where
  pub field-meant : m < meanings → field_for m v ≡ field_with (tag_in (is_count v) m) v
  field-meant h = simp (lt-ltb m meanings h)

  pub no_field-meant : meanings ≤ m → field_for m v ≡ []
  no_field-meant h = simp (le-ltb m meanings h)

  -- eleven bytes at most
  pub field-short : length (field_for m v) ≤ 11
  field-short = go (ltb m meanings)
    where
      go : (b : Bool) → length (cond b (field_with (tag_in (is_count v) m) v) []) ≤ 11
      go true = omega (arith, length-field (tag_in (is_count v) m) v, at_most_lem (tag_in (is_count v) m))
      go false = omega arith

-- the field of a tag, by what is stored
module _ (tag : ℕ) {e : (Option Value)} where
  pub absent : e ≡ None → stored_field tag e ≡ []
  absent told = ap (stored_field tag) told

  pub by_form : {v : Value} {b : Bool} → e ≡ Some v → has_form tag v ≡ b → stored_field tag e ≡ cond b (field_with tag v) []
  by_form {v} told form = ap (stored_field tag) told ∙ ap (λ (b : Bool). cond b (field_with tag v) []) form

-- the fields from a tag on, up to one
abbrev pub rest : ℕ → ℕ → Readings → List ℕ
rest end tag r = fields_from (end - tag) tag r

pub all-fields : (first : ℕ) (r : Readings) → rest (first + meanings) first r ≡ fields_from meanings first r
all-fields first r = let all : first + meanings - first ≡ meanings = omega arith in ap (λ (k : ℕ). fields_from k first r) all

pub next_field : (end tag : ℕ) (r : Readings) → tag < end → rest end tag r ≡ stored_field tag (stored_of r (meaning_of tag)) ++ rest end (tag + 1) r
unfolding fields_from
next_field end tag r h =
    let left : end - tag ≡ suc (end - suc tag) = omega arith in
    ap (λ (k : ℕ). fields_from k tag r) left ∙ ap (λ (i : ℕ). stored_field tag (stored_of r (meaning_of tag)) ++ rest end i r) (sym (add-one tag))

pub no_field : (end tag : ℕ) (r : Readings) → end ≤ tag → rest end tag r ≡ []
unfolding fields_from
no_field end tag r h = let none : end - tag ≡ 0 = omega arith in ap (λ (k : ℕ). fields_from k tag r) none

-- a field has eleven bytes at most
stored-size : (tag : ℕ) (e : (Option Value)) → length (stored_field tag e) ≤ 11
stored-size tag None = omega arith
stored-size tag (Some v) = go (has_form tag v)
  where
    go : (b : Bool) → length (cond b (field_with tag v) []) ≤ 11
    go true = omega (arith, length-field tag v, at_most_lem tag)
    go false = omega arith

pub few : (k tag : ℕ) (r : Readings) → length (fields_from k tag r) ≤ 11 * k
unfolding fields_from
few zero tag r = omega arith
few (suc k) tag r =
    let e = stored_of r (meaning_of tag) in
    omega (arith, length-append (stored_field tag e) (fields_from k (suc tag) r), stored-size tag e, few k (suc tag) r)
