-- A record as one run of tags, 01 to 17 (hex): those between the two forms have no field. Assumes nothing.
use Rattle.writer.proofs.Kit.{◌≡◌, refl, sym, ap, ◌∙◌, Bool, true, false, cond, List, [], ◌++◌, append_assoc, ℕ, zero, suc, ◌+◌, ◌≤◌, ◌<◌, arith, add-one, length, Value, Option, None, Some, Readings, meanings, meaning_of, is_count, tag_in, stored_of, field_with, has_form, stored_field, fields_from, record_of}
use Rattle.writer.proofs.Fields.{rest, next_field}
use Rattle.writer.proofs.Passed.{NoField, is-meant, form-tag}

-- the fields of the tags from one on
abbrev pub from : ℕ → Readings → List ℕ
from tag r = rest (17 + meanings) tag r

-- a tag with no field
module _ (tag : ℕ) (r : Readings) (none : NoField tag r) where
  no_bytes : stored_field tag (stored_of r (meaning_of tag)) ≡ []
  no_bytes = go (stored_of r (meaning_of tag)) refl
    where
      go : (e : (Option Value)) → stored_of r (meaning_of tag) ≡ e → stored_field tag e ≡ []
      go None told = refl
      go (Some v) told = in_form (has_form tag v) refl
        where
          in_form : (b : Bool) → has_form tag v ≡ b → cond b (field_with tag v) [] ≡ []
          in_form true form = absurd (none v told form)
          in_form false form = refl

-- tags with no field
pub skipped : (r : Readings) (n tag : ℕ) → tag + n ≤ 17 + meanings → ((u : ℕ) → tag ≤ u → u < tag + n → NoField u r) → from tag r ≡ from (tag + n) r
skipped r zero tag few none = ap (λ (t : ℕ). from t r) (omega arith)
skipped r (suc n) tag few none =
    next_field (17 + meanings) tag r (omega arith)
    ∙ ap (λ (f : List ℕ). f ++ from (tag + 1) r) (no_bytes tag r (none tag (omega arith) (omega arith)))
    ∙ skipped r n (tag + 1) (omega arith) (λ u more less. none u (omega arith) (omega arith))
    ∙ ap (λ (t : ℕ). from t r) (omega arith)

run : (k tag : ℕ) (r : Readings) → tag + k ≤ 17 + meanings → from tag r ≡ fields_from k tag r ++ from (tag + k) r
unfolding fields_from
run zero tag r few = let end : tag ≡ tag + 0 = omega arith in ap (λ (t : ℕ). from t r) end
run (suc k) tag r few =
    let end : suc tag + k ≡ tag + suc k = omega arith in
    let f = stored_field tag (stored_of r (meaning_of tag)) in
    next_field (17 + meanings) tag r (omega arith)
    ∙ ap (λ (t : ℕ). f ++ from t r) (add-one tag)
    ∙ ap (λ (l : List ℕ). f ++ l) (run k (suc tag) r (omega arith))
    ∙ sym (append_assoc f (fields_from k (suc tag) r) (from (suc tag + k) r))
    ∙ ap (λ (t : ℕ). f ++ fields_from k (suc tag) r ++ from t r) end

-- between the forms: a value's meaning is below 07
between : (r : Readings) → length r.slots ≡ meanings → (u : ℕ) → 8 ≤ u → u < 17 → NoField u r
between r all u more less v told form = go (is_count v) (form-tag u v (omega arith) form) (is-meant r (meaning_of u) told)
  where
    go : (b : Bool) → tag_in b (meaning_of u) ≡ u → meaning_of u < length r.slots → ⊥
    go true e meant = omega arith
    go false e meant = omega arith

pub one-run : (r : Readings) → length r.slots ≡ meanings → from 1 r ≡ record_of r
one-run r all = run meanings 1 r (omega arith) ∙ ap (λ (l : List ℕ). fields_from meanings 1 r ++ l) (skipped r 9 8 (omega arith) (λ u more less. between r all u more (omega arith)))
