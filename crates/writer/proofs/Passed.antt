-- What is stored of readings for the tags below one: how far a record is written or read, field by field in the order of its tags. Assumes nothing.
use Rattle.writer.proofs.Kit.{◌≡◌, refl, sym, ap, subst, ◌∙◌, Bool, true, false, not, cond, List, ℕ, suc, ◌+◌, ◌-◌, ◌≤◌, ◌<◌, arith, lt-ltb, le-ltb, ltb-true, ltb-false, leb-true, leb-false, eqb-true, eqb-false, ltb, leb, eqb, length, length-set, List·getD-eq-default, get_or-set_same, get_or-set_other, ext_get_or, Value, Double, Count, Option, None, Some, Readings, meanings, is_count_tag, meaning_of, tag_in, is_count, no_readings, stored_of, with_value, from_first, tag-form, tag-meaning, has_form}
use lib.ListN.{get_or-replicate}
use Rattle.writer.proofs.FieldRead.{one_form}

-- ---- what is stored for a meaning
pub no_stored : (m : ℕ) → stored_of no_readings m ≡ None
no_stored m = go (leb meanings m) refl
  where
    go : (b : Bool) → leb meanings m ≡ b → stored_of no_readings m ≡ None
    go true e = (List·getD-eq-default no_readings.slots None (leb-true meanings m e))
    go false e = (get_or-replicate meanings m None None (leb-false meanings m e))

-- where a value is stored, there is such a meaning
pub is-meant : (r : Readings) (m : ℕ) {v : Value} → stored_of r m ≡ Some v → m < length r.slots
is-meant r m told = go (leb (length r.slots) m) refl
  where
    go : (b : Bool) → leb (length r.slots) m ≡ b → m < length r.slots
    go true e =
        let none : stored_of r m ≡ None = (List·getD-eq-default r.slots None (leb-true (length r.slots) m e)) in
        let z : ◌≡◌ {A = ℕ} 0 1 = cc in
        absurd (omega arith)
    go false e = leb-false (length r.slots) m e

module _ (q : Readings) (m : ℕ) (v : Value) where
  pub stored_same : m < length q.slots → stored_of (with_value q m v) m ≡ Some v
  stored_same h = (get_or-set_same q.slots m (Some v) None h)

  pub stored_other : (n : ℕ) → (n ≡ m → ⊥) → stored_of (with_value q m v) n ≡ stored_of q n
  stored_other n h = (get_or-set_other q.slots m n (Some v) None h)

-- ---- the tag of a value with a meaning
pub tag-at_least : (counts : Bool) (m : ℕ) → 1 ≤ tag_in counts m
tag-at_least true m = omega arith
tag-at_least false m = omega arith

pub tag-at_most : (counts : Bool) (m : ℕ) → m < meanings → tag_in counts m < 17 + meanings
tag-at_most true m h = omega arith
tag-at_most false m h = omega arith

-- the tag of a value's form, by its meaning
pub form-tag : (tag : ℕ) (v : Value) → 1 ≤ tag → has_form tag v ≡ true → tag_in (is_count v) (meaning_of tag) ≡ tag
form-tag tag v some form = go (is_count v) (one_form tag v form)
  where
    go : (b : Bool) → is_count_tag tag ≡ b → tag_in b (meaning_of tag) ≡ tag
    go true e = let m : meaning_of tag ≡ tag - 17 = ap (λ (b : Bool). cond b (tag - 17) (tag - 1)) e in omega (arith, from_first tag e)
    go false e = let m : meaning_of tag ≡ tag - 1 = ap (λ (b : Bool). cond b (tag - 17) (tag - 1)) e in omega arith

pub tag_of-form : (m : ℕ) (v : Value) → m < meanings → has_form (tag_in (is_count v) m) v ≡ true
tag_of-form m (Double x) h = ap not (tag-form m h false)
tag_of-form m (Count word) h = tag-form m h true

-- ---- what is stored, where its tag is below one
abbrev pub up_to : ℕ → ℕ → (Option Value) → (Option Value)
up_to tag m None = None
up_to tag m (Some v) = cond (ltb (tag_in (is_count v) m) tag) (Some v) None

module _ (tag m : ℕ) (v : Value) where
  pub is_below : tag_in (is_count v) m < tag → up_to tag m (Some v) ≡ Some v
  is_below h = ap (λ (b : Bool). cond b (Some v) None) (lt-ltb (tag_in (is_count v) m) tag h)

  pub is_not_below : tag ≤ tag_in (is_count v) m → up_to tag m (Some v) ≡ None
  is_not_below h = ap (λ (b : Bool). cond b (Some v) None) (le-ltb (tag_in (is_count v) m) tag h)

none_below : (m : ℕ) (e : (Option Value)) → up_to 1 m e ≡ None
none_below m None = refl
none_below m (Some v) = is_not_below 1 m v (tag-at_least (is_count v) m)

all-below : (m : ℕ) (e : (Option Value)) → m < meanings → up_to (17 + meanings) m e ≡ e
all-below m None h = refl
all-below m (Some v) h = is_below (17 + meanings) m v (tag-at_most (is_count v) m h)

one_more : (tag m : ℕ) (e : (Option Value)) → ((v : Value) → e ≡ Some v → tag_in (is_count v) m ≡ tag → ⊥) → up_to tag m e ≡ up_to (suc tag) m e
one_more tag m None other = refl
one_more tag m (Some v) other = go (ltb (tag_in (is_count v) m) tag) refl
  where
    go : (b : Bool) → ltb (tag_in (is_count v) m) tag ≡ b → up_to tag m (Some v) ≡ up_to (suc tag) m (Some v)
    go true e = let h = ltb-true (tag_in (is_count v) m) tag e in is_below tag m v h ∙ sym (is_below (suc tag) m v (omega arith))
    go false e =
        let h = ltb-false (tag_in (is_count v) m) tag e in
        let apart : tag_in (is_count v) m ≡ tag → ⊥ = other v refl in
        is_not_below tag m v h ∙ sym (is_not_below (suc tag) m v (omega arith))

-- ---- the readings of the tags below one
pub record Below (tag : ℕ) (q r : Readings) : Type 0 where
  pub all : length q.slots ≡ meanings
  pub each : (m : ℕ) → m < meanings → stored_of q m ≡ up_to tag m (stored_of r m)

pub none_passed : (r : Readings) → Below 1 no_readings r
none_passed r = record { all = refl; each = λ m h. no_stored m ∙ sym (none_below m (stored_of r m)) }

pub all-passed : (q r : Readings) → length r.slots ≡ meanings → Below (17 + meanings) q r → q ≡ r
all-passed q r all h =
    ap from (ext_get_or None q.slots r.slots (h.all ∙ sym all) (λ i j.
    let less : i < meanings = omega (arith, h.all) in
    h.each i less ∙ all-below i (stored_of r i) less))
  where
    from : List (Option Value) → Readings
    from l = record { slots = l }

-- a tag has no field: nothing is stored for its meaning in its form
abbrev pub NoField : ℕ → Readings → Type 0
NoField tag r = (v : Value) → stored_of r (meaning_of tag) ≡ Some v → has_form tag v ≡ true → ⊥

module _ (tag : ℕ) (some : 1 ≤ tag) (q r : Readings) (h : Below tag q r) where
  pub no_field-passed : NoField tag r → Below (suc tag) q r
  no_field-passed none = record {
    all = h.all;
    each = λ m less. h.each m less ∙ one_more tag m (stored_of r m) (λ v told same.
        none v (ap (stored_of r) (ap meaning_of (sym same) ∙ tag-meaning m less (is_count v)) ∙ told) (subst (λ (t : ℕ). has_form t v ≡ true) same (tag_of-form m v less)));
  }

  pub field-passed : (v : Value) → meaning_of tag < meanings → stored_of r (meaning_of tag) ≡ Some v → has_form tag v ≡ true → Below (suc tag) (with_value q (meaning_of tag) v) r
  field-passed v meant told form = record { all = length-set q.slots (meaning_of tag) (Some v) ∙ h.all; each = λ m less. go m less (eqb m (meaning_of tag)) refl }
    where
      q' : Readings
      q' = with_value q (meaning_of tag) v

      go : (m : ℕ) → m < meanings → (b : Bool) → eqb m (meaning_of tag) ≡ b → stored_of q' m ≡ up_to (suc tag) m (stored_of r m)
      go m less true e =
          let here : m ≡ meaning_of tag = eqb-true m (meaning_of tag) e in
          ap (stored_of q') here
          ∙ stored_same q (meaning_of tag) v (omega (arith, h.all))
          ∙ sym (is_below (suc tag) (meaning_of tag) v (omega (arith, form-tag tag v some form)))
          ∙ ap (up_to (suc tag) (meaning_of tag)) (sym told)
          ∙ ap (λ (n : ℕ). up_to (suc tag) n (stored_of r n)) (sym here)
      go m less false e =
          let other : m ≡ meaning_of tag → ⊥ = eqb-false m (meaning_of tag) e in
          stored_other q (meaning_of tag) v m other
          ∙ h.each m less
          ∙ one_more tag m (stored_of r m) (λ w is same. other (sym (tag-meaning m less (is_count w)) ∙ ap meaning_of same))
