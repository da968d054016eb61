-- What the strict reader takes is what is written of its readings: its tags rise, so field by field the record is the fields of the tags passed. Assumes nothing.
use Rattle.writer.proofs.Kit.{◌≡◌, refl, sym, ap, ap₂, subst, ◌∙◌, Bool, true, false, true≢false, List, [], ◌∷◌, ◌++◌, ◌⊎◌, inl, inr, ⊎_elim, ℕ, suc, ◌+◌, ◌-◌, ◌≤◌, ◌<◌, arith, add-one, ltb-true, ltb-false, eqb-true, eqb-false, ltb, eqb, length, drop, length-set, take-append-drop, get_or-drop, accepted, NoneHolds, then-accepted, none_before, Value, Option, Some, Readings, meanings, meaning_of, tag_in, is_count, tag_of, size_of, value_of, field, head_rows, order_rows, noted, no_readings, stored_of, with_value, entry_for, entry_of, is_some, Tagged, Split, at-end, at_field, split, field_rows, no_bytes, read, read_step, is-new, in_order, AreBytes}
use Rattle.writer.proofs.Stated.{NoNan, WrittenAgain}
use Rattle.writer.proofs.Fields.{next_field, no_field, by_form}
use Rattle.writer.proofs.FieldWritten.{value-form, has_its_form, tag_is, same_bytes}
use Rattle.writer.proofs.Passed.{NoField, no_stored, stored_same, stored_other, tag-at_least, tag-at_most, form-tag}
use Rattle.writer.proofs.OneRun.{from, skipped, one-run}

-- ---- the readings that fields up to a tag gave, and what the rest of the record gives
record Reached (last : ℕ) (q : Readings) : Type 0 where
  all : length q.slots ≡ meanings
  few : last < 17 + meanings
  passed : (m : ℕ) (v : Value) → stored_of q m ≡ Some v → tag_in (is_count v) m ≤ last
  here : (last ≡ 0) ⊎ (is_some (entry_of q (meaning_of last)) ≡ true)

record Taken (last : ℕ) (q r : Readings) (s : List ℕ) : Type 0 where
  same : s ≡ from (suc last) r
  all : length r.slots ≡ meanings
  kept : (m : ℕ) (v : Value) → stored_of q m ≡ Some v → stored_of r m ≡ Some v
  only : (m : ℕ) (v : Value) → stored_of r m ≡ Some v → tag_in (is_count v) m ≤ last → stored_of q m ≡ Some v

-- nothing is left
taken-all : (q : Readings) (last : ℕ) → Reached last q → Taken last q q []
taken-all q last before =
    let n = 17 + meanings - suc last in
    let up : suc last + n ≡ 17 + meanings = omega (arith, before.few) in
    let end = skipped q n (suc last) (omega (arith, up)) (λ u more less w told form. omega (arith, before.passed (meaning_of u) w told, form-tag u w (omega arith) form)) in
    record { same = sym (end ∙ no_field (17 + meanings) (suc last + n) q (omega (arith, up))); all = before.all; kept = λ m v told. told; only = λ m v told less. told }

-- a field more
module _ (s : List ℕ) (all : AreBytes s) (q : Readings) (last : ℕ) (none : NoneHolds (field_rows true q last s)) (before : Reached last q) where
  abbrev t : ℕ
  t = tag_of s

  abbrev m₀ : ℕ
  m₀ = meaning_of t

  abbrev v : Value
  v = value_of s

  abbrev q' : Readings
  q' = with_value q m₀ v

  head-none : NoneHolds (head_rows s)
  head-none = none_before (head_rows s) (order_rows true q last (field s)) none

  tag : Tagged t
  tag = tag_is s all head-none

  its_tag : tag_in (is_count v) m₀ ≡ t
  its_tag = ap (λ (b : Bool). tag_in b m₀) (value-form s) ∙ tag.same

  new : is_some (entry_of q m₀) ≡ false
  unfolding field
  new = is-new true q last s none

  rises : last < t
  unfolding field
  rises = ⊎_elim (λ none_before. omega (arith, its_tag, tag-at_least (is_count v) m₀)) (λ present. go (ltb last t) refl present) before.here
    where
      go : (b : Bool) → ltb last t ≡ b → is_some (entry_of q (meaning_of last)) ≡ true → last < t
      go true e present = ltb-true last t e
      go false e present =
          let same : last ≡ t = omega (arith, ltb-false last t e, ltb-false t last (in_order true q last s none)) in
          absurd (true≢false (sym present ∙ ap (λ (n : ℕ). is_some (entry_of q (meaning_of n))) same ∙ new))

  not_there : (w : Value) → stored_of q m₀ ≡ Some w → ⊥
  not_there w told = true≢false (sym (ap (λ (e : (Option Value)). is_some (entry_for e)) told) ∙ new)

  here_now : stored_of q' m₀ ≡ Some v
  here_now = stored_same q m₀ v (omega (arith, tag.meant, before.all))

  -- a value by now, at the new field's place or at another
  by_place : (m : ℕ) (w : Value) → stored_of q' m ≡ Some w → (tag_in (is_count w) m ≡ t) ⊎ (stored_of q m ≡ Some w)
  by_place m w told = go (eqb m m₀) refl
    where
      go : (b : Bool) → eqb m m₀ ≡ b → (tag_in (is_count w) m ≡ t) ⊎ (stored_of q m ≡ Some w)
      go true e =
          let place = eqb-true m m₀ e in
          let is : Some w ≡ Some v = sym told ∙ ap (stored_of q') place ∙ here_now in
          let same : w ≡ v = cc in
          inl (ap₂ (λ (u : Value) (n : ℕ). tag_in (is_count u) n) same place ∙ its_tag)
      go false e = inr (sym (stored_other q m₀ v m (eqb-false m m₀ e)) ∙ told)

  reached : Reached t q'
  reached = record {
    all = length-set q.slots m₀ (Some v) ∙ before.all;
    few = omega (arith, its_tag, tag-at_most (is_count v) m₀ tag.meant);
    passed = λ m w told. ⊎_elim (λ now. omega arith) (λ old. omega (arith, before.passed m w old, rises)) (by_place m w told);
    here = inr (ap (λ (e : (Option Value)). is_some (entry_for e)) here_now);
  }

  module _ (r : Readings) (numbers : NoNan r) (after : Taken t q' r (drop (size_of s) s)) where
    value : stored_of r m₀ ≡ Some v
    value = after.kept m₀ v here_now

    -- no field between the two tags
    between : (u : ℕ) → suc last ≤ u → u < t → NoField u r
    between u more less w told form =
        let its = form-tag u w (omega arith) form in
        ⊎_elim (λ now. omega arith) (λ old. omega (arith, before.passed (meaning_of u) w old)) (by_place (meaning_of u) w (after.only (meaning_of u) w told (omega arith)))

    taken_more : Taken last q r s
    taken_more =
        let n = t - suc last in
        let up : suc last + n ≡ t = omega (arith, rises) in
        let few : t < 17 + meanings = reached.few in
        record {
          same = sym (
              skipped r n (suc last) (omega arith) (λ u more less. between u more (omega arith))
              ∙ ap (λ (u : ℕ). from u r) up
              ∙ next_field (17 + meanings) t r few
              ∙ ap₂ (λ (f : List ℕ) (u : ℕ). f ++ from u r) (by_form t value (has_its_form s)) (add-one t)
              ∙ ap₂ (λ (a b : List ℕ). a ++ b) (same_bytes s all head-none (numbers m₀ v value)) (sym after.same)
              ∙ take-append-drop (size_of s) s);
          all = after.all;
          kept = λ m w told. go m w told (eqb m m₀) refl;
          only = λ m w told less. ⊎_elim (λ now. absurd (omega (arith, rises))) (λ old. old) (by_place m w (after.only m w told (omega (arith, rises))));
        }
      where
        go : (m : ℕ) (w : Value) → stored_of q m ≡ Some w → (b : Bool) → eqb m m₀ ≡ b → stored_of r m ≡ Some w
        go m w told true e = absurd (not_there w (ap (stored_of q) (sym (eqb-true m m₀ e)) ∙ told))
        go m w told false e = after.kept m w (stored_other q m₀ v m (eqb-false m m₀ e) ∙ told)

taken : {s : List ℕ} → Split s → (q r : Readings) (last : ℕ) → AreBytes s → NoNan r → Reached last q → read true q last s ≡ accepted r → Taken last q r s
unfolding field
taken at-end q r last all numbers before e =
    let done = no_bytes true q last in
    let same : q ≡ r = cc in
    subst (λ (p : Readings). Taken last q p []) same (taken-all q last before)
taken (at_field c u on) q r last all numbers before e =
    let s = c ∷ u in
    let size = size_of s in
    let ok = then-accepted (field_rows true q last s) (sym (read_step true q last s (omega arith)) ∙ e) in
    let bytes_after : AreBytes (drop size s) = λ i. subst (λ (b : ℕ). b < 256) (sym (get_or-drop size s i 0)) (all (size + i)) in
    taken_more s all q last ok.0 before r numbers
    (taken on (noted q (field s)) r (tag_of s) bytes_after numbers (reached s all q last ok.0 before) ok.1)

none-reached : Reached 0 no_readings
none-reached = record { all = refl; few = omega arith; passed = λ m v told. let z : ◌≡◌ {A = ℕ} 0 1 = cc (no_stored m) in absurd (omega arith); here = inl refl }

pub written-again : WrittenAgain
written-again s r all numbers e =
    let whole = taken (split s) no_readings r 0 all numbers none-reached e in
    whole.same ∙ one-run r whole.all
