-- What is written is read back: field by field, the readings so far are those of the tags passed. Assumes nothing.
use Rattle.writer.proofs.Kit.{◌≡◌, refl, sym, ap, subst, ◌∙◌, Bool, true, false, cond, true≢false, List, [], ◌++◌, ℕ, zero, suc, ◌+◌, ◌≤◌, ◌<◌, arith, le-ltb, accepted, Value, Option, None, Some, Readings, meanings, is_tag, meaning_of, is_count, read_record, no_readings, stored_of, with_value, entry_for, entry_of, is_some, tag-known, no_bytes, read, field_with, has_form, stored_field, fields_from, AreHeld, record_of}
use Rattle.writer.proofs.FieldRead.{read-field}
use Rattle.writer.proofs.Passed.{is-meant, form-tag, up_to, is_not_below, Below, none_passed, all-passed, no_field-passed, field-passed}
use Rattle.writer.proofs.OneRun.{one-run}

module _ (r : Readings) (known : AreHeld r) where
  meant : (m : ℕ) {v : Value} → stored_of r m ≡ Some v → m < meanings
  meant m told = omega (arith, is-meant r m told, known.all)

  -- a tag with a field
  module _ (tag : ℕ) (q : Readings) (last : ℕ) (some : 1 ≤ tag) (most : tag < 17 + meanings) (less : last < tag) (h : Below tag q r) (v : Value) (told : stored_of r (meaning_of tag) ≡ Some v)
      (form : has_form tag v ≡ true) where
    is_tag_lem : is_tag tag ≡ true
    is_tag_lem = subst (λ (t : ℕ). is_tag t ≡ true) (form-tag tag v some form) (tag-known (meaning_of tag) (meant (meaning_of tag) told) (is_count v))

    new : is_some (entry_of q (meaning_of tag)) ≡ false
    new =
        ap (λ (e : (Option Value)). is_some (entry_for e))
        (h.each (meaning_of tag) (meant (meaning_of tag) told) ∙ ap (up_to tag (meaning_of tag)) told ∙ is_not_below tag (meaning_of tag) v (omega (arith, form-tag tag v some form)))

    with_field : (t : List ℕ) → read true q last (field_with tag v ++ t) ≡ read true (with_value q (meaning_of tag) v) tag t
    with_field t = read-field tag v is_tag_lem (omega arith) form (known.values (meaning_of tag) v told) true q last new (le-ltb tag last (omega arith)) t

  read-rest : (k tag : ℕ) (q : Readings) (last : ℕ) → tag + k ≡ 17 + meanings → 1 ≤ tag → last < tag → Below tag q r → read true q last (fields_from k tag r) ≡ accepted r
  unfolding fields_from
  read-rest zero tag q last all some less h =
      let end : tag ≡ 17 + meanings = omega arith in
      no_bytes true q last ∙ ap accepted (all-passed q r known.all (subst (λ (t : ℕ). Below t q r) end h))
  read-rest (suc k) tag q last all some less h = go (stored_of r (meaning_of tag)) refl (λ p n lt below. read-rest k (suc tag) p n (omega arith) (omega arith) lt below)
    where
      Rest : Type 0
      Rest = (p : Readings) (n : ℕ) → n < suc tag → Below (suc tag) p r → read true p n (fields_from k (suc tag) r) ≡ accepted r

      go : (e : (Option Value)) → stored_of r (meaning_of tag) ≡ e → Rest → read true q last (stored_field tag e ++ fields_from k (suc tag) r) ≡ accepted r
      go None told next = next q last (omega arith) (no_field-passed tag some q r h (λ v here form. let z : ◌≡◌ {A = ℕ} 0 1 = cc in omega arith))
      go (Some v) told next = in_form (has_form tag v) refl
        where
          in_form : (b : Bool) → has_form tag v ≡ b → read true q last (cond b (field_with tag v) [] ++ fields_from k (suc tag) r) ≡ accepted r
          in_form true form =
              with_field tag q last some (omega arith) less h v told form (fields_from k (suc tag) r)
              ∙ next (with_value q (meaning_of tag) v) tag (omega arith) (field-passed tag some q r h v (meant (meaning_of tag) told) told form)
          in_form false form =
              next q last (omega arith) (no_field-passed tag some q r h (λ w here other.
              let same : v ≡ w = cc in
              true≢false (sym other ∙ ap (has_form tag) (sym same) ∙ form)))

-- the strict reader reads back what is written, each value in its form, NaN as the one NaN
pub read_back : (r : Readings) → AreHeld r → read_record true (record_of r) ≡ accepted r
read_back r known = ap (read_record true) (sym (one-run r known.all)) ∙ read-rest r known (16 + meanings) 1 no_readings 0 refl (omega arith) (omega arith) (none_passed r)
