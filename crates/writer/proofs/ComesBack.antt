-- A record that has no field in a form and converts to it comes back with the same bytes, field by field. Assumes nothing.
use Rattle.writer.proofs.Kit.{◌≡◌, refl, sym, ap, ap₂, subst, ◌∙◌, Bool, true, false, not, List, ◌∷◌, ◌++◌, ℕ, arith, take, drop, take-append-drop, accepted, NoneHolds, then-none, then-accepted, none_both, size_of, heads_from, Split, at-end, at_field, split, read_rows, AreBytes, field_in, fields_of, fields_in, record_in, count_rows, converted, AllIn, head-whole}
use Rattle.writer.proofs.ConversionStated.{ComesBack, ComeBack}
use Rattle.writer.proofs.Split.{split_step, split_after, first-size, first_rows, bytes-taken, bytes_dropped, Whole, head_of, is-all-whole}
use Rattle.writer.proofs.FieldTurned.{seen_as, field_back}
use Rattle.writer.proofs.ReadAlike.{none-refuses, same_entries}

module _ (counts : Bool) where
  -- a record in the form, turned back
  abbrev Back : List ℕ → Type 0
  Back s = NoneHolds (count_rows (not counts) (fields_of (record_in counts s))) × (record_in (not counts) (record_in counts s) ≡ s)

  back_from : {s : List ℕ} → Split s → AreBytes s → Whole s → AllIn (not counts) (fields_of s) → NoneHolds (count_rows counts (fields_of s)) → Back s
  unfolding heads_from
  back_from at-end all w forms has = (tt, refl)
  back_from (at_field b t rest-split) all w forms has =
      let s = b ∷ t in
      let rest = drop (size_of s) s in
      let f = take (size_of s) s in
      let g = field_in counts f in
      let fields = split_step s (omega arith) in
      let head = head_of s (omega arith) w in
      let fits = head-whole s head.0 in
      let one = first-size s fits in
      let none-of_it = subst NoneHolds (sym (first_rows s fits)) head.0 in
      let form = subst (λ (fs : List (List ℕ)). AllIn (not counts) fs) fields forms in
      let none = subst (λ (fs : List (List ℕ)). NoneHolds (count_rows counts fs)) fields has in
      let bytes = bytes-taken s all (size_of s) in
      let here = field_back counts f bytes one none-of_it form.0 none.0 in
      let after = back_from rest-split (bytes_dropped s all (size_of s)) head.1 form.1 none.1 in
      let again : fields_of (record_in counts s) ≡ g ∷ fields_of (record_in counts rest) =
      ap (λ (fs : List (List ℕ)). fields_of (fields_in counts fs)) fields ∙ split_after g (record_in counts rest) (seen_as counts f bytes one none-of_it none.0).one in (
        subst (λ (fs : List (List ℕ)). NoneHolds (count_rows (not counts) fs)) (sym again) (here.0, after.0),
        ap (fields_in (not counts)) again ∙ ap₂ (λ (a c : List ℕ). a ++ c) here.1 after.1 ∙ take-append-drop (size_of s) s,
      )

  comes_back : ComesBack counts
  unfolding converted
  comes_back s t all forms e =
      let ok = none-refuses counts s e in
      let back = back_from (split s) all (is-all-whole s ok.0) forms ok.1.0 in
      let read = (then-accepted (read_rows false t) (same_entries counts s t all e).reads-after).0 in
      let rows = subst (λ (u : List ℕ). NoneHolds (count_rows (not counts) (fields_of u))) ok.1.1 back.0 in
      then-none (read_rows false t ++ count_rows (not counts) (fields_of t)) (none_both (read_rows false t) (count_rows (not counts) (fields_of t)) read rows)
      ∙ ap accepted (ap (record_in (not counts)) (sym ok.1.1) ∙ back.1)

pub come_back : ComeBack
come_back = record { wholly_in_doubles = comes_back true; wholly_in_counts = comes_back false }
