-- What follows a place in the record: nothing there matters to a refusal other than 5, and what follows an accepted record is read on from its readings. A refusal 5 is caused
-- at the end of the record. Assumes nothing.
use Rattle.record.proofs.Kit.{◌≡◌, refl, sym, ap, ◌∙◌, Bool, true, false, List, [], ◌∷◌, ◌++◌, ℕ, ◌<◌, arith, ltb-true, ltb-false, lt-ltb, ltb, Float, length, drop, length-append, Outcome, accepted, refused, Row, row, ◌then◌, then_append, then-none, then_to, then-accepted, Readings, tag_of, field, head_rows, size_of, Split, at-end, at_field, split, order_rows, noted, read_record, no_readings}
use Rattle.record.proofs.Walk.{field_rows, no_bytes, read, read_step, any_last}
use Rattle.record.proofs.EntryLaws.{is_whole}
use Rattle.record.proofs.Followed.{header_rows, same-header, read_whole}

-- ---- a refusal other than 5
module _ (strict : Bool) {k : ℕ} {vs : List Float} (other : k ≡ 5 → ⊥) where
  -- the header is cut, or the data
  cut : (r : Readings) (last : ℕ) (s t : List ℕ) (o p : Outcome Readings) → length s < size_of s → (field_rows strict r last s then o) ≡ refused k vs
      → (field_rows strict r last (s ++ t) then p) ≡ refused k vs
  unfolding head_rows
  cut r last s t o p short e = go (ltb (length s) 3) refl
    where
      data_row : List ℕ → List Row
      data_row u = row (ltb (length u) (size_of u)) 5 [] ∷ order_rows strict r last (field u)

      go : (b : Bool) → ltb (length s) 3 ≡ b → (field_rows strict r last (s ++ t) then p) ≡ refused k vs
      go true h =
          let five : (field_rows strict r last s then o) ≡ refused 5 [] = rw h in
          absurd (other (cc))
      go false h =
          let five : (data_row s then o) ≡ refused 5 [] = rw (lt-ltb (length s) (size_of s) short) in
          then_append (header_rows (s ++ t)) (data_row (s ++ t)) p
          ∙ ap (λ (rows : List Row). rows then data_row (s ++ t) then p) (same-header s t (ltb-false (length s) 3 h))
          ∙ then_to (header_rows s) (λ none f. absurd (other (cc))) (sym (then_append (header_rows s) (data_row s) o) ∙ e)

  refused-from : {s : List ℕ} → Split s → (r : Readings) (last : ℕ) (t : List ℕ) → read strict r last s ≡ refused k vs → read strict r last (s ++ t) ≡ refused k vs
  refused-from at-end r last t e = let f = no_bytes strict r last in let z : ◌≡◌ {A = ℕ} 0 1 = cc in absurd (omega arith)
  refused-from (at_field c u on) r last t e = go (ltb (length s) (size_of s)) refl (sym (read_step strict r last s (omega arith)) ∙ e)
      (refused-from on (noted r (field s)) (tag_of s) t)
    where
      s : List ℕ
      s = c ∷ u

      next : List ℕ → Outcome Readings
      next = read strict (noted r (field s)) (tag_of s)

      go : (b : Bool) → ltb (length s) (size_of s) ≡ b → (field_rows strict r last s then next (drop (size_of s) s)) ≡ refused k vs
          → (next (drop (size_of s) s) ≡ refused k vs → next (drop (size_of s) s ++ t) ≡ refused k vs) → read strict r last (s ++ t) ≡ refused k vs
      go true h e rest = read_step strict r last (s ++ t) (omega (arith, length-append s t)) ∙ cut r last s t _ _ (ltb-true (length s) (size_of s) h) e
      go false h e rest = read_whole s t (ltb-false (length s) (size_of s) h) strict r last ∙ then_to (field_rows strict r last s) (λ none. rest) e

pub nothing-after : (strict : Bool) {k : ℕ} {vs : List Float} (s t : List ℕ) → read_record strict s ≡ refused k vs → (k ≡ 5 → ⊥) → read_record strict (s ++ t) ≡ refused k vs
nothing-after strict s t e other = refused-from strict other (split s) no_readings 0 t e

-- ---- an accepted record
-- what follows it, after the last of its tags
pub record ReadOn (strict : Bool) (r : Readings) (last : ℕ) (a s : List ℕ) (q : Readings) : Type 0 where
  pub end : ℕ
  pub same : read strict r last (a ++ s) ≡ read strict q end s

from-readings : (strict : Bool) {a : List ℕ} → Split a → (r : Readings) (last : ℕ) (s : List ℕ) {q : Readings} → read strict r last a ≡ accepted q → ReadOn strict r last a s q
from-readings strict at-end r last s e = let f = no_bytes strict r last in record { end = last; same = ap (λ (q : Readings). read strict q last s) (cc) }
from-readings strict (at_field c u rest) r last s e =
    let a = c ∷ u in
    let ok = then-accepted (field_rows strict r last a) (sym (read_step strict r last a (omega arith)) ∙ e) in
    let on = from-readings strict rest (noted r (field a)) (tag_of a) s ok.1 in
    record { end = on.end; same = read_whole a s (is_whole strict r last a ok.0) strict r last ∙ then-none (field_rows strict r last a) ok.0 ∙ on.same }

-- the first reader does not look at that tag
pub read-on : (a s : List ℕ) {q : Readings} → read_record false a ≡ accepted q → read_record false (a ++ s) ≡ read false q 0 s
read-on a s {q} e = let on = from-readings false (split a) no_readings 0 s e in on.same ∙ any_last q on.end 0 s
