-- A record is read by its first 256 bytes: each field that is accepted takes a meaning, and with all of them taken one field more is refused. Assumes nothing.
use Rattle.record.proofs.Kit.{◌≡◌, refl, sym, ap, ◌∙◌, Bool, true, false, cond, List, [], ◌∷◌, ◌++◌, ℕ, zero, suc, ◌+◌, ◌*◌, ◌≤◌, ◌<◌, arith, leb-true, leb-false, leb, lit≤, length, take, drop, get_or, set, length-drop, length-set, take-append-drop, length-take-le, take_all, then_same, Value, None, Some, Option, Readings, meanings, tag_of, size_of, field, noted, read_record, no_readings, entry_for, is_some, at_most_lem}
use Rattle.record.proofs.Walk.{field_rows, read, read_step}
use Rattle.record.proofs.EntryLaws.{is-new, in_range_lem}
use Rattle.record.proofs.Followed.{read_whole}

-- ---- how many meanings have no entry yet
abbrev pub room : List (Option Value) → ℕ
room [] = 0
room (e ∷ l) = cond (is_some (entry_for e)) 0 1 + room l

pub falls : (l : List (Option Value)) (m : ℕ) (x : Value) → m < length l → is_some (entry_for (get_or l m None)) ≡ false → suc (room (set l m (Some x))) ≡ room l
falls [] m x h e = absurd (omega arith)
falls (a ∷ l) zero x h e = omega (arith, ap {B = ℕ} (λ b. cond b 0 1) e)
falls (a ∷ l) (suc m) x h e = omega (arith, falls l m x (omega arith) e)

-- ---- enough bytes for a field more than there is room for: a field has eleven at most
module _ (strict : Bool) where
  enough-fields : (n : ℕ) (r : Readings) (last : ℕ) (s t : List ℕ) → room r.slots < n → length r.slots ≡ meanings → 11 * suc (room r.slots) ≤ length s
      → read strict r last (s ++ t) ≡ read strict r last s
  enough-fields zero r last s t few all h = absurd (omega arith)
  enough-fields (suc n) r last s t few all h =
      let whole : size_of s ≤ length s = omega (arith, at_most_lem (tag_of s)) in
      let f = field s in
      read_whole s t whole strict r last
      ∙ then_same (field_rows strict r last s) (λ none.
      let fewer = falls r.slots f.meaning f.value (omega (arith, in_range_lem strict r last s none)) (is-new strict r last s none) in
      enough-fields n (noted r f) (tag_of s) (drop (size_of s) s) t (omega (arith, fewer)) (length-set r.slots f.meaning (Some f.value) ∙ all) (omega (arith, fewer, length-drop (size_of s) s, at_most_lem (tag_of s))))
      ∙ sym (read_step strict r last s (omega arith))

  pub first-fields : (k : ℕ) → 11 * suc meanings ≤ k → (s : List ℕ) → read_record strict (take k s) ≡ read_record strict s
  first-fields k h s = go (leb (length s) k) refl
    where
      go : (b : Bool) → leb (length s) k ≡ b → read_record strict (take k s) ≡ read_record strict s
      go true e = ap (read_record strict) (take_all k s (leb-true (length s) k e))
      go false e =
          let start = take k s in
          let long : length start ≡ k = length-take-le k s (omega (arith, leb-false (length s) k e)) in
          sym (enough-fields (suc meanings) no_readings 0 start (drop k s) (omega arith) refl (omega arith))
          ∙ ap (read_record strict) (take-append-drop k s)

  pub first-bytes : (s : List ℕ) → read_record strict (take 256 s) ≡ read_record strict s
  first-bytes = first-fields 256 (lit≤ tt)
