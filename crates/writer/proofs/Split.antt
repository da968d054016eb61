-- The fields of a record, each with all of its bytes: the first, and those that follow it. A record that is read is whole, and its fields are few. Assumes nothing.
use Rattle.writer.proofs.Kit.{◌≡◌, refl, sym, ap, ap₂, subst, ◌∙◌, Bool, true, false, List, [], ◌∷◌, ◌++◌, map, ℕ, ◌+◌, ◌*◌, ◌≤◌, ◌<◌, arith, ltb-true, ltb-false, ltb, length, take, drop, get_or, length-take, length-append, length-set, take-append-drop, List·getD-eq-default, length-take-le, get_or-drop, get_or-take, take-append_seam, drop-append_seam, NoneHolds, none_before, none_after, Readings, meanings, data_size, tag_of, size_of, field, head_rows, heads, noted, order_rows, rows_of, read_rows, no_readings, at_most_lem, heads-step, field_rows, is-new, in_range_lem, AreBytes, meaning_of, Ok, Err, Some, None, Turned, field_as, size_as, turned_of, field_in, fields_of, fields_in, record_in}
use lib.ListN.{get_or-append}
use Rattle.record.proofs.Followed.{same_rows, same-field}
use Rattle.record.proofs.FirstBytes.{room, falls}
use Rattle.writer.proofs.Fields.{field-short}

-- ---- one field after the other
pub split_step : (s : List ℕ) → 0 < length s → fields_of s ≡ take (size_of s) s ∷ fields_of (drop (size_of s) s)
split_step s some = ap (map (λ (f : List ℕ). take (size_of f) f)) (heads-step s some)

-- ---- the first field by itself
module _ (s : List ℕ) (whole : size_of s ≤ length s) where
  abbrev f : List ℕ
  f = take (size_of s) s

  first-tag : tag_of f ≡ tag_of s
  first-tag = get_or-take (size_of s) s 0 0 (omega arith)

  pub first-size : length f ≡ size_of f
  first-size = length-take-le (size_of s) s whole ∙ ap (λ (t : ℕ). 3 + data_size t) (sym first-tag)

  pub first_rows : head_rows f ≡ head_rows s
  first_rows = sym (same_rows f (drop (size_of s) s) (omega (arith, first-size))) ∙ ap head_rows (take-append-drop (size_of s) s)

  pub first_field : field f ≡ field s
  first_field = sym (same-field f (drop (size_of s) s) (omega (arith, first-size))) ∙ ap field (take-append-drop (size_of s) s)

-- ---- a field, and what follows it
pub split_after : (g t : List ℕ) → length g ≡ size_of g → fields_of (g ++ t) ≡ g ∷ fields_of t
split_after g t one =
    let tag : tag_of (g ++ t) ≡ tag_of g = get_or-append g t 0 0 (omega arith) in
    let size : size_of (g ++ t) ≡ length g = ap (λ (n : ℕ). 3 + data_size n) tag ∙ sym one in
    split_step (g ++ t) (omega (arith, length-append g t))
    ∙ ap (λ (n : ℕ). take n (g ++ t) ∷ fields_of (drop n (g ++ t))) size
    ∙ ap₂ (λ (f u : List ℕ). f ∷ fields_of u) (take-append_seam g t) (drop-append_seam g t)

-- ---- bytes, in a part
module _ (s : List ℕ) (all : AreBytes s) (n : ℕ) where
  pub bytes-taken : AreBytes (take n s)
  bytes-taken i = go (ltb i n) refl
    where
      go : (b : Bool) → ltb i n ≡ b → get_or (take n s) i 0 < 256
      go true e = subst (λ (b : ℕ). b < 256) (sym (get_or-take n s i 0 (ltb-true i n e))) (all i)
      go false e = subst (λ (b : ℕ). b < 256) (sym (List·getD-eq-default (take n s) 0 (omega (arith, ltb-false i n e, length-take n s)))) (omega arith)

  pub bytes_dropped : AreBytes (drop n s)
  bytes_dropped i = subst (λ (b : ℕ). b < 256) (sym (get_or-drop n s i 0)) (all (n + i))

-- ---- a record of whole fields
abbrev AreWhole : List (List ℕ) → Type 0
AreWhole [] = Unit {0}
AreWhole (s ∷ fs) = NoneHolds (head_rows s) × AreWhole fs

abbrev pub Whole : List ℕ → Type 0
Whole s = AreWhole (heads s)

pub head_of : (s : List ℕ) → 0 < length s → Whole s → NoneHolds (head_rows s) × Whole (drop (size_of s) s)
head_of s some w = subst AreWhole (heads-step s some) w

-- what the rows of a record's fields say of the first and of the others
module _ (r : Readings) (last : ℕ) (s : List ℕ) (fs : List (List ℕ)) (h : NoneHolds (rows_of false r last (s ∷ fs))) where
  here : NoneHolds (field_rows false r last s)
  here = none_before (field_rows false r last s) (rows_of false (noted r (field s)) (tag_of s) fs) h

  after : NoneHolds (rows_of false (noted r (field s)) (tag_of s) fs)
  after = none_after (field_rows false r last s) (rows_of false (noted r (field s)) (tag_of s) fs) h

pub is-all-whole : (s : List ℕ) → NoneHolds (read_rows false s) → Whole s
is-all-whole s h = go no_readings 0 (heads s) h
  where
    go : (r : Readings) (last : ℕ) (fs : List (List ℕ)) → NoneHolds (rows_of false r last fs) → AreWhole fs
    go r last [] h = tt
    go r last (s ∷ fs) h = (none_before (head_rows s) (order_rows false r last (field s)) (here r last s fs h), go (noted r (field s)) (tag_of s) fs (after r last s fs h))

-- ---- how long it is in a form: each field has a meaning of its own, and eleven bytes at most
fields-few : (r : Readings) (last : ℕ) (fs : List (List ℕ)) → length r.slots ≡ meanings → NoneHolds (rows_of false r last fs) → length fs ≤ room r.slots
fields-few r last [] all h = omega arith
fields-few r last (s ∷ fs) all h =
    let g = field s in
    let one = here r last s fs h in
    let fewer = falls r.slots g.meaning g.value (omega (arith, in_range_lem false r last s one)) (is-new false r last s one) in
    omega (arith, fewer, fields-few (noted r g) (tag_of s) fs (length-set r.slots g.meaning (Some g.value) ∙ all) (after r last s fs h))

pub length_as : (f : List ℕ) (t : Turned) → length (field_as f t) ≡ size_as (length f) (meaning_of (tag_of f)) t
length_as f (Ok None) = refl
length_as f (Ok (Some v)) = refl
length_as f (Err c) = refl

at_most_eleven : (n m : ℕ) (t : Turned) → n ≤ 11 → size_as n m t ≤ 11
at_most_eleven n m (Ok None) h = h
at_most_eleven n m (Ok (Some v)) h = field-short m v
at_most_eleven n m (Err c) h = omega arith

short : (counts : Bool) (fs : List (List ℕ)) → length (fields_in counts (map (λ (f : List ℕ). take (size_of f) f) fs)) ≤ 11 * length fs
short counts [] = omega arith
short counts (s ∷ fs) =
    let f = take (size_of s) s in
    let size = at_most_eleven (length f) (meaning_of (tag_of f)) (turned_of counts f) (omega (arith, length-take (size_of s) s, at_most_lem (tag_of s))) in
    omega (arith, length-append (field_in counts f) (fields_in counts (map (λ (f : List ℕ). take (size_of f) f) fs)), length_as f (turned_of counts f), size, short counts fs)

pub few_bytes : (counts : Bool) (s : List ℕ) → NoneHolds (read_rows false s) → length (record_in counts s) ≤ 11 * meanings
few_bytes counts s h = omega (arith, short counts (heads s), fields-few no_readings 0 (heads s) refl h)
