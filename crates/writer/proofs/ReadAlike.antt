-- To the first reader a record and what it converts to are the same: field by field, it notes the same doubles for the same meanings. Assumes nothing.
use Rattle.std.specs.Prelude.{Some}
use Rattle.writer.proofs.Kit.{◌≡◌, refl, sym, ap, subst, ◌∙◌, Bool, true, false, List, ◌∷◌, ◌++◌, ℕ, ◌≤◌, ◌<◌, arith, eqb-true, eqb-false, eqb, length, take, drop, length-set, accepted, NoneHolds, then-none, then-accepted, none_before, none_after, none_both, Field, Value, Some, Readings, meanings, double_of, tag_of, size_of, field, head_rows, heads_from, order_rows, noted, read_rows, readings, read_record, no_readings, with_value, entry_for, entry_of, is_some, Split, at-end, at_field, split, field_rows, no_bytes, read_step, any_last, is-new, is_whole, in_range_lem, AreBytes, field_in, turned_of, has_no_count, fields_of, fields_in, record_in, count_rows, converted}
use Rattle.record.proofs.Exchange.{whole, read_one}
use Rattle.writer.proofs.Passed.{stored_same, stored_other}
use Rattle.writer.proofs.ConversionStated.{SameEntries}
use Rattle.writer.proofs.Split.{split_step, first-size, first_rows, first_field, bytes-taken, bytes_dropped}
use Rattle.writer.proofs.FieldTurned.{SeenAs, seen_as}

-- readings with the same entries
record Same (r p : Readings) : Type 0 where
  all : length r.slots ≡ meanings
  all' : length p.slots ≡ meanings
  each : (n : ℕ) → entry_of r n ≡ entry_of p n

-- a value noted for a meaning
entry-same : (r : Readings) (m : ℕ) (v : Value) → m < length r.slots → entry_of (with_value r m v) m ≡ Some (double_of v)
entry-same r m v h = ap entry_for (stored_same r m v h)

entry_other : (r : Readings) (m n : ℕ) (v : Value) → (n ≡ m → ⊥) → entry_of (with_value r m v) n ≡ entry_of r n
entry_other r m n v h = ap entry_for (stored_other r m v n h)

noted-same : (r p : Readings) (m : ℕ) (v w : Value) → m < meanings → double_of v ≡ double_of w → Same r p → Same (with_value r m v) (with_value p m w)
noted-same r p m v w meant double h = record {
  all = length-set r.slots m (Some v) ∙ h.all;
  all' = length-set p.slots m (Some w) ∙ h.all';
  each = λ n. go n (eqb n m) refl;
}
  where
    go : (n : ℕ) (b : Bool) → eqb n m ≡ b → entry_of (with_value r m v) n ≡ entry_of (with_value p m w) n
    go n true e =
        let here : n ≡ m = eqb-true n m e in
        ap (entry_of (with_value r m v)) here
        ∙ entry-same r m v (omega (arith, h.all))
        ∙ ap Some double
        ∙ sym (entry-same p m w (omega (arith, h.all')))
        ∙ ap (entry_of (with_value p m w)) (sym here)
    go n false e =
        let other : n ≡ m → ⊥ = eqb-false n m e in
        entry_other r m n v other ∙ h.each n ∙ sym (entry_other p m n w other)

-- what is read of a record in a form, after p
record ReadAfter (counts : Bool) (p : Readings) (s : List ℕ) (q : Readings) : Type 0 where
  after : Readings
  reads : whole p (record_in counts s) ≡ accepted after
  same : Same q after

module _ (counts : Bool) where
  -- a field more
  module _ (r p : Readings) (s : List ℕ) (all : AreBytes s) (h : Same r p) (none : NoneHolds (field_rows false r 0 s)) (has : has_no_count (turned_of counts (take (size_of s) s)) ≡ false) where
    abbrev f : List ℕ
    f = take (size_of s) s

    abbrev g : List ℕ
    g = field_in counts f

    fits : size_of s ≤ length s
    fits = is_whole false r 0 s none

    seen : SeenAs f g
    seen =
        seen_as counts f (bytes-taken s all (size_of s)) (first-size s fits)
        (subst NoneHolds (sym (first_rows s fits)) (none_before (head_rows s) (order_rows false r 0 (field s)) none)) has

    meaning : (field g).meaning ≡ (field s).meaning
    unfolding field
    meaning = seen.meaning ∙ ap (λ (x : Field). x.meaning) (first_field s fits)

    value : double_of (field s).value ≡ double_of (field g).value
    unfolding field
    value = sym (seen.value ∙ ap (λ (x : Field). double_of x.value) (first_field s fits))

    none-of_it : NoneHolds (field_rows false p 0 g)
    none-of_it =
        none_both (head_rows g) (order_rows false p 0 (field g)) seen.none
        (ap is_some (ap (entry_of p) meaning ∙ sym (h.each (field s).meaning)) ∙ is-new false r 0 s none, (refl, tt))

    noted-so : Same (noted r (field s)) (noted p (field g))
    noted-so =
        subst (λ (n : ℕ). Same (noted r (field s)) (with_value p n (field g).value)) (sym meaning)
        (noted-same r p (field s).meaning (field s).value (field g).value (in_range_lem false r 0 s none) value h)

    read_more : (t : List ℕ) → whole p (g ++ t) ≡ whole (noted p (field g)) t
    read_more t = read_one p g t seen.one ∙ then-none (field_rows false p 0 g) none-of_it

  read-after : {s : List ℕ} → Split s → (r p q : Readings) → AreBytes s → Same r p → whole r s ≡ accepted q → NoneHolds (count_rows counts (fields_of s)) → ReadAfter counts p s q
  unfolding heads_from
  read-after at-end r p q all h e has =
      let done = no_bytes false r 0 in
      let is : r ≡ q = cc in
      record { after = p; reads = no_bytes false p 0; same = subst (λ (u : Readings). Same u p) is h }
  read-after (at_field b t rest-split) r p q all h e has =
      let s = b ∷ t in
      let rest = drop (size_of s) s in
      let fields = split_step s (omega arith) in
      let ok = then-accepted (field_rows false r 0 s) (sym (read_step false r 0 s (omega arith)) ∙ e) in
      let none = subst (λ (fs : List (List ℕ)). NoneHolds (count_rows counts fs)) fields has in
      let on = read-after rest-split (noted r (field s)) (noted p (field (g r p s all h ok.0 none.0))) q (bytes_dropped s all (size_of s))
      (noted-so r p s all h ok.0 none.0) (any_last (noted r (field s)) 0 (tag_of s) rest ∙ ok.1) none.1 in
      record {
        after = on.after;
        reads = ap (λ (fs : List (List ℕ)). whole p (fields_in counts fs)) fields ∙ read_more r p s all h ok.0 none.0 (record_in counts rest) ∙ on.reads;
        same = on.same;
      }

-- a conversion that succeeds: no row refuses
pub none-refuses : (counts : Bool) (s : List ℕ) {t : List ℕ} → converted counts s ≡ accepted t → NoneHolds (read_rows false s) × (NoneHolds (count_rows counts (fields_of s)) × (record_in counts s ≡ t))
unfolding converted
none-refuses counts s {t} e =
    let rows = count_rows counts (fields_of s) in
    let ok = then-accepted (read_rows false s ++ rows) e in
    let is = ok.1 in
    let same : record_in counts s ≡ t = cc in
    (none_before (read_rows false s) rows ok.0, (none_after (read_rows false s) rows ok.0, same))

pub same_entries : SameEntries
same_entries counts s t all e =
    let ok = none-refuses counts s e in
    let first : read_record false s ≡ accepted (readings s) = then-none (read_rows false s) ok.0 in
    let on = read-after counts (split s) no_readings no_readings (readings s) all (record { all = refl; all' = refl; each = λ n. refl }) first ok.1.0 in
    record { before = readings s; after = on.after; reads_before = first; reads-after = ap (read_record false) (sym ok.1.1) ∙ on.reads; same = on.same.each }
