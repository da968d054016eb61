-- The order of the fields does not matter to a record that the first reader accepts: neighbours may change places. Assumes nothing.
use Rattle.record.proofs.Kit.{Value, ◌≡◌, refl, sym, ap, ◌∙◌, false, List, ◌++◌, ℕ, arith, length, drop_of_length-le, Outcome, accepted, Row, ◌then◌, then-none, then-accepted, Option, Readings, tag_of, field, size_of, noted, read_record}
use Rattle.record.proofs.Walk.{field_rows, read, any_last}
use Rattle.record.proofs.EntryLaws.{is-new, with_readings, either_order}
use Rattle.record.proofs.Followed.{read_whole}
use Rattle.record.proofs.Following.{read-on}

-- all fields, by the first reader
abbrev pub whole : Readings → List ℕ → Outcome Readings
whole r s = read false r 0 s

abbrev pub rows : Readings → List ℕ → List Row
rows r f = field_rows false r 0 f

-- a field by itself, and what follows it
pub read_one : (r : Readings) (f t : List ℕ) → length f ≡ size_of f → whole r (f ++ t) ≡ (rows r f then whole (noted r (field f)) t)
read_one r f t one =
    read_whole f t (omega arith) false r 0
    ∙ ap (λ (u : List ℕ). rows r f then read false (noted r (field f)) (tag_of f) (u ++ t)) (drop_of_length-le f {i = size_of f} (omega arith))
    ∙ ap (λ (o : Outcome Readings). rows r f then o) (any_last (noted r (field f)) (tag_of f) 0 t)

module _ (f g t : List ℕ) (one : length f ≡ size_of f) (one' : length g ≡ size_of g) {q : Readings} where
  exchanged : (r : Readings) → whole r (f ++ (g ++ t)) ≡ accepted q → whole r (g ++ (f ++ t)) ≡ accepted q
  exchanged r e =
      let F = field f in
      let G = field g in
      let first = then-accepted (rows r f) (sym (read_one r f (g ++ t) one) ∙ e) in
      let second = then-accepted (rows (noted r F) g) (sym (read_one (noted r F) g t one') ∙ first.1) in
      let o = either_order r.slots F.meaning G.meaning F.value G.value (is-new false r 0 f first.0) (is-new false (noted r F) 0 g second.0) in
      read_one r g (f ++ t) one'
      ∙ then-none (rows r g) (with_readings false (noted r F) 0 g second.0 false r 0 o.second refl)
      ∙ read_one (noted r G) f t one
      ∙ then-none (rows (noted r G) f) (with_readings false r 0 f first.0 false (noted r G) 0 o.first refl)
      ∙ ap (λ (l : List (Option Value)). whole (record { slots = l }) t) (sym o.same)
      ∙ second.1

  -- after any accepted record a
  pub exchange : (a : List ℕ) {r : Readings} → read_record false a ≡ accepted r → read_record false (a ++ (f ++ (g ++ t))) ≡ accepted q → read_record false (a ++ (g ++ (f ++ t))) ≡ accepted q
  exchange a {r} before e = read-on a (g ++ (f ++ t)) before ∙ exchanged r (sym (read-on a (f ++ (g ++ t)) before) ∙ e)
