-- What is known of a field that no row refuses: it is whole, its meaning is one of the seven, and had no entry. Two such fields may be noted in either order. Assumes nothing.
use Rattle.record.proofs.Kit.{◌≡◌, refl, ap, Bool, false, ◌&&◌, List, [], ◌∷◌, ℕ, zero, suc, ◌≤◌, ◌<◌, arith, ltb-false, not-false, ltb, length, get_or, set, NoneHolds, none_before, Value, None, Some, Option, Readings, meanings, tag_of, field, head_rows, size_of, entry_for, entry_of, is_some, tagged, order_rows}
use Rattle.record.proofs.Walk.{field_rows}

-- by its own rows
module _ (s : List ℕ) (none : NoneHolds (head_rows s)) where
  pub head-whole : size_of s ≤ length s
  unfolding head_rows
  head-whole = ltb-false (length s) (size_of s) none.1.1.1.0

  pub head-meaning : (field s).meaning < meanings
  unfolding head_rows field
  head-meaning = (tagged (tag_of s) (not-false _ none.1.0)).meant

-- by those and by the rows of its order
module _ (strict : Bool) (r : Readings) (last : ℕ) (s : List ℕ) (none : NoneHolds (field_rows strict r last s)) where
  head : NoneHolds (head_rows s)
  head = none_before (head_rows s) (order_rows strict r last (field s)) none

  pub is_whole : size_of s ≤ length s
  is_whole = head-whole s head

  -- its meaning is one of them
  pub in_range_lem : (field s).meaning < meanings
  in_range_lem = head-meaning s head

  pub is-new : is_some (entry_of r (field s).meaning) ≡ false
  unfolding head_rows
  is-new = none.1.1.1.1.0

  pub in_order : (strict && ltb (field s).tag last) ≡ false
  unfolding head_rows
  in_order = none.1.1.1.1.1.0

  -- nothing but the entry and the order depends on what came before, and on the reader
  pub with_readings : (strictly : Bool) (q : Readings) (before : ℕ) → is_some (entry_of q (field s).meaning) ≡ false → (strictly && ltb (field s).tag before) ≡ false
      → NoneHolds (field_rows strictly q before s)
  unfolding head_rows
  with_readings strictly q before new ordered = (none.0, (none.1.0, (none.1.1.0, (none.1.1.1.0, (new, (ordered, tt))))))

-- an entry at i, and one at j after it
pub record Either (l : List (Option Value)) (i j : ℕ) (x y : Value) : Type 0 where
  pub second : is_some (entry_for (get_or l j None)) ≡ false
  pub first : is_some (entry_for (get_or (set l j (Some y)) i None)) ≡ false
  pub same : set (set l i (Some x)) j (Some y) ≡ set (set l j (Some y)) i (Some x)

pub either_order : (l : List (Option Value)) (i j : ℕ) (x y : Value) → is_some (entry_for (get_or l i None)) ≡ false
    → is_some (entry_for (get_or (set l i (Some x)) j None)) ≡ false → Either l i j x y
either_order [] i j x y a b = record { second = refl; first = refl; same = refl }
either_order (e ∷ l) zero zero x y a b = let z : ◌≡◌ {A = ℕ} 0 1 = cc in absurd (omega arith)
either_order (e ∷ l) zero (suc j) x y a b = record { second = b; first = a; same = refl }
either_order (e ∷ l) (suc i) zero x y a b = record { second = b; first = a; same = refl }
either_order (e ∷ l) (suc i) (suc j) x y a b =
    let o = either_order l i j x y a b in
    record { second = o.second; first = o.first; same = ap (λ (k : List (Option Value)). e ∷ k) o.same }
