-- The numbers of a record's fields: the same six for each, and none from 20 on. Assumes nothing.
use Rattle.record.proofs.Kit.{◌≡◌, refl, ap, Bool, List, [], ◌∷◌, ◌++◌, map, flat_map, ℕ, ◌≤◌, arith, numbers, Never, never_both, Readings, tag_of, field, head_rows, heads, noted, order_rows, rows_of, read_rows, no_readings}
use Rattle.fields.specs.Tags.{tags}

in_order : (strict : Bool) (r : Readings) (last : ℕ) (fs : List (List ℕ))
    → numbers (rows_of strict r last fs) ≡ flat_map (λ _. 5 ∷ 6 ∷ 7 ∷ 5 ∷ 8 ∷ 19 ∷ []) (map tag_of fs)
unfolding head_rows flat_map
in_order strict r last [] = refl
in_order strict r last (s ∷ fs) = ap (λ (ns : List ℕ). 5 ∷ 6 ∷ 7 ∷ 5 ∷ 8 ∷ 19 ∷ ns) (in_order strict (noted r (field s)) (tag_of s) fs)

pub fields_in-order : (strict : Bool) (s : List ℕ) → numbers (read_rows strict s) ≡ flat_map (λ _. 5 ∷ 6 ∷ 7 ∷ 5 ∷ 8 ∷ 19 ∷ []) (tags s)
fields_in-order strict s = in_order strict no_readings 0 (heads s)

module _ (k : ℕ) (h : 20 ≤ k) (strict : Bool) where
  never : (r : Readings) (last : ℕ) (fs : List (List ℕ)) → Never k (rows_of strict r last fs)
  unfolding head_rows
  never r last [] = tt
  never r last (s ∷ fs) =
      never_both k (head_rows s ++ order_rows strict r last (field s)) (rows_of strict (noted r (field s)) (tag_of s) fs)
      ((λ e. absurd (omega arith)), ((λ e. absurd (omega arith)), ((λ e. absurd (omega arith)), ((λ e. absurd (omega arith)), ((λ e. absurd (omega arith)), ((λ e. absurd (omega arith)), tt))))))
      (never (noted r (field s)) (tag_of s) fs)

  pub fields-never : (s : List ℕ) → Never k (read_rows strict s)
  fields-never s = never no_readings 0 (heads s)
