-- The place of a byte is that of the library's search. Assumes nothing.
use Rattle.arithmetic.proofs.Kit.{◌≡◌, refl, sym, ap, ◌∙◌, List, [], ◌∷◌, ℕ, suc, ◌+◌, ◌-◌, ◌≤◌, Bool, true, false, cond, arith, length, take, drop, eqb, ltb, ltb-false}
use Rattle.std.specs.Prelude.{Option, Some, None}
use Rattle.std.specs.List.{position_or_len}
use Rattle.std.proofs.lemmas.List.{drop-take}
use Rattle.std.proofs.lemmas.List.Recursion.{is_position_or_len}
use Rattle.pages.specs.Scan.{slice, index_of, index_after}

index_is : (d : ℕ) (s : List ℕ) → index_of d s ≡ position_or_len (λ b. eqb b d) s
unfolding index_of index_after
index_is d s = is_position_or_len (index_of d) (λ b. eqb b d) refl (λ x xs. go (eqb x d) (index_of d xs)) s
  where
    go : (b : Bool) (n : ℕ) → index_after b n ≡ cond b 0 (1 + n)
    go true n = refl
    go false n = omega arith

index_within : (d : ℕ) (s : List ℕ) → index_of d s ≤ length s
unfolding index_of index_after
index_within d [] = omega arith
index_within d (b ∷ s) = go (eqb b d) (index_within d s)
  where
    go : (t : Bool) → index_of d s ≤ length s → index_after t (index_of d s) ≤ suc (length s)
    go true h = omega arith
    go false h = omega arith

module _ (d : ℕ) (s : List ℕ) {r : Option ℕ} (sought : r ≡ cond (ltb (position_or_len (λ b. eqb b d) s) (length s)) (Some (position_or_len (λ b. eqb b d) s)) None) where
  pub at_some : {i : ℕ} → r ≡ Some i → i ≡ index_of d s
  at_some {i} e = go (ltb (position_or_len (λ b. eqb b d) s) (length s)) (sym sought ∙ e) ∙ sym (index_is d s)
    where
      go : (b : Bool) → cond b (Some (position_or_len (λ b. eqb b d) s)) None ≡ Some i → i ≡ position_or_len (λ b. eqb b d) s
      go true h = cc
      go false h = absurd cc

  pub at_none : r ≡ None → index_of d s ≡ length s
  at_none e = go (ltb (position_or_len (λ b. eqb b d) s) (length s)) refl (sym sought ∙ e)
    where
      go : (b : Bool) → ltb (position_or_len (λ b. eqb b d) s) (length s) ≡ b → cond b (Some (position_or_len (λ b. eqb b d) s)) None ≡ None → index_of d s ≡ length s
      go true k h = absurd cc
      go false k h = omega (arith, ltb-false _ _ k, index_is d s, index_within d s)

-- what is lent of s from one position up to another
pub slice_is : (from to : ℕ) (s : List ℕ) → from ≤ to → take (to - from) (drop from s) ≡ slice from to s
slice_is from to s h =
    let whole : from + (to - from) ≡ to = omega arith in sym (drop-take from (to - from) s) ∙ ap (λ (n : ℕ). drop from (take n s)) whole
