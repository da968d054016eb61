-- The line at the head of some input, by the place of the first newline. Assumes nothing.
use Rattle.arithmetic.proofs.Kit.{◌≡◌, refl, sym, ap, ap₂, ◌∙◌, Bool, true, false, cond, List, ℕ, ◌+◌, ◌<◌, arith, lt-ltb, le-ltb, ltb-true, ltb, eqb, length}
use Rattle.std.specs.Prelude.{Option, Some, None}
use Rattle.std.specs.List.{position_or_len}
use Rattle.pages.specs.Scan.{index_of}
use Rattle.questions.specs.declared.line_ends.Line.{Line}
use Rattle.questions.specs.Lines.{before_return, line_end, found_line}

-- where a search finds something
pub some_within : (s : List ℕ) {r : Option ℕ} {i : ℕ} → r ≡ cond (ltb (position_or_len (λ b. eqb b 10) s) (length s)) (Some (position_or_len (λ b. eqb b 10) s)) None → r ≡ Some i → i < length s
some_within s {r} {i} sought e = go (ltb place (length s)) refl (sym sought ∙ e)
  where
    place : ℕ
    place = position_or_len (λ b. eqb b 10) s

    go : (b : Bool) → ltb place (length s) ≡ b → cond b (Some place) None ≡ Some i → i < length s
    go true k h = let same : place ≡ i = cc in omega (arith, ltb-true _ _ k, same)
    go false k h = absurd cc

abbrev line_of : ℕ → ℕ → Option Line
line_of end next = Some (record { end = end; next = next })

module _ (s : List ℕ) (ended : Bool) where
  pub newline_ends : {i end : ℕ} → i ≡ index_of 10 s → i < length s → end ≡ before_return s i → line_of end (i + 1) ≡ found_line ended s
  unfolding found_line line_end
  newline_ends {i} at h e = rw (lt-ltb (index_of 10 s) (length s) (omega (arith, at))) (ap₂ line_of (e ∙ ap (before_return s) at) (omega (arith, at)))

  module _ (all : index_of 10 s ≡ length s) where
    pub input_ends : {end : ℕ} → ended ≡ true → 0 < length s → end ≡ before_return s (length s) → line_of end (length s) ≡ found_line ended s
    unfolding found_line line_end
    input_ends last some e =
        rw (le-ltb (index_of 10 s) (length s) (omega (arith, all)), last, lt-ltb 0 (length s) some) (ap₂ line_of (e ∙ ap (before_return s) (sym all)) (omega (arith, all)))

    pub nothing_left : length s ≡ 0 → None ≡ found_line ended s
    unfolding found_line
    nothing_left none = go ended
      where
        go : (e : Bool) → None ≡ found_line e s
        go true = rw (le-ltb (index_of 10 s) (length s) (omega (arith, all)), le-ltb 0 (length s) (omega arith))
        go false = rw (le-ltb (index_of 10 s) (length s) (omega (arith, all)))

    pub not_yet : ended ≡ false → None ≡ found_line ended s
    unfolding found_line
    not_yet e = rw (le-ltb (index_of 10 s) (length s) (omega (arith, all)), e)
