-- A refused setting sheet hands out one value at most. Assumes nothing.
use Rattle.arithmetic.proofs.Kit.{◌≡◌, refl, subst, Bool, true, false, cond, List, [], ◌∷◌, ℕ, zero, suc, ◌≤◌, arith, ltb, Float, length, take}
use Rattle.refusal.specs.Outcomes.{Outcome, accepted, refused, Row, row, ◌then◌, ◌⟫◌}
use Rattle.mast.specs.Judge.{air_rows, air_outcome}
use Rattle.station.specs.Figures.{figures_of}
use Rattle.sheet.specs.Row.{row_text, is_too_wide, figures_outcome, station_of_row, row_outcome}
use Rattle.sheet.specs.Sheet.{celsius_of_row, rows, sheet_input_rows, setting_sheet}

abbrev AtMostOne : {A : Type 0} → Outcome A → Type 0
AtMostOne (accepted x) = Unit {0}
AtMostOne (refused number values) = length values ≤ 1

abbrev Each : List Row → Type 0
Each [] = Unit {0}
Each (r ∷ rs) = (length r.values ≤ 1) × Each rs

first_of : {A : Type 0} (rs : List Row) (o : Outcome A) → Each rs → AtMostOne o → AtMostOne (rs then o)
first_of [] o each last = last
first_of (r ∷ rs) o (here, each) last = go r.holds (first_of rs o each last)
  where
    go : (b : Bool) → AtMostOne (rs then o) → AtMostOne (cond b (refused r.number r.values) (rs then o))
    go true rest = here
    go false rest = rest

after : {A B : Type 0} (o : Outcome A) (next : A → Outcome B) → AtMostOne o → ((x : A) → AtMostOne (next x)) → AtMostOne (o ⟫ next)
after (accepted x) next first then_next = then_next x
after (refused number values) next first then_next = first

module _ (h p u : Float) where
  of_row : (t : Float) → AtMostOne (row_outcome h p u t)
  unfolding row_outcome air_outcome figures_outcome
  of_row t =
      let a = station_of_row h p u t in
      after (air_outcome a) (figures_outcome t) (first_of (air_rows a) (accepted (figures_of a)) (omega arith, (omega arith, tt)) tt)
      (λ f. first_of (row (is_too_wide t f) 17 [] ∷ []) (accepted (row_text t f)) (omega arith, tt) tt)

  of-rows : (n : ℕ) → AtMostOne (rows h p u n)
  unfolding rows
  of-rows zero = tt
  of-rows (suc n) = after (rows h p u n) _ (of-rows n) (λ text. after (row_outcome h p u (celsius_of_row n)) _ (of_row (celsius_of_row n)) (λ line. tt))

  of_sheet : (room : ℕ) → AtMostOne (setting_sheet h p u room)
  unfolding setting_sheet
  of_sheet room = first_of (row (ltb room 1530) 16 [] ∷ sheet_input_rows h p u) (rows h p u 51)
      (omega arith, (omega arith, (omega arith, (omega arith, (omega arith, (omega arith, tt)))))) (of-rows 51)

  -- so the first of them is all of them
  pub first-is-all : {number : ℕ} {values : List Float} (room : ℕ) → setting_sheet h p u room ≡ refused number values → take 1 values ≡ values
  first-is-all room e = one_at_most _ (subst AtMostOne e (of_sheet room))
    where
      one_at_most : (vs : List Float) → length vs ≤ 1 → take 1 vs ≡ vs
      one_at_most [] few = refl
      one_at_most (v ∷ []) few = refl
      one_at_most (v ∷ w ∷ vs) few = absurd (omega arith)
