-- Each number of a sheet has exactly its cause, in the order of the checks. Assumes nothing.
use Rattle.sheet.proofs.Kit.{◌≡◌, refl, sym, ap, ◌∙◌, List, [], ◌∷◌, ◌++◌, ℕ, zero, suc, ltb, Float, Outcome, accepted, ◌⟫◌, row, ◌then◌, numbers, numbers-append, then_append, then_next, then-rows, exactly-by, air_rows, air_outcome, is_too_wide, figures_outcome, station_of_row, row_outcome, celsius_of_row, rows, sheet_input_rows, setting_sheet, line_rows, line_text, lines_rows, lines_text, repeated}
use Rattle.station.specs.Figures.{figures_of}
use Rattle.sheet.proofs.Stated.{sheet_rows}
use Rattle.refusal.specs.Causes.{ExactlyCaused}

module _ (h p u : Float) where
  pub by-line : (t : Float) → row_outcome h p u t ≡ (line_rows h p u t then accepted (line_text h p u t))
  unfolding row_outcome air_outcome figures_outcome
  by-line t =
      let a = station_of_row h p u t in
      then-rows (air_rows a) (row (is_too_wide t (figures_of a)) 17 [] ∷ []) (figures_of a) (line_text h p u t) (figures_outcome t) refl

  by_lines : (n : ℕ) → rows h p u n ≡ (lines_rows h p u n then accepted (lines_text h p u n))
  unfolding rows lines_rows lines_text
  by_lines zero = refl
  by_lines (suc n) =
      let text = lines_text h p u n in
      let t = celsius_of_row n in
      let line = line_text h p u t in
      let last : (row_outcome h p u t ⟫ (λ l. accepted (text ++ l))) ≡ (line_rows h p u t then accepted (text ++ line)) =
      ap (λ (o : Outcome (List ℕ)). o ⟫ (λ l. accepted (text ++ l))) (by-line t) ∙ then_next (line_rows h p u t) (accepted line) (λ l. accepted (text ++ l)) in
      ap (λ (o : Outcome (List ℕ)). o ⟫ (λ s. row_outcome h p u t ⟫ (λ l. accepted (s ++ l)))) (by_lines n)
      ∙ then-rows (lines_rows h p u n) (line_rows h p u t) text (text ++ line) (λ s. row_outcome h p u t ⟫ (λ l. accepted (s ++ l))) last

pub caused : (h p u : Float) (room : ℕ) → ExactlyCaused (sheet_rows h p u room) (lines_text h p u 51) (setting_sheet h p u room)
unfolding setting_sheet
caused h p u room =
    let first = row (ltb room 1530) 16 [] ∷ sheet_input_rows h p u in
    let text = lines_text h p u 51 in
    exactly-by text (sheet_rows h p u room) (ap (λ (o : Outcome (List ℕ)). first then o) (by_lines h p u 51) ∙ sym (then_append first (lines_rows h p u 51) (accepted text)))

lines-in_order : (h p u : Float) (n : ℕ) → numbers (lines_rows h p u n) ≡ repeated n (14 ∷ 15 ∷ 17 ∷ [])
unfolding lines_rows repeated
lines-in_order h p u zero = refl
lines-in_order h p u (suc n) = numbers-append (lines_rows h p u n) (line_rows h p u (celsius_of_row n)) ∙ ap (λ (ns : List ℕ). ns ++ 14 ∷ 15 ∷ 17 ∷ []) (lines-in_order h p u n)

pub order-of-checks : (h p u : Float) (room : ℕ) → numbers (sheet_rows h p u room) ≡ 16 ∷ 11 ∷ 11 ∷ 12 ∷ 11 ∷ 13 ∷ repeated 51 (14 ∷ 15 ∷ 17 ∷ [])
order-of-checks h p u room = ap (λ (ns : List ℕ). 16 ∷ 11 ∷ 11 ∷ 12 ∷ 11 ∷ 13 ∷ ns) (lines-in_order h p u 51)
