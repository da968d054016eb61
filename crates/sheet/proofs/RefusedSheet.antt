-- What a refused sheet hands out: each check's number and values, and those of the rows. Assumes nothing.
use Rattle.sheet.proofs.Kit.{◌≡◌, refl, Bool, true, false, cond, inl, inr, List, [], ◌∷◌, ◌++◌, ℕ, zero, suc, ◌≤◌, arith, ltb, lit≤, Float, Outcome, accepted, refused, ◌⟫◌, Row, row, ◌then◌, air_rows, air_outcome, row_text, is_too_wide, figures_outcome, station_of_row, row_outcome, celsius_of_row, rows, sheet_input_rows, setting_sheet, HandedOut}

-- ---- outcomes whose refusals hand out what they should
abbrev Good : (A : Type 0) → Outcome A → Type 0
Good A o = (number : ℕ) (values : List Float) → o ≡ refused number values → HandedOut number values

good-accepted : {A : Type 0} (x : A) → Good A (accepted x)
good-accepted x number values e = let z : ◌≡◌ {A = ℕ} 0 1 = cc in absurd (omega arith)

good-refused : (A : Type 0) {n : ℕ} {vs : List Float} → HandedOut n vs → Good A (refused n vs)
good-refused A {n} {vs} h number values e = let same : n ≡ number = cc in let those : vs ≡ values = cc in rw (← same, ← those) h

good-next : {A B : Type 0} (o : Outcome A) (k : A → Outcome B) → Good A o → ((x : A) → Good B (k x)) → Good B (o ⟫ k)
good-next (accepted x) k h g = g x
good-next {B = B} (refused n vs) k h g = good-refused B (h n vs refl)

-- ---- rows, whose numbers and values are looked at one by one
abbrev Each : List Row → Type 0
Each [] = Unit {0}
Each (r ∷ rest) = HandedOut r.number r.values × Each rest

good-rows : {A : Type 0} (checks : List Row) {o : Outcome A} → Each checks → Good A o → Good A (checks then o)
good-rows [] each h = h
good-rows {A} (r ∷ checks) {o} each h = go r.holds (good-rows checks each.1 h)
  where
    go : (b : Bool) → Good A (checks then o) → Good A (cond b (refused r.number r.values) (checks then o))
    go true rest = good-refused A each.0
    go false rest = rest

number-alone : {n : ℕ} → 14 ≤ n → n ≤ 17 → HandedOut n []
number-alone h g = inr (h, g, refl)

input : (x : Float) (n : ℕ) → 11 ≤ n → n ≤ 13 → HandedOut n (x ∷ [])
input x n h g = inl (h, g, refl)

module _ (h p u : Float) where
  good-row : (t : Float) → Good (List ℕ) (row_outcome h p u t)
  unfolding row_outcome air_outcome figures_outcome
  good-row t =
      good-next (air_outcome (station_of_row h p u t)) (figures_outcome t)
      (good-rows (air_rows (station_of_row h p u t)) (number-alone (lit≤ tt) (lit≤ tt), (number-alone (lit≤ tt) (lit≤ tt), tt)) (good-accepted _))
      (λ f. good-rows (row (is_too_wide t f) 17 [] ∷ []) (number-alone (lit≤ tt) (lit≤ tt), tt) (good-accepted (row_text t f)))

  good_sheet : (n : ℕ) → Good (List ℕ) (rows h p u n)
  unfolding rows
  good_sheet zero = good-accepted []
  good_sheet (suc n) =
      good-next (rows h p u n) (λ text. row_outcome h p u (celsius_of_row n) ⟫ (λ line. accepted (text ++ line))) (good_sheet n)
      (λ text. good-next (row_outcome h p u (celsius_of_row n)) (λ line. accepted (text ++ line)) (good-row (celsius_of_row n)) (λ line. good-accepted (text ++ line)))

pub refused_sheet_lem : (h p u : Float) (room number : ℕ) (values : List Float) → setting_sheet h p u room ≡ refused number values → HandedOut number values
unfolding setting_sheet
refused_sheet_lem h p u room =
    good-rows (row (ltb room 1530) 16 [] ∷ sheet_input_rows h p u) (
      number-alone (lit≤ tt) (lit≤ tt),
      (
        input h 11 (lit≤ tt) (lit≤ tt),
        (input p 11 (lit≤ tt) (lit≤ tt), (input p 12 (lit≤ tt) (lit≤ tt), (input u 11 (lit≤ tt) (lit≤ tt), (input u 13 (lit≤ tt) (lit≤ tt), tt)))),
      ),
    )
    (good_sheet h p u 51)
