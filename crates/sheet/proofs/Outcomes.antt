-- The outcomes of rows: what a row that is accepted has, the rows before it, and that a refusal stays. Assumes nothing.
use Rattle.sheet.proofs.Kit.{◌≡◌, refl, sym, ap, ◌∙◌, Bool, true, false, cond, List, [], ◌++◌, ℕ, zero, suc, ◌+◌, ◌*◌, add-zero, arith, Float, length, length-append, Outcome, accepted, refused, ◌⟫◌, Figures, air_outcome, row_text, is_too_wide, figures_outcome, station_of_row, row_outcome, celsius_of_row, rows, bare}
use native.Mathlib.Nat.{add-suc}
use Rattle.sheet.proofs.Cells.{narrow, row-length}

-- ---- outcomes
pub bare-accepted : (o : Outcome (List ℕ)) → bare o ≡ accepted tt → (text : List ℕ) × (o ≡ accepted text)
bare-accepted (accepted text) e = (text, refl)
bare-accepted (refused n vs) e = let z : ◌≡◌ {A = ℕ} 0 1 = cc in absurd (omega arith)

pub bare-refused : (o : Outcome (List ℕ)) {n : ℕ} {vs : List Float} → bare o ≡ refused n vs → o ≡ refused n vs
bare-refused (accepted text) e = let z : ◌≡◌ {A = ℕ} 0 1 = cc in absurd (omega arith)
bare-refused (refused n vs) e = cc

next-accepted : {A B : Type 0} (o : Outcome A) (k : A → Outcome B) {y : B} → (o ⟫ k) ≡ accepted y → (x : A) × (o ≡ accepted x) × (k x ≡ accepted y)
next-accepted (accepted x) k e = (x, refl, e)
next-accepted (refused n vs) k e = let z : ◌≡◌ {A = ℕ} 0 1 = cc in absurd (omega arith)

-- ---- a row
pub by_width : (t : Float) (f : Figures) {b : Bool} → is_too_wide t f ≡ b → figures_outcome t f ≡ cond b (refused 17 []) (accepted (row_text t f))
unfolding figures_outcome
by_width t f e = rw e

figures-length : (t : Float) (f : Figures) (line : List ℕ) → figures_outcome t f ≡ accepted line → length line ≡ 30
figures-length t f line e = go (is_too_wide t f) refl
  where
    go : (b : Bool) → is_too_wide t f ≡ b → length line ≡ 30
    go true w = let z : ◌≡◌ {A = ℕ} 0 1 = cc (by_width t f w) in absurd (omega arith)
    go false w = let same : line ≡ row_text t f = cc (by_width t f w) in ap length same ∙ row-length t f (narrow t f w)

module _ (h p u : Float) where
  pub line-length : (t : Float) (line : List ℕ) → row_outcome h p u t ≡ accepted line → length line ≡ 30
  unfolding row_outcome
  line-length t line e = let f = next-accepted (air_outcome (station_of_row h p u t)) (figures_outcome t) e in figures-length t f.0 line f.2

  -- what the station's air says
  pub by-air : (t : Float) {o : Outcome Figures} → air_outcome (station_of_row h p u t) ≡ o → row_outcome h p u t ≡ (o ⟫ figures_outcome t)
  unfolding row_outcome
  by-air t e = ap (λ (o : Outcome Figures). o ⟫ figures_outcome t) e

  -- ---- rows
  -- one row more, or its refusal
  pub next_row : (n : ℕ) (text : List ℕ) {o : Outcome (List ℕ)} → rows h p u n ≡ accepted text → row_outcome h p u (celsius_of_row n) ≡ o
      → rows h p u (suc n) ≡ (o ⟫ (λ y. accepted (text ++ y)))
  unfolding rows
  next_row n text e f =
      ap (λ (o : Outcome (List ℕ)). o ⟫ (λ x. row_outcome h p u (celsius_of_row n) ⟫ (λ y. accepted (x ++ y)))) e
      ∙ ap (λ (o : Outcome (List ℕ)). o ⟫ (λ y. accepted (text ++ y))) f

  -- a refusal is the last word
  pub stays : (n j : ℕ) {k : ℕ} {vs : List Float} → rows h p u n ≡ refused k vs → rows h p u (n + j) ≡ refused k vs
  unfolding rows
  stays n zero e = rw (add-zero n) e
  stays n (suc j) e =
      rw (add-suc n j) (ap (λ (o : Outcome (List ℕ)). o ⟫ (λ x. row_outcome h p u (celsius_of_row (n + j)) ⟫ (λ y. accepted (x ++ y)))) (stays n j e))

  -- what rows that are accepted are made of
  pub record Parts (n : ℕ) (text : List ℕ) : Type 0 where
    pub before : List ℕ
    pub line : List ℕ
    pub rows_before : rows h p u n ≡ accepted before
    pub last_row : row_outcome h p u (celsius_of_row n) ≡ accepted line
    pub joined : before ++ line ≡ text

  pub parts : (n : ℕ) (text : List ℕ) → rows h p u (suc n) ≡ accepted text → Parts n text
  unfolding rows
  parts n text e =
      let a = next-accepted (rows h p u n) (λ x. row_outcome h p u (celsius_of_row n) ⟫ (λ y. accepted (x ++ y))) e in
      let b = next-accepted (row_outcome h p u (celsius_of_row n)) (λ y. accepted (a.0 ++ y)) a.2 in
      record { before = a.0; line = b.0; rows_before = a.1; last_row = b.1; joined = cc }

  pub rows-length : (n : ℕ) (text : List ℕ) → rows h p u n ≡ accepted text → length text ≡ 30 * n
  unfolding rows
  rows-length zero text e = let none : [] ≡ text = cc in ap length (sym none)
  rows-length (suc n) text e =
      let p = parts n text e in
      omega (
        arith,
        ap length p.joined,
        length-append p.before p.line,
        rows-length n p.before p.rows_before,
        line-length (celsius_of_row n)
            p.line p.last_row,
      )
