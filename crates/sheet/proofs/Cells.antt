-- A figure in its column: what the code copies of a text in sixteen places, and how many bytes a row has. Assumes nothing.
use Rattle.sheet.proofs.Kit.{◌≡◌, refl, sym, ap, ◌∙◌, Bool, true, false, ◌||◌, List, [], ◌∷◌, ◌++◌, append_assoc, ℕ, ◌+◌, ◌-◌, ◌≤◌, arith, ltb-true, ltb-false, lt-ltb, ltb, lit≤, Float, length, drop, replicate, length-append, length-replicate, drop_at, Figures, cell, is_wider, row_text, is_too_wide}
use lib.ListN.{replicate-append-replicate}
use Rattle.decimals.specs.declared.shown.DecimalText.{DecimalText}
use Rattle.decimals.specs.Decimal.{decimal_text}
use Rattle.decimals.specs.Places.{in_sixteen}
use Rattle.decimals.proofs.Standing.{too_long_lem, fits}
use Rattle.mast.proofs.Entries.{neither}

-- the code's length tells whether a text is wider than a column of w places
pub width_known : (w : ℕ) (t : List ℕ) → w ≤ 16 → ltb w (in_sixteen t).len ≡ ltb w (length t)
width_known w t h = go (ltb 16 (length t)) refl
  where
    go : (b : Bool) → ltb 16 (length t) ≡ b → ltb w (in_sixteen t).len ≡ ltb w (length t)
    go true e =
        let long = ltb-true 16 (length t) e in
        ap (λ (x : DecimalText). ltb w x.len) (too_long_lem t long) ∙ lt-ltb w 17 (omega arith) ∙ sym (lt-ltb w (length t) (omega arith))
    go false e = ap (λ (x : DecimalText). ltb w x.len) (fits t (ltb-false 16 (length t) e))

-- the last w places hold the text at their right
pub last-places : (w : ℕ) (t : List ℕ) → w ≤ 16 → length t ≤ w → drop (16 - w) (in_sixteen t).bytes ≡ replicate (w - length t) 32 ++ t
last-places w t h g =
    let sum : 16 - length t ≡ 16 - w + (w - length t) = omega arith in
    let blanks : replicate (16 - length t) 32 ++ t ≡ replicate (16 - w) 32 ++ (replicate (w - length t) 32 ++ t) =
    ap (λ (n : ℕ). replicate n 32 ++ t) sum
    ∙ ap (λ (l : List ℕ). l ++ t) (sym (replicate-append-replicate (16 - w) (w - length t) 32))
    ∙ append_assoc (replicate (16 - w) 32) (replicate (w - length t) 32) t in
    ap (λ (x : DecimalText). drop (16 - w) x.bytes) (fits t (omega arith))
    ∙ ap (drop (16 - w)) blanks
    ∙ drop_at (replicate (16 - w) 32) (replicate (w - length t) 32 ++ t) (16 - w) (length-replicate (16 - w) 32)

pub cell-length : (w k end : ℕ) (x : Float) → is_wider w k x ≡ false → length (cell w k end x) ≡ w + 1
cell-length w k end x e =
    let t = decimal_text k x in
    let short = ltb-false w (length t) e in
    let blanks : List ℕ = replicate (w - length t) 32 in
    omega (arith, length-append (blanks ++ t) (end ∷ []), length-append blanks t, length-replicate {A = ℕ} (w - length t) 32)

cell-is : (w k end : ℕ) (x : Float) {text : DecimalText} → w ≤ 16 → text ≡ in_sixteen (decimal_text k x) → is_wider w k x ≡ false
    → drop (16 - w) text.bytes ++ end ∷ [] ≡ cell w k end x
cell-is w k end x h is e =
    ap (λ (r : DecimalText). drop (16 - w) r.bytes ++ end ∷ []) is
    ∙ ap (λ (l : List ℕ). l ++ end ∷ []) (last-places w (decimal_text k x) h (ltb-false w (length (decimal_text k x)) e))

-- ---- the four figures
pub record Narrow (t : Float) (f : Figures) : Type 0 where
  pub temperature : is_wider 6 1 t ≡ false
  pub density : is_wider 7 4 f.density_kg_m3 ≡ false
  pub sound : is_wider 6 1 f.speed_of_sound_mps ≡ false
  pub altitude : is_wider 7 0 f.density_matched_altitude_m ≡ false

pub narrow : (t : Float) (f : Figures) → is_too_wide t f ≡ false → Narrow t f
narrow t f e =
    let three = neither _ _ e in
    let two = neither _ _ three.0 in
    let one = neither _ _ two.0 in
    record { temperature = one.0; density = one.1; sound = two.1; altitude = three.1 }

test-is : (w k : ℕ) (x : Float) {text : DecimalText} → w ≤ 16 → text ≡ in_sixteen (decimal_text k x) → ltb w text.len ≡ is_wider w k x
test-is w k x h is = ap (λ (r : DecimalText). ltb w r.len) is ∙ width_known w (decimal_text k x) h

-- the code's tests are those of the columns, and its four cells are the row
module _ (t : Float) (f : Figures) {a b c d : DecimalText} (first : a ≡ in_sixteen (decimal_text 1 t))
    (second : b ≡ in_sixteen (decimal_text 4 f.density_kg_m3))
    (third : c ≡ in_sixteen (decimal_text 1 f.speed_of_sound_mps)) (fourth : d ≡ in_sixteen (decimal_text 0 f.density_matched_altitude_m)) where
  pub tests_are : (ltb 6 a.len || ltb 7 b.len || ltb 6 c.len || ltb 7 d.len) ≡ is_too_wide t f
  tests_are =
      let one = test-is 6 1 t (lit≤ tt) first in
      let two = test-is 7 4 f.density_kg_m3 (lit≤ tt) second in
      let three = test-is 6 1 f.speed_of_sound_mps (lit≤ tt) third in
      let four = test-is 7 0 f.density_matched_altitude_m (lit≤ tt) fourth in
      λ i. one i || two i || three i || four i

  pub cells_are : Narrow t f → (drop 10 a.bytes ++ 32 ∷ []) ++ (drop 9 b.bytes ++ 32 ∷ []) ++ (drop 10 c.bytes ++ 32 ∷ []) ++ (drop 9 d.bytes ++ 10 ∷ []) ≡ row_text t f
  unfolding row_text
  cells_are n =
      let one = cell-is 6 1 32 t (lit≤ tt) first n.temperature in
      let two = cell-is 7 4 32 f.density_kg_m3 (lit≤ tt) second n.density in
      let three = cell-is 6 1 32 f.speed_of_sound_mps (lit≤ tt) third n.sound in
      let four = cell-is 7 0 10 f.density_matched_altitude_m (lit≤ tt) fourth n.altitude in
      λ i. one i ++ two i ++ three i ++ four i

pub row-length : (t : Float) (f : Figures) → Narrow t f → length (row_text t f) ≡ 30
unfolding row_text
row-length t f n =
    let a = cell 6 1 32 t in
    let b = cell 7 4 32 f.density_kg_m3 in
    let c = cell 6 1 32 f.speed_of_sound_mps in
    let d = cell 7 0 10 f.density_matched_altitude_m in
    omega (
      arith,
      length-append (a ++ b ++ c) d,
      length-append (a ++ b) c,
      length-append a b,
      cell-length 6 1 32 t n.temperature,
      cell-length 7 4 32 f.density_kg_m3 n.density,
      cell-length 6 1 32 f.speed_of_sound_mps n.sound,
      cell-length 7 0 10 f.density_matched_altitude_m n.altitude,
    )
