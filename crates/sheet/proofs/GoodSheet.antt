-- The first rows of a good sheet are the rows of the first temperatures, which rise. Assumes nothing.
use Rattle.sheet.proofs.Kit.{◌≡◌, sym, ap, ◌∙◌, Bool, List, [], ◌∷◌, ◌++◌, ℕ, zero, suc, ◌+◌, ◌-◌, ◌*◌, ◌≤◌, add-zero, arith, T, ltb, Float, lt, of_int, length, take, drop, length-take-le, take_all, take_at, drop_at, take-take, take-add, accepted, row, then-accepted, row_outcome, celsius_of_row, rows, sheet_input_rows, setting_sheet}
use native.Mathlib.Nat.{add-suc}
use Rattle.arithmetic.proofs.Every.{every, at}
use Rattle.sheet.proofs.Stated.{FirstRows, GoodSheet}
use Rattle.sheet.proofs.Outcomes.{parts, rows-length}

-- ---- rows
module _ (h p u : Float) where
  -- the first n of n + j rows
  first : (n j : ℕ) (text : List ℕ) → rows h p u (n + j) ≡ accepted text → rows h p u n ≡ accepted (take (30 * n) text)
  first n zero text e =
      let same : rows h p u n ≡ accepted text = rw (← add-zero n) e in
      same ∙ ap accepted (sym (take_all (30 * n) text (omega (arith, rows-length h p u n text same))))
  first n (suc j) text e =
      let q = parts h p u (n + j) text (rw (← add-suc n j) e) in
      let cut : take (30 * (n + j)) text ≡ q.before =
      ap (take (30 * (n + j))) (sym q.joined) ∙ take_at q.before q.line (30 * (n + j)) (rows-length h p u (n + j) q.before q.rows_before) in
      first n j q.before q.rows_before ∙ ap accepted (ap (take (30 * n)) (sym cut) ∙ take-take (30 * n) (30 * (n + j)) text (omega arith))

  each : (n : ℕ) (text : List ℕ) → rows h p u (suc n) ≡ accepted (take (30 * suc n) text) → 30 * n ≤ length text
      → row_outcome h p u (celsius_of_row n) ≡ accepted (take 30 (drop (30 * n) text))
  each n text e long =
      let q = parts h p u n (take (30 * suc n) text) e in
      let sum : 30 * suc n ≡ 30 * n + 30 = omega arith in
      let halves : q.before ++ q.line ≡ take (30 * n) text ++ take 30 (drop (30 * n) text) =
      q.joined ∙ ap (λ (m : ℕ). take m text) sum ∙ take-add (30 * n) 30 text in
      let line : q.line ≡ take 30 (drop (30 * n) text) =
      sym (drop_at q.before q.line (30 * n) (rows-length h p u n q.before q.rows_before))
      ∙ ap (drop (30 * n)) halves
      ∙ drop_at (take (30 * n) text) (take 30 (drop (30 * n) text)) (30 * n) (length-take-le (30 * n) text long) in
      q.last_row ∙ ap accepted line

  good : (text : List ℕ) → rows h p u 51 ≡ accepted text → FirstRows h p u text
  good text e =
      let whole : length text ≡ 1530 = rows-length h p u 51 text e in
      let to : (n : ℕ) → n ≤ 51 → rows h p u n ≡ accepted (take (30 * n) text) =
      λ n le. let sum : 51 ≡ n + (51 - n) = omega arith in first n (51 - n) text (rw (← sum) e) in
      record { whole = whole; first = to; each = λ n lt. each n text (to (suc n) lt) (omega arith) }

-- ---- temperatures: each pair of them is compared
abbrev below : ℕ → Bool
below n = every n (λ m. lt (celsius_of_row m) (celsius_of_row n))

all_rise : T (every 51 below)
unfolding lt celsius_of_row of_int
all_rise = tt

pub good_sheet : GoodSheet
unfolding setting_sheet
good_sheet = record {
  rows_of = λ h p u room text e. good h p u text (then-accepted (row (ltb room 1530) 16 [] ∷ sheet_input_rows h p u) e).1;
  rising = λ m n less most. at n (λ k. lt (celsius_of_row k) (celsius_of_row n)) (at 51 below all_rise n most) m less;
}
