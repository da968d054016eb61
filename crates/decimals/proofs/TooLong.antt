-- Texts that are longer than sixteen bytes: of a number from 2 ^ 63 on, and with fifteen decimals or more. Assumes nothing.
use Rattle.arithmetic.proofs.Kit.{◌≡◌, refl, sym, ap, ◌∙◌, Bool, true, false, ◌&&◌, cond, List, [], ◌∷◌, ◌++◌, ℕ, zero, suc, ◌+◌, ◌-◌, ◌/◌, ◌^◌, ◌≤◌, ◌<◌, min, le_trans, le_of_eq, le_of_lt, min-eq_left, min-eq_right, le-div_iff_mul-le, pow-le-pow_right, arith, ltb-true, ltb-false, ltb, lit<, lit≤, length, length-append, pow-add, Float, nan, inf, fin}
use Rattle.arithmetic.specs.Nearest.{units_of}
use Rattle.decimals.specs.Decimal.{digits, pointed, nearest_count, count_text, decimal_text}
use Rattle.decimals.specs.Places.{in_sixteen}
use Rattle.decimals.proofs.Digits.{length_last, some-digit, length_digits}
use Rattle.decimals.proofs.Standing.{too_long_lem}

pointed-length : (k n : ℕ) → k ≤ length (pointed k n)
pointed-length zero n = omega arith
pointed-length (suc k) n = omega (arith, length_last (suc k) n)

-- a text has its digits and its decimals, whatever its sign
text-length : (k : ℕ) (s : Bool) (n : ℕ) → length (digits (n / 10 ^ k)) + length (pointed k n) ≤ length (count_text k s n)
unfolding count_text
text-length k s n =
    let sign : List ℕ = cond (s && ltb 0 n) (45 ∷ []) [] in
    let whole : count_text k s n ≡ sign ++ digits (n / 10 ^ k) ++ pointed k n = refl in
    omega (arith, ap length whole, length-append (sign ++ digits (n / 10 ^ k)) (pointed k n), length-append sign (digits (n / 10 ^ k)))

-- ---- great numbers
great-count : (k : ℕ) (s : Bool) (n : ℕ) → k ≤ 15 → 2 ^ 63 ≤ n → 16 < length (count_text k s n)
great-count k s n h g =
    let sum : 18 - k + k ≡ 18 = omega arith in
    let whole : 10 ^ (18 - k) ≤ n / 10 ^ k = (le-div_iff_mul-le (pow-le-pow_right (lit< tt) {i = 0} {j = k} (omega arith))).1
    (le_trans (le_of_eq (sym (pow-add 10 (18 - k) k) ∙ ap (λ (m : ℕ). 10 ^ m) sum)) (le_trans (lit≤ tt) g)) in
    omega (arith, length_digits (18 - k) (n / 10 ^ k) whole, pointed-length k n, text-length k s n)

-- so 2 ^ 63 may stand for a greater number
pub as_if : (k : ℕ) (s : Bool) (n : ℕ) → k ≤ 15 → in_sixteen (count_text k s (min n (2 ^ 63))) ≡ in_sixteen (count_text k s n)
as_if k s n h = go (ltb n (2 ^ 63)) refl
  where
    go : (b : Bool) → ltb n (2 ^ 63) ≡ b → in_sixteen (count_text k s (min n (2 ^ 63))) ≡ in_sixteen (count_text k s n)
    go true e = ap (λ (m : ℕ). in_sixteen (count_text k s m)) (min-eq_left (le_of_lt (ltb-true n (2 ^ 63) e)))
    go false e =
        let g = ltb-false n (2 ^ 63) e in
        ap (λ (m : ℕ). in_sixteen (count_text k s m)) (min-eq_right g)
        ∙ too_long_lem (count_text k s (2 ^ 63)) (great-count k s (2 ^ 63) h (lit≤ tt))
        ∙ sym (too_long_lem (count_text k s n) (great-count k s n h g))

-- ---- many decimals
many-decimals : (k : ℕ) (s : Bool) (n : ℕ) → 15 ≤ k → 16 < length (count_text k s n)
many-decimals zero s n h = absurd (omega arith)
many-decimals (suc k) s n h = omega (arith, some-digit (n / 10 ^ suc k), length_last (suc k) n, text-length (suc k) s n)

pub as_if_fifteen : (k : ℕ) (x : Float) → 15 ≤ k → in_sixteen (decimal_text 15 x) ≡ in_sixteen (decimal_text k x)
unfolding decimal_text
as_if_fifteen k nan h = refl
as_if_fifteen k (inf s) h = refl
as_if_fifteen k (fin s m e) h =
    let n : ℕ → ℕ = λ j. nearest_count (units_of (fin s m e)) (10 ^ j) in
    too_long_lem (count_text 15 s (n 15)) (many-decimals 15 s (n 15) (lit≤ tt)) ∙ sym (too_long_lem (count_text k s (n k)) (many-decimals k s (n k) h))
