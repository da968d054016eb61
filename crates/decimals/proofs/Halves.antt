-- The whole number that a text shows, by the words of the code: twice it and its half. Assumes nothing.
use Rattle.arithmetic.proofs.Kit.{◌≡◌, sym, ap, ap₂, ◌∙◌, ⊎_elim, ℕ, ◌+◌, ◌-◌, ◌*◌, ◌/◌, ◌%◌, ◌^◌, ◌≤◌, ◌<◌, min, le_refl, le_trans, mul_right_comm, mul-le-mul, div-div-eq-div-mul, mul-div-mul_right, le-div_iff_mul-le, min-eq_left, min-eq_right, arith, lit≤, pow_pos, pow-add, pow_mono}
use native.Mathlib.Nat.{add-div_right}
use Rattle.arithmetic.specs.Parts.{Digits}
use Rattle.decimals.specs.Decimal.{nearest_count}

-- the floor of twice the number, of n units times s
unfoldable pub halves : ℕ → ℕ → ℕ
halves n s = 2 * (n * s) / 2 ^ 1074

from_halves : (n s : ℕ) → nearest_count n s ≡ (halves n s + 1) / 2
unfolding nearest_count halves
from_halves n s =
    ap (λ (d : ℕ). (2 * (n * s) + 2 ^ 1074) / d) (pow-add 2 1074 1)
    ∙ sym (div-div-eq-div-mul (2 * (n * s) + 2 ^ 1074) (2 ^ 1074) 2)
    ∙ ap (λ (m : ℕ). m / 2) (add-div_right (2 * (n * s)) (pow_pos 1074))

-- the word's digits moved up by 11 places, and down again
pub moved-halves : (q k s : ℕ) → k ≤ 1084 → q * 2 ^ 11 * s / 2 ^ (1084 - k) ≡ halves (q * 2 ^ k) s
unfolding halves
moved-halves q k s h =
    let sum : 1084 - k + k ≡ 1074 + 10 = omega arith in
    let over : 2 ^ (1084 - k) * 2 ^ k ≡ 2 ^ 1074 * 2 ^ 10 = sym (pow-add 2 (1084 - k) k) ∙ ap (λ (n : ℕ). 2 ^ n) sum ∙ pow-add 2 1074 10 in
    let under : q * 2 ^ 11 * s * 2 ^ k ≡ 2 * (q * 2 ^ k * s) * 2 ^ 10 = regroup q (2 ^ k) s in
    sym (mul-div-mul_right (q * 2 ^ 11 * s) (2 ^ (1084 - k)) (pow_pos k))
    ∙ ap₂ (λ (a b : ℕ). a / b) under over
    ∙ mul-div-mul_right (2 * (q * 2 ^ k * s)) (2 ^ 1074) (pow_pos 10)
  where
    regroup : (a p b : ℕ) → a * 2 ^ 11 * b * p ≡ 2 * (a * p * b) * 2 ^ 10
    regroup a p b =
        let left : a * 2 ^ 11 * b * p ≡ a * p * b * 2 ^ 11 =
        mul_right_comm (a * 2 ^ 11) b p ∙ ap (λ (n : ℕ). n * b) (mul_right_comm a (2 ^ 11) p) ∙ mul_right_comm (a * p) (2 ^ 11) b in
        left ∙ omega arith

-- the answers for a word's number of halves, and where there are more
pub small : (n s h : ℕ) → h ≡ halves n s → h < 2 ^ 64 → h / 2 + h % 2 ≡ min (nearest_count n s) (2 ^ 63)
small n s h e short =
    let count : nearest_count n s ≡ h / 2 + h % 2 = from_halves n s ∙ ap (λ (m : ℕ). (m + 1) / 2) (sym e) ∙ omega arith in
    rw count (sym (min-eq_left (omega arith)))

pub great : (n s : ℕ) → 2 ^ 64 ≤ halves n s → 2 ^ 63 ≡ min (nearest_count n s) (2 ^ 63)
great n s h = let count : 2 ^ 63 ≤ nearest_count n s = rw (from_halves n s) (omega arith) in sym (min-eq_right count)

pub great-exponent : (q k s : ℕ) → Digits q k → 0 < s → 1084 < k → 2 ^ 64 ≤ halves (q * 2 ^ k) s
unfolding halves
great-exponent q k s d some h =
    let full : 2 ^ 52 ≤ q = ⊎_elim (λ (e : k ≡ 0). absurd (omega arith)) (λ f. f) d.full in
    let units : 2 ^ 52 * 2 ^ 1085 * 1 ≤ q * 2 ^ k * s = mul-le-mul (mul-le-mul full (pow_mono h)) some in
    (le-div_iff_mul-le (pow_pos 1074)).1 (le_trans (lit≤ tt) (mul-le-mul (le_refl 2) units))
