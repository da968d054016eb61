-- How many binary digits a number has: some if it is not zero, k more after a shift by k places, and what the leading zeros of a word leave.
-- Assumes nothing.
use Rattle.arithmetic.proofs.Kit.{◌≡◌, sym, ap, ◌∙◌, subst, ℕ, suc, ◌+◌, ◌-◌, ◌*◌, ◌^◌, ◌≤◌, ◌<◌, le_trans, le_of_eq, lt_of_not-le, not-le_of_lt, mul-le-mul_right, arith, count_leading_zeros, leading_top, pow-add, pow_mono, shl_lt, size, size-lt, size_reaches}
use Rattle.arithmetic.proofs.Pattern.{size_is}

pub size_pos : (n : ℕ) → 0 < n → 0 < size n
size_pos n P = lt_of_not-le (λ (none : size n ≤ 0). not-le_of_lt (size-lt n) (le_trans (pow_mono none) P))

pub size-shifted : (n k : ℕ) → 0 < n → size (n * 2 ^ k) ≡ size n + k
size-shifted n k P =
    let S : 0 < size n = size_pos n P in
    let j = size n - 1 in
    let e : size n + k ≡ suc (j + k) = omega arith in
    size_is (n * 2 ^ k) (j + k) (le_trans (le_of_eq (pow-add 2 j k)) (mul-le-mul_right (2 ^ k) (size_reaches n j (omega arith)))) (subst (λ (i : ℕ). n * 2 ^ k < 2 ^ i) e (shl_lt (size n) k (size-lt n)))
    ∙ sym e

pub size-leading : (w n : ℕ) → 0 < n → n < 2 ^ w → count_leading_zeros w n + size n ≡ w
size-leading w n P h = let t = leading_top w n P h in ap (λ (z : ℕ). count_leading_zeros w n + z) (size_is n t.0 t.2 t.3) ∙ t.1
