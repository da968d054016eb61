-- The place of a number's highest binary digit, after a shift, and what it tells of the number. Assumes nothing.
use Rattle.arithmetic.proofs.Kit.{◌≡◌, sym, ap, ◌∙◌, ℕ, suc, ◌+◌, ◌*◌, ◌^◌, ◌≤◌, ◌<◌, le_trans, le_of_eq, lt_of_lt_of_le, mul-le-mul_right, mul-lt-mul_of_pos_right, pow-add, pow_mono, pow_pos}
use Rattle.std.proofs.Common.{suc-add}

-- the highest digit of n is at the place p
abbrev pub Top : (n p : ℕ) → Type 0
Top n p = (2 ^ p ≤ n) × (n < 2 ^ suc p)

next_place : (p k : ℕ) → 2 ^ suc p * 2 ^ k ≡ 2 ^ suc (p + k)
next_place p k = sym (pow-add 2 (suc p) k) ∙ ap (λ (x : ℕ). 2 ^ x) (suc-add p k)

pub shifted-top : (n p k : ℕ) → Top n p → Top (n * 2 ^ k) (p + k)
shifted-top n p k h = (le_trans (le_of_eq (pow-add 2 p k)) (mul-le-mul_right (2 ^ k) h.0), lt_of_lt_of_le (mul-lt-mul_of_pos_right h.1 (pow_pos k)) (le_of_eq (next_place p k)))

-- a place from a up to b
pub between : (n p a b : ℕ) → Top n p → a ≤ p → p < b → (2 ^ a ≤ n) × (n < 2 ^ b)
between n p a b h l g = (le_trans (pow_mono l) h.0, lt_of_lt_of_le h.1 (pow_mono g))
