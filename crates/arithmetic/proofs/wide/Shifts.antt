-- A number of two words, shifted by so many places that nothing is left. Assumes nothing.
use Rattle.arithmetic.proofs.Kit.{◌≡◌, sym, ap, ◌∙◌, ℕ, ◌+◌, ◌-◌, ◌*◌, ◌/◌, ◌%◌, ◌^◌, ◌≤◌, ◌<◌, mul_assoc, div-eq_of_lt, lt_of_lt_of_le, digits_lt, pow-add, pow_mono}
use Rattle.std.proofs.Common.{sub-add_cancel}
use native.Mathlib.Nat.{mul-mod_left}

pub pow-sub : (j k : ℕ) → k ≤ j → 2 ^ (j - k) * 2 ^ k ≡ 2 ^ j
pow-sub j k h = sym (pow-add 2 (j - k) k) ∙ ap (λ (n : ℕ). 2 ^ n) (sub-add_cancel h)

shl_split : (v j k : ℕ) → k ≤ j → v * 2 ^ j ≡ v * 2 ^ (j - k) * 2 ^ k
shl_split v j k h = rw (← pow-sub j k h) (sym (mul_assoc v (2 ^ (j - k)) (2 ^ k)))

pub gone_left : (v k : ℕ) → 128 ≤ k → 0 ≡ v * 2 ^ k % 2 ^ 128
gone_left v k h = rw (shl_split v k 128 h) (sym (mul-mod_left (v * 2 ^ (k - 128)) (2 ^ 128)))

pub gone_right : (hi lo k : ℕ) → hi < 2 ^ 64 → lo < 2 ^ 64 → 128 ≤ k → 0 ≡ (hi * 2 ^ 64 + lo) / 2 ^ k
gone_right hi lo k g l h = sym (div-eq_of_lt (lt_of_lt_of_le (digits_lt g l) (pow_mono h)))
