-- The antilog of a whole number that is the difference of two natural numbers: one fraction, rounded once. Assumes nothing.
use Rattle.arithmetic.proofs.Kit.{◌≡◌, sym, ap, ◌∙◌, false, ℕ, ◌+◌, ◌-◌, ◌*◌, ◌/◌, ◌%◌, ◌^◌, arith, ℤ, pos, negsuc, ◌-ℤ◌, pow_pos, binary64, up, down, round, minus, down_pos, round_same}
use lib.Ieee.Digits.{minus_val}
use Rattle.arithmetic.specs.Whole.{floor_div}
use Rattle.antilog.specs.Antilog.{antilog_root, antilog}
use Rattle.arithmetic.proofs.Differences.{by_sign, minus_is, minus-same, minus-below, floor_minus, remainder-minus}

less_62 : (a b : ℕ) → minus a b -ℤ pos 62 ≡ minus a (b + 62)
less_62 a b =
    by_sign (λ z. z -ℤ pos 62 ≡ minus a (b + 62)) a b
    (λ h. minus_is (a - b) 62 ∙ minus-same (a - b) 62 a (b + 62) (omega arith))
    (λ h. ap negsuc (omega arith) ∙ sym (minus-below a (b + 62) (omega arith)))

-- Y * 2 ^ k for the antilog's root Y, so that with a = k * 2 ^ p + f it stands for 2^62 times 2 to the power a / 2 ^ p
abbrev pub scaled_root : ℕ → ℕ → ℕ
scaled_root p a = antilog_root p (a % 2 ^ p) * 2 ^ (a / 2 ^ p)

pub antilog-minus : (p a t : ℕ) → antilog p (minus a (t * 2 ^ p)) ≡ round binary64 false (scaled_root p a) (2 ^ (t + 62))
unfolding antilog
antilog-minus p a t =
    let K : ℕ = 2 ^ p in
    let Y : ℕ = antilog_root p (a % K) in
    let e : ℤ = minus (a / K) (t + 62) in
    ap (λ (f : ℕ). round binary64 false (antilog_root p f * up (floor_div (minus a (t * K)) K -ℤ pos 62)) (down (floor_div (minus a (t * K)) K -ℤ pos 62))) (remainder-minus a t K (pow_pos p))
    ∙ ap (λ (k : ℤ). round binary64 false (Y * up (k -ℤ pos 62)) (down (k -ℤ pos 62))) (floor_minus a t K (pow_pos p))
    ∙ ap (λ (k : ℤ). round binary64 false (Y * up k) (down k)) (less_62 (a / K) t)
    ∙ round_same binary64 false (Y * up e) (down e) (Y * 2 ^ (a / K)) (2 ^ (t + 62)) (down_pos e) (pow_pos (t + 62)) (minus_val Y (a / K) (t + 62))
