-- Where the numbers of the log word and of the antilog lie: a mantissa, m * 2^62 with 1 ≤ m < 2, stays one from place to place, and the bits of
-- p places are a number below 2 ^ p. Assumes nothing.
use Rattle.arithmetic.proofs.Kit.{◌≡◌, sym, ap, ◌∙◌, subst, ℕ, zero, suc, ◌+◌, ◌-◌, ◌*◌, ◌/◌, ◌%◌, ◌^◌, ◌≤◌, ◌<◌, le_refl, le-add_right, lt_of_le_of_lt, mul-le-mul, mul-le-mul_left, mul-lt-mul_of_pos_right, mod-lt, pow-succ', le-div_iff_mul-le, div-lt_iff_lt-mul, arith, Bool, true, false, not, cond, T, leb, leb→le, nleb→lt, lit<, pow_pos, pow_mono, digits_lt, size, size-lt, size_reaches}
use Rattle.roots.specs.Root.{root}
use Rattle.roots.proofs.Root.{root-le, root_gt}
use Rattle.antilog.specs.Log.{squared, bit_of, normalised, log_bits, mantissa_of}
use Rattle.antilog.specs.Antilog.{antilog_root}
use Rattle.arithmetic.proofs.Powers.{squares-lt, lt-of-squares}
use Rattle.arithmetic.proofs.Size.{size_pos}

pub record Mantissa (M : ℕ) : Type 0 where
  pub low : 2 ^ 62 ≤ M
  pub high : M < 2 ^ 63

-- ---- the log word

-- a fact about the bit and the next mantissa, from its two cases
pub bit-cases : (P : ℕ → ℕ → Type 0) (Q : ℕ) → (Q < 2 ^ 63 → P 0 Q) → (2 ^ 63 ≤ Q → P 1 (Q / 2)) → P (bit_of Q) (normalised Q)
bit-cases P Q off on = go (leb (2 ^ 63) Q) (leb→le (2 ^ 63) Q) (nleb→lt (2 ^ 63) Q)
  where
    go : (b : Bool) → (T b → 2 ^ 63 ≤ Q) → (T (not b) → Q < 2 ^ 63) → P (cond b 1 0) (cond b (Q / 2) Q)
    go true l g = on (l tt)
    go false l g = off (g tt)

squared_ge : {M : ℕ} → Mantissa M → 2 ^ 62 ≤ squared M
squared_ge h = (le-div_iff_mul-le (lit< tt)).1 (mul-le-mul h.low h.low)

pub squared-lt : {M : ℕ} → Mantissa M → squared M < 2 ^ 64
squared-lt h = (div-lt_iff_lt-mul (lit< tt)).1 (squares-lt h.high)

pub bit_le : (Q : ℕ) → bit_of Q ≤ 1
bit_le Q = bit-cases (λ t N. t ≤ 1) Q (λ g. omega arith) (λ g. omega arith)

pub next-mantissa : {M : ℕ} → Mantissa M → Mantissa (normalised (squared M))
next-mantissa {M} h =
    let least : 2 ^ 62 ≤ squared M = squared_ge h in
    let most : squared M < 2 ^ 64 = squared-lt h in
    bit-cases (λ t N. Mantissa N) (squared M) (λ g. record { low = least; high = g }) (λ g. record { low = omega arith; high = omega arith })

pub log_bits-lt : (p M : ℕ) → log_bits p M < 2 ^ p
unfolding log_bits
log_bits-lt zero M = lit< tt
log_bits-lt (suc p) M =
    let Q = squared M in
    subst (λ (n : ℕ). bit_of Q * 2 ^ p + log_bits p (normalised Q) < n) (sym (pow-succ' 2 p)) (digits_lt (omega (arith, bit_le Q)) (log_bits-lt p (normalised Q)))

-- ---- the antilog

-- the highest of p + 1 bits
pub top-bit_le : (p : ℕ) {f : ℕ} → f < 2 ^ suc p → f / 2 ^ p ≤ 1
top-bit_le p {f} h = let l : f / 2 ^ p < 2 = (div-lt_iff_lt-mul (pow_pos p)).1 (subst (λ (n : ℕ). f < n) (pow-succ' 2 p) h) in omega arith

root-mantissa : {Y : ℕ} (t : ℕ) → Mantissa Y → t ≤ 1 → Mantissa (root (Y * 2 ^ (62 + t)))
root-mantissa {Y} t h b =
    let n : ℕ = Y * 2 ^ (62 + t) in
    let least : 2 ^ 62 * 2 ^ 62 ≤ n = mul-le-mul h.low (pow_mono (le-add_right 62 t)) in
    let most : n < 2 ^ 63 * 2 ^ 63 = lt_of_le_of_lt (mul-le-mul_left Y (pow_mono {j = 63} (omega arith))) (mul-lt-mul_of_pos_right h.high (lit< tt)) in
    let low : 2 ^ 62 < suc (root n) = lt-of-squares (2 ^ 62) (suc (root n)) (lt_of_le_of_lt least (root_gt n)) in
    record { low = omega arith; high = lt-of-squares (root n) (2 ^ 63) (lt_of_le_of_lt (root-le n) most) }

pub antilog_root-mantissa : (p f : ℕ) → f < 2 ^ p → Mantissa (antilog_root p f)
unfolding antilog_root
antilog_root-mantissa zero f h = record { low = le_refl (2 ^ 62); high = lit< tt }
antilog_root-mantissa (suc p) f h = root-mantissa (f / 2 ^ p) (antilog_root-mantissa p (f % 2 ^ p) (mod-lt f (pow_pos p))) (top-bit_le p h)

-- ---- a number of units

-- a positive number lies between what its highest binary digit is worth and twice that
size-bounds : {n : ℕ} → 0 < n → (2 ^ (size n - 1) ≤ n) × (n < 2 * 2 ^ (size n - 1))
size-bounds {n} h =
    let some : 0 < size n = size_pos n h in
    let next : size n ≡ suc (size n - 1) = omega arith in
    (size_reaches n (size n - 1) (omega arith), subst (λ (k : ℕ). n < k) (ap (λ (k : ℕ). 2 ^ k) next ∙ pow-succ' 2 (size n - 1)) (size-lt n))

pub mantissa_of-mantissa : {n : ℕ} → 0 < n → Mantissa (mantissa_of n)
mantissa_of-mantissa {n} h =
    let s : ℕ = size n - 1 in
    record {
      low = (le-div_iff_mul-le (pow_pos s)).1 (omega (arith, (size-bounds h).0));
      high = (div-lt_iff_lt-mul (pow_pos s)).1 (omega (arith, (size-bounds h).1));
    }
