-- Laws of powers and squares of natural numbers that the libraries do not state. Assumes nothing.
use Rattle.arithmetic.proofs.Kit.{◌≡◌, sym, ap, ◌∙◌, ℕ, zero, suc, ◌+◌, ◌*◌, ◌^◌, ◌≤◌, ◌<◌, le_trans, le_of_eq, le_of_lt, lt_of_le_of_lt, lt_of_not-le, not-le_of_lt, one-mul, suc-mul, mul-suc, mul-add, mul_assoc, mul_left_comm, mul-mul-mul_comm, mul-le-mul, mul-le-mul_left, mul-lt-mul_of_pos_right, le_of_mul-le-mul_right, pow-suc, pow-succ', pow-le-pow_left, pow-lt-pow_left, ne_of_gt, arith, pow_pos, pow-add, pow_mono}
use Rattle.std.proofs.Common.{mul-zero}
use native.Mathlib.Nat.{pow-zero, two-pow-succ}

pub pow-one : (a : ℕ) → a ^ 1 ≡ a
pow-one a = pow-suc a 0 ∙ ap (λ (x : ℕ). x * a) (pow-zero a) ∙ one-mul a

pub pow-product : (a b k : ℕ) → (a * b) ^ k ≡ a ^ k * b ^ k
pow-product a b zero = simp pow-zero
pow-product a b (suc k) = rw (pow-suc (a * b) k, pow-suc a k, pow-suc b k, pow-product a b k) (mul-mul-mul_comm (a ^ k) (b ^ k) a b)

pub pow-power : (a i k : ℕ) → (a ^ i) ^ k ≡ a ^ (i * k)
pow-power a i zero = rw (pow-zero (a ^ i), mul-zero i, pow-zero a)
pow-power a i (suc k) = rw (pow-suc (a ^ i) k, pow-power a i k, mul-suc i k) (sym (pow-add a (i * k) i))

pub pow-scaled : (a i k : ℕ) → (a * 2 ^ i) ^ k ≡ a ^ k * 2 ^ (i * k)
pow-scaled a i k = pow-product a (2 ^ i) k ∙ ap (λ (x : ℕ). a ^ k * x) (pow-power 2 i k)

-- squared p + 1 times: squared once, and then p times
pub pow-squared : (a p : ℕ) → a ^ 2 ^ suc p ≡ (a * a) ^ 2 ^ p
pow-squared a p = ap (λ (k : ℕ). a ^ k) (two-pow-succ p) ∙ pow-add a (2 ^ p) (2 ^ p) ∙ sym (pow-product a a (2 ^ p))

pub squares-lt : {a b : ℕ} → a < b → a * a < b * b
squares-lt {a} h = lt_of_le_of_lt (mul-le-mul_left a (le_of_lt h)) (mul-lt-mul_of_pos_right h (omega arith))

pub lt-of-squares : (a b : ℕ) → a * a < b * b → a < b
lt-of-squares a b h = lt_of_not-le (λ (g : b ≤ a). not-le_of_lt h (mul-le-mul g g))

-- ---- (1 + 1 / n) ^ k is at most 2, where k is at most half of n

one_more : (n y : ℕ) → y ≤ 2 * n → suc n * y ≤ n * (y + 2)
one_more n y h = rw (suc-mul n y, mul-add n y 2) (omega arith)

-- it is at most 1 + 2 * k / n
near-one : (n k : ℕ) → 2 * k ≤ n → suc n ^ k * n ≤ n ^ k * (n + 2 * k)
near-one n zero h = rw (pow-zero (suc n), pow-zero n) (omega arith)
near-one n (suc k) h =
    let y : ℕ = n + 2 * k in
    let next : n + 2 * suc k ≡ y + 2 = omega arith in
    rw (pow-succ' (suc n) k, pow-suc n k, next, mul_assoc (suc n), mul_assoc (n ^ k))
    (le_trans (mul-le-mul_left (suc n) (near-one n k (omega arith)))
    (le_trans (le_of_eq (mul_left_comm (suc n) (n ^ k) y)) (mul-le-mul_left (n ^ k) (one_more n y (omega arith)))))

pub near-one-le-two : (n k : ℕ) → 0 < n → 2 * k ≤ n → suc n ^ k ≤ n ^ k * 2
near-one-le-two n k z h =
    le_of_mul-le-mul_right
    (le_trans (near-one n k h) (le_trans (mul-le-mul_left (n ^ k) (omega arith)) (le_of_eq (sym (mul_assoc (n ^ k) 2 n))))) z

-- ---- (1 + 1 / n) ^ k is at least 1 + k / n

one_less : (n y : ℕ) → n ≤ y → n * suc y ≤ suc n * y
one_less n y h = rw (suc-mul n y, mul-suc n y) (omega arith)

pub far_one : (n k : ℕ) → n ^ k * (n + k) ≤ suc n ^ k * n
far_one n zero = rw (pow-zero (suc n), pow-zero n) (omega arith)
far_one n (suc k) =
    let y : ℕ = n + k in
    let next : n + suc k ≡ suc y = omega arith in
    rw (pow-succ' (suc n) k, pow-suc n k, next, mul_assoc (suc n), mul_assoc (n ^ k))
    (le_trans (mul-le-mul_left (n ^ k) (one_less n y (omega arith)))
    (le_trans (le_of_eq (mul_left_comm (n ^ k) (suc n) y)) (mul-le-mul_left (suc n) (far_one n k))))

-- ---- and over D times as many factors: at least 2 ^ D for k = n, and at most 2 ^ D where k is at most half of n

two-each : (n k D : ℕ) → (n ^ k * 2) ^ D ≡ n ^ (k * D) * 2 ^ D
two-each n k D = pow-product (n ^ k) 2 D ∙ ap (λ (x : ℕ). x * 2 ^ D) (pow-power n k D)

pub two-each-le-next : (n D : ℕ) → 0 < n → n ^ (n * D) * 2 ^ D ≤ suc n ^ (n * D)
two-each-le-next n D z =
    let double : n + n ≡ 2 * n = omega arith in
    let once : n ^ n * 2 ≤ suc n ^ n = le_of_mul-le-mul_right (le_trans (le_of_eq (mul_assoc (n ^ n) 2 n ∙ ap (λ (x : ℕ). n ^ n * x) (sym double))) (far_one n n)) z in
    le_trans (le_of_eq (sym (two-each n n D))) (le_trans (pow-le-pow_left once D) (le_of_eq (pow-power (suc n) n D)))

pub next-le-two-each : (n k D : ℕ) → 0 < n → 2 * k ≤ n → suc n ^ (k * D) ≤ n ^ (k * D) * 2 ^ D
next-le-two-each n k D z h = le_trans (le_of_eq (sym (pow-power (suc n) k D))) (le_trans (pow-le-pow_left (near-one-le-two n k z h) D) (le_of_eq (two-each n k D)))

-- ---- the order, back from powers

pub lt-of-powers : (a b k : ℕ) → a ^ k < b ^ k → a < b
lt-of-powers a b k h = lt_of_not-le (λ (g : b ≤ a). not-le_of_lt h (pow-le-pow_left g k))

pub le-of-powers : (a b k : ℕ) → 0 < k → a ^ k ≤ b ^ k → a ≤ b
le-of-powers a b k some h = let l : a < suc b = lt_of_not-le (λ (g : suc b ≤ a). not-le_of_lt (pow-lt-pow_left g (ne_of_gt some)) h) in omega arith

pub lt-of-exponents : (i j : ℕ) → 2 ^ i < 2 ^ j → i < j
lt-of-exponents i j h = lt_of_not-le (λ (g : j ≤ i). not-le_of_lt h (pow_mono g))

-- ---- a number is less than its power of two

pub lt-two-pow : (n : ℕ) → n < 2 ^ n
lt-two-pow zero = pow_pos 0
lt-two-pow (suc n) = rw (two-pow-succ n) (omega (arith, lt-two-pow n))
