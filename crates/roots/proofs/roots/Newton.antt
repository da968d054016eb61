-- Newton's iteration for the floor of a square root: a step from any guess leads to no less than the root, from a guess above it to less than the guess,
-- and from a guess near it to one much nearer. Assumes nothing.
use Rattle.arithmetic.proofs.Kit.{◌≡◌, ap, ◌∙◌, subst, ℕ, zero, suc, ◌+◌, ◌*◌, ◌/◌, ◌^◌, ◌≤◌, ◌<◌, le_of_lt, lt_of_not-le, lt-suc_self, not-suc-le-zero, zero-lt-suc, add_assoc, add_comm, add-mul, mul-add, mul_assoc, mul_comm, mul-mul-mul_comm, mul-le-mul, mul-le-mul_right, mul-pos, le_of_mul-le-mul_right, div-mul-le_self, div-lt_iff_lt-mul, dec_le, arith}
use native.Mathlib.Nat.{le_intro, le_dest, add_left_comm}

-- the guess after r
abbrev pub step : ℕ → ℕ → ℕ
step n r = (r + n / r) / 2

-- ---- twice a product is at most the sum of the squares

apart : (a d : ℕ) → a * (a + d) + a * (a + d) + d * d ≡ a * a + (a + d) * (a + d)
apart a d = simp (mul-add, add-mul, mul_comm, add_assoc, add_left_comm)

ordered : (a b : ℕ) → a ≤ b → a * b + a * b ≤ a * a + b * b
ordered a b h =
    let d = (le_dest h).0 in
    subst (λ (x : ℕ). a * x + a * x ≤ a * a + x * x) (le_dest h).1 (le_intro (a * (a + d) + a * (a + d)) (d * d) (apart a d))

squares : (a b : ℕ) → a * b + a * b ≤ a * a + b * b
squares a b = go (dec_le a b)
  where
    go : Dec (a ≤ b) → a * b + a * b ≤ a * a + b * b
    go (yes h) = ordered a b h
    go (no f) = omega (arith, ordered b a (le_of_lt (lt_of_not-le f)), mul_comm a b)

-- ---- a step

-- q is n / r, and m one more than the guess after r
above : (n r q m : ℕ) → n < suc q * r → suc q + r ≤ m + m → n < m * m
above n r q m next twice = omega (arith, squares m r, add-mul (suc q) r r, add-mul m m r, mul-le-mul_right r twice)

pub step-above : (n r : ℕ) → zero < r → n < suc (step n r) * suc (step n r)
step-above n r h = above n r (n / r) (suc (step n r)) ((div-lt_iff_lt-mul h).0 (lt-suc_self (n / r))) (omega arith)

pub positive : (n r : ℕ) → n < r * r → zero < r
positive n zero h = absurd (not-suc-le-zero h)
positive n (suc r) h = zero-lt-suc r

pub quotient-less : (n r : ℕ) → n < r * r → n / r < r
quotient-less n r h = (div-lt_iff_lt-mul (positive n r h)).1 h

pub step_less : (n r : ℕ) → n < r * r → step n r < r
step_less n r h = omega (arith, quotient-less n r h)

-- ---- how near a step comes

-- the square of a sum, from the product and a bound d of the difference
apart-sum : (a e : ℕ) → (a + (a + e)) * (a + (a + e)) ≡ 4 * (a * (a + e)) + e * e
apart-sum a e = let s : (a + (a + e)) * (a + (a + e)) ≡ a * a + a * (a + e) + (a * (a + e) + (a + e) * (a + e)) = simp (mul-add, add-mul, mul_comm, add_assoc, add_left_comm) in omega (arith, apart a e)

ordered-sum : (a b d : ℕ) → a ≤ b → b ≤ a + d → (a + b) * (a + b) ≤ 4 * (a * b) + d * d
ordered-sum a b d h g =
    let e = (le_dest h).0 in
    let small : e ≤ d = omega (arith, (le_dest h).1) in
    subst (λ (x : ℕ). (a + x) * (a + x) ≤ 4 * (a * x) + d * d) (le_dest h).1 (omega (arith, apart-sum a e, mul-le-mul small small))

sum-square : (a b d : ℕ) → a ≤ b + d → b ≤ a + d → (a + b) * (a + b) ≤ 4 * (a * b) + d * d
sum-square a b d h g = go (dec_le a b)
  where
    go : Dec (a ≤ b) → (a + b) * (a + b) ≤ 4 * (a * b) + d * d
    go (yes l) = ordered-sum a b d l g
    go (no f) = let r : (b + a) * (b + a) ≤ 4 * (b * a) + d * d = ordered-sum b a d (le_of_lt (lt_of_not-le f)) h in subst (λ (x : ℕ). x * x ≤ 4 * (a * b) + d * d) (add_comm b a) (subst (λ (x : ℕ). (b + a) * (b + a) ≤ 4 * x + d * d) (mul_comm b a) r)

-- a step from a guess whose square is within d of n ends at most m above n, in squares
pub step-near : (n r d m : ℕ) → zero < r → r * r ≤ n + d → n ≤ r * r + d → d * d ≤ 4 * (r * r) * m → step n r * step n r ≤ n + m
step-near n r d m pos above below room =
    let s = step n r in
    let x = r * r in
    let sum : s + s ≤ r + n / r = omega arith in
    let twice : (s + s) * r ≤ x + n = omega (arith, mul-le-mul_right r sum, add-mul r (n / r) r, div-mul-le_self n r) in
    let doubled : (s + s) * (s + s) ≡ s * s * 4 = omega (arith, add-mul s s (s + s), mul-add s s s) in
    let squared : (s + s) * r * ((s + s) * r) ≡ s * s * (4 * x) = mul-mul-mul_comm (s + s) r (s + s) r ∙ ap (λ (y : ℕ). y * x) doubled ∙ mul_assoc (s * s) 4 x in
    let spread : 4 * (x * n) + 4 * x * m ≡ (n + m) * (4 * x) = omega (arith, add-mul n m (4 * x)) in
    le_of_mul-le-mul_right {k = 4 * x} (omega (arith, squared, spread, mul-le-mul twice twice, sum-square x n d above below)) (omega (arith, mul-pos pos pos))

-- the quotient by a guess
pub quotient-lt : (n r : ℕ) → n < 2 ^ 64 → 2 ^ 30 ≤ r → n / r < 2 ^ 34
quotient-lt n r h g = (div-lt_iff_lt-mul {k = r} {x = n} {y = 2 ^ 34} (omega arith)).1 (omega arith)
