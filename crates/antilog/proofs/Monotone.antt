-- The log word and the antilog never fall: a greater number has no smaller word, and a greater word no smaller antilog. Assumes nothing.
use Rattle.arithmetic.proofs.Kit.{◌≡◌, sym, ap, ◌∙◌, subst, ℕ, zero, suc, ◌+◌, ◌-◌, ◌*◌, ◌/◌, ◌%◌, ◌^◌, ◌≤◌, ◌<◌, le_refl, le_trans, le_of_eq, le_of_lt, lt_of_le_of_lt, le-add_right, eq-or-lt_of_le, mul_assoc, mul-le-mul, mul-le-mul_left, mul-le-mul_right, mod-lt, div-add-mod', pow-succ', arith, ◌⊎◌, inl, inr, digits_lt, pow_pos, pow_mono, size, size-lt, size-le}
use native.Mathlib.Nat.{add-le-add}
use lib.Pow.{shr_mono}
use Rattle.roots.proofs.Root.{root_mono}
use Rattle.antilog.specs.Log.{squared, bit_of, normalised, log_bits, mantissa_of}
use Rattle.antilog.specs.Antilog.{antilog_root}
use Rattle.antilog.proofs.Range.{Mantissa, bit-cases, log_bits-lt, antilog_root-mantissa}

-- With x for the last digit to the base b, the digits before it decide, and where they are the same, the last one.
digits_le : {h k x y : ℕ} (b : ℕ) → x < b → h ≤ k → (h ≡ k → x ≤ y) → h * b + x ≤ k * b + y
digits_le {h} {k} {x} {y} b small le rest = go (eq-or-lt_of_le le)
  where
    go : (h ≡ k) ⊎ (h < k) → h * b + x ≤ k * b + y
    go (inl e) = add-le-add (mul-le-mul_right b (le_of_eq e)) (rest e)
    go (inr l) = le_trans (le_of_lt (digits_lt l small)) (le-add_right (k * b) y)

-- ---- the log word

bit_mono : {Q R : ℕ} → Q ≤ R → bit_of Q ≤ bit_of R
bit_mono {Q} {R} h = bit-cases (λ t N. t ≤ bit_of R) Q (λ g. omega arith) (λ g. bit-cases (λ t N. 1 ≤ t) R (λ l. omega arith) (λ l. omega arith))

-- the next mantissa falls where the bit changes, and nowhere else
next_mono : {Q R : ℕ} → Q ≤ R → bit_of Q ≡ bit_of R → normalised Q ≤ normalised R
next_mono {Q} {R} h =
    bit-cases (λ t N. t ≡ bit_of R → N ≤ normalised R) Q
    (λ g. bit-cases (λ t N. 0 ≡ t → Q ≤ N) R (λ l e. omega arith) (λ l e. omega arith))
    (λ g. bit-cases (λ t N. 1 ≡ t → Q / 2 ≤ N) R (λ l e. omega arith) (λ l e. omega arith))

log_bits_mono : (p : ℕ) {M N : ℕ} → M ≤ N → log_bits p M ≤ log_bits p N
unfolding log_bits
log_bits_mono zero h = le_refl 0
log_bits_mono (suc p) {M} {N} h =
    let squares : squared M ≤ squared N = shr_mono 62 (mul-le-mul h h) in
    digits_le (2 ^ p) (log_bits-lt p (normalised (squared M))) (bit_mono squares) (λ e. log_bits_mono p (next_mono squares e))

-- ---- the antilog

-- What stands under the root. A greater bit decides: Y is below 2^63, and twice Z is not.
radicand_mono : {Y Z t u : ℕ} → Mantissa Y → Mantissa Z → t ≤ u → (t ≡ u → Y ≤ Z) → Y * 2 ^ (62 + t) ≤ Z * 2 ^ (62 + u)
radicand_mono {Y} {Z} {t} {u} hY hZ le rest = go (eq-or-lt_of_le le)
  where
    go : (t ≡ u) ⊎ (t < u) → Y * 2 ^ (62 + t) ≤ Z * 2 ^ (62 + u)
    go (inl e) = mul-le-mul (rest e) (le_of_eq (ap (λ (k : ℕ). 2 ^ (62 + k)) e))
    go (inr l) =
        le_trans (mul-le-mul_right (2 ^ (62 + t)) (omega (arith, hY.high, hZ.low)))
        (le_trans (le_of_eq (mul_assoc Z 2 (2 ^ (62 + t)) ∙ ap (λ (k : ℕ). Z * k) (sym (pow-succ' 2 (62 + t))))) (mul-le-mul_left Z (pow_mono (omega arith))))

pub remainder_mono : {f g : ℕ} (b : ℕ) → f ≤ g → f / b ≡ g / b → f % b ≤ g % b
remainder_mono {f} {g} b h e = let same : f / b * b ≡ g / b * b = ap (λ (q : ℕ). q * b) e in omega (arith, div-add-mod' f b, div-add-mod' g b)

pub antilog_root_mono : (p : ℕ) {f g : ℕ} → f ≤ g → antilog_root p f ≤ antilog_root p g
unfolding antilog_root
antilog_root_mono zero h = le_refl (2 ^ 62)
antilog_root_mono (suc p) {f} {g} h =
    let under : ℕ → ℕ = λ a. antilog_root p (a % 2 ^ p) in
    let mantissa : (a : ℕ) → Mantissa (under a) = λ a. antilog_root-mantissa p (a % 2 ^ p) (mod-lt a (pow_pos p)) in
    root_mono {m = under f * 2 ^ (62 + f / 2 ^ p)} {n = under g * 2 ^ (62 + g / 2 ^ p)}
    (radicand_mono (mantissa f) (mantissa g) (shr_mono p h) (λ e. antilog_root_mono p (remainder_mono (2 ^ p) h e)))

-- ---- a number of units

pub units_mono : (p : ℕ) {m n : ℕ} → m ≤ n → (size m - 1) * 2 ^ p + log_bits p (mantissa_of m) ≤ (size n - 1) * 2 ^ p + log_bits p (mantissa_of n)
units_mono p {m} {n} h =
    let sizes : size m ≤ size n = size-le m (size n) (lt_of_le_of_lt h (size-lt n)) in
    digits_le (2 ^ p) (log_bits-lt p (mantissa_of m)) (omega arith)
    (λ e. log_bits_mono p (subst (λ (s : ℕ). mantissa_of m ≤ n * 2 ^ 62 / 2 ^ s) e (shr_mono (size m - 1) (mul-le-mul_right (2 ^ 62) h))))
