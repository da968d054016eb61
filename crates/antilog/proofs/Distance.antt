-- How far the log word and the antilog lie from the true logarithm and the true power. No real number is written: that b / 2 ^ p is at most the
-- logarithm of a to the base 2 is said by 2 ^ b ≤ a ^ 2 ^ p. Log and antilog share one lemma over their places, `next_place`. Assumes nothing.
use Rattle.arithmetic.proofs.Kit.{◌≡◌, sym, ap, ◌∙◌, subst, subst₂, ℕ, zero, suc, ◌+◌, ◌-◌, ◌*◌, ◌/◌, ◌%◌, ◌^◌, ◌≤◌, ◌<◌, le_refl, le_trans, le_of_eq, lt_of_lt_of_le, lt-suc_self, add-zero, zero-add, add_assoc, add-mul, mul-add, mul_assoc, mul_comm, mul_left_comm, mul_right_comm, mul-mul-mul_comm, mul-le-mul_left, mul-le-mul_right, pow-succ', mod-lt, div-add-mod', div-mul-le_self, div-lt_iff_lt-mul, mul-div_cancel, arith, false, ℤ, T, lit<, pow_pos, pow_mono, pow-add, shl_lt, fin, binary64, size, minus, fits, size-le}
use lib.Arith.{lt-one}
use Rattle.roots.specs.Root.{root}
use Rattle.roots.proofs.Root.{root-le, root_gt}
use Rattle.arithmetic.specs.Nearest.{units_of}
use Rattle.antilog.specs.Log.{squared, bit_of, normalised, log_bits, mantissa_of, log_word}
use Rattle.antilog.specs.Antilog.{antilog_root}
use Rattle.arithmetic.proofs.Compared.{Comparison, at_most_lem, below, turned, next_place}
use Rattle.arithmetic.proofs.Powers.{pow-one, pow-power, pow-scaled, lt-of-squares, near-one-le-two}
use Rattle.antilog.proofs.Range.{Mantissa, bit-cases, next-mantissa, top-bit_le, antilog_root-mantissa, mantissa_of-mantissa}
use Rattle.arithmetic.proofs.Units.{Short, split-power, units-short, units_pos}
use Rattle.antilog.proofs.Ordered.{biased_word, word-biased}

-- what it compares with, in units of 2^62
units_of-two : (p x : ℕ) → (2 ^ 62) ^ 2 ^ p * 2 ^ x ≡ 2 ^ (62 * 2 ^ p + x)
units_of-two p x = ap (λ (n : ℕ). n * 2 ^ x) (pow-power 2 62 (2 ^ p)) ∙ sym (pow-add 2 (62 * 2 ^ p) x)

-- ---- the log word: the logarithm of M / 2^62 is at least the bits, and less than two units above them

next-below : (Q : ℕ) → normalised Q * 2 ^ bit_of Q ≤ Q
next-below Q = bit-cases (λ t N. N * 2 ^ t ≤ Q) Q (λ g. omega arith) (λ g. omega arith)

next-above : (Q : ℕ) → Q < suc (normalised Q) * 2 ^ bit_of Q
next-above Q = bit-cases (λ t N. Q < suc N * 2 ^ t) Q (λ g. omega arith) (λ g. omega arith)

log_step-below : (M : ℕ) → normalised (squared M) * (2 ^ 62 * 2 ^ bit_of (squared M)) ≤ M * M
log_step-below M =
    let Q = squared M in
    le_trans (le_of_eq (mul_left_comm (normalised Q) (2 ^ 62) (2 ^ bit_of Q) ∙ mul_comm (2 ^ 62) (normalised Q * 2 ^ bit_of Q)))
    (le_trans (mul-le-mul_right (2 ^ 62) (next-below Q)) (div-mul-le_self (M * M) (2 ^ 62)))

-- Units of 2^62 + 1 make good what the two divisions cut off, for N + 1 times 2^62 is at most N times 2^62 + 1.
log_step-above : (M : ℕ) → Mantissa M → M * M < normalised (squared M) * (suc (2 ^ 62) * 2 ^ bit_of (squared M))
log_step-above M h =
    let Q = squared M in
    let N = normalised Q in
    let made_good : suc N * 2 ^ 62 ≤ N * suc (2 ^ 62) = omega (arith, (next-mantissa h).low) in
    lt_of_lt_of_le ((div-lt_iff_lt-mul (lit< tt)).0 (lt-suc_self Q))
    (le_trans (mul-le-mul_right (2 ^ 62) (next-above Q))
    (le_trans (le_of_eq (mul_right_comm (suc N) (2 ^ bit_of Q) (2 ^ 62)))
    (le_trans (mul-le-mul_right (2 ^ bit_of Q) made_good) (le_of_eq (mul_assoc N (suc (2 ^ 62)) (2 ^ bit_of Q))))))

-- from one place to p places; after the last one a mantissa is left, which compares with 2 ^ x
module _ {R : ℕ → ℕ → Type 0} (c : Comparison R) (U x : ℕ) (some : 0 < U) (last : (M : ℕ) → Mantissa M → R M (U * 2 ^ x))
    (step : (M : ℕ) → Mantissa M → R (M * M) (normalised (squared M) * (U * 2 ^ bit_of (squared M)))) where
  log_places : (p M : ℕ) → Mantissa M → R (M ^ 2 ^ p) (U ^ 2 ^ p * 2 ^ (log_bits p M + x))
  unfolding log_bits
  log_places zero M h = rw (pow-one M, pow-one U, zero-add x) (last M h)
  log_places (suc p) M h =
      let Q = squared M in
      rw (add_assoc (bit_of Q * 2 ^ p) (log_bits p (normalised Q)) x)
      (next_place c U p (bit_of Q) (log_bits p (normalised Q) + x) M (normalised Q) some (step M h) (log_places p (normalised Q) (next-mantissa h)))

pub log_bits-below : (p : ℕ) {M : ℕ} → Mantissa M → 2 ^ (62 * 2 ^ p + log_bits p M) ≤ M ^ 2 ^ p
log_bits-below p {M} h =
    subst (λ (n : ℕ). n ≤ M ^ 2 ^ p) (ap (λ (b : ℕ). (2 ^ 62) ^ 2 ^ p * 2 ^ b) (add-zero (log_bits p M)) ∙ units_of-two p (log_bits p M))
    (log_places (turned at_most_lem) (2 ^ 62) 0 (lit< tt) (λ N g. g.low) (λ N g. log_step-below N) p M h)

-- Of the two units, one is what the bits after the last place can come to, and one what the divisions cut off: (1 + 2^-62) ^ 2 ^ p is at most 2.
pub log_bits-above : (p : ℕ) {M : ℕ} → p ≤ 60 → Mantissa M → M ^ 2 ^ p < 2 ^ (62 * 2 ^ p + log_bits p M + 2)
log_bits-above p {M} places h =
    let k : ℕ = 2 ^ p in
    let b : ℕ = log_bits p M in
    let half : 2 * k ≤ 2 ^ 62 = le_trans (le_of_eq (sym (pow-succ' 2 p))) (pow_mono {j = 62} (omega arith)) in
    let two : 62 * k + suc (b + 1) ≡ 62 * k + b + 2 = omega arith in
    lt_of_lt_of_le (log_places below (suc (2 ^ 62)) 1 (lit< tt) (λ N g. omega (arith, g.high)) log_step-above p M h)
    (le_trans (mul-le-mul_right (2 ^ (b + 1)) (near-one-le-two (2 ^ 62) k (lit< tt) half))
    (le_of_eq (mul_assoc ((2 ^ 62) ^ k) 2 (2 ^ (b + 1)) ∙ ap (λ (n : ℕ). (2 ^ 62) ^ k * n) (sym (pow-succ' 2 (b + 1))) ∙ units_of-two p (suc (b + 1)) ∙ ap (λ (n : ℕ). 2 ^ n) two)))

-- ---- the antilog: 2^62 times 2 to the power f / 2 ^ p, not cut to a whole number, is at least the root, and less than the root plus 4

antilog-step-below : (Y t : ℕ) → root (Y * 2 ^ (62 + t)) * root (Y * 2 ^ (62 + t)) ≤ Y * (2 ^ 62 * 2 ^ t)
antilog-step-below Y t = le_trans (root-le (Y * 2 ^ (62 + t))) (le_of_eq (ap (λ (n : ℕ). Y * n) (pow-add 2 62 t)))

-- W is 2^62 or 2^63 and s the root's next number. 9 * (s * s) is above 4 * (W * W), so 6 * s is above 4 * W.
four-above : (U Y W s : ℕ) → U ≤ Y → W ≤ 2 * U → Y * W < s * s → (Y + 4) * W < (s + 3) * (s + 3)
four-above U Y W s low small h =
    let squares : W * W ≤ 2 * (Y * W) = le_trans (mul-le-mul_right W (le_trans small (mul-le-mul_left 2 low))) (le_of_eq (mul_assoc 2 Y W)) in
    let sides : 2 * W < 3 * s = lt-of-squares (2 * W) (3 * s) (rw (mul-mul-mul_comm 2 W 2 W, mul-mul-mul_comm 3 s 3 s) (omega arith)) in
    rw (add-mul Y 4 W, add-mul s 3 (s + 3), mul-add s s 3) (omega arith)

antilog-step-above : (Y t : ℕ) → Mantissa Y → t ≤ 1 → (Y + 4) * (2 ^ 62 * 2 ^ t) < (root (Y * 2 ^ (62 + t)) + 4) * (root (Y * 2 ^ (62 + t)) + 4)
antilog-step-above Y t h b =
    let r : ℕ = root (Y * 2 ^ (62 + t)) in
    let next : suc r + 3 ≡ r + 4 = omega arith in
    subst (λ (n : ℕ). (Y + 4) * (2 ^ 62 * 2 ^ t) < n * n) next
    (four-above (2 ^ 62) Y (2 ^ 62 * 2 ^ t) (suc r) h.low (omega (arith, pow_mono b)) (subst (λ (n : ℕ). Y * n < suc r * suc r) (pow-add 2 62 t) (root_gt (Y * 2 ^ (62 + t)))))

-- from one place to p places, for the root itself or for the root with something added
module _ {R : ℕ → ℕ → Type 0} (c : Comparison R) (shift : ℕ → ℕ) (first : R (shift (2 ^ 62)) (2 ^ 62))
    (step : (Y t : ℕ) → Mantissa Y → t ≤ 1 → R (shift (root (Y * 2 ^ (62 + t))) * shift (root (Y * 2 ^ (62 + t)))) (shift Y * (2 ^ 62 * 2 ^ t))) where
  antilog-places : (p f : ℕ) → f < 2 ^ p → R (shift (antilog_root p f) ^ 2 ^ p) ((2 ^ 62) ^ 2 ^ p * 2 ^ f)
  unfolding antilog_root
  antilog-places zero f h = rw (lt-one h, pow-one (shift (2 ^ 62)), pow-one (2 ^ 62)) first
  antilog-places (suc p) f h =
      let t : ℕ = f / 2 ^ p in
      let g : ℕ = f % 2 ^ p in
      let Y : ℕ = antilog_root p g in
      let Z : ℕ = root (Y * 2 ^ (62 + t)) in
      let small : g < 2 ^ p = mod-lt f (pow_pos p) in
      subst (λ (n : ℕ). R (shift Z ^ 2 ^ suc p) ((2 ^ 62) ^ 2 ^ suc p * 2 ^ n)) (div-add-mod' f (2 ^ p))
      (next_place c (2 ^ 62) p t g (shift Z) (shift Y) (lit< tt) (step Y t (antilog_root-mantissa p g small) (top-bit_le p h)) (antilog-places p g small))

pub antilog_root-below : (p f : ℕ) → f < 2 ^ p → antilog_root p f ^ 2 ^ p ≤ 2 ^ (62 * 2 ^ p + f)
antilog_root-below p f h =
    le_trans (antilog-places at_most_lem (λ Y. Y) (le_refl (2 ^ 62)) (λ Y t g b. antilog-step-below Y t) p f h) (le_of_eq (units_of-two p f))

pub antilog_root-above : (p f : ℕ) → f < 2 ^ p → 2 ^ (62 * 2 ^ p + f) < (antilog_root p f + 4) ^ 2 ^ p
antilog_root-above p f h =
    subst (λ (n : ℕ). n < (antilog_root p f + 4) ^ 2 ^ p) (units_of-two p f) (antilog-places (turned below) (λ Y. Y + 4) (lit< tt) antilog-step-above p f h)

-- ---- a number of units whose mantissa is exact: its logarithm is at least its word, and less than two units above it

-- from M back to the n whose mantissa it is, n = M * 2 ^ s / 2^62
unscaled : {R : ℕ → ℕ → Type 0} → Comparison R → (k n M s x y : ℕ) → n * 2 ^ 62 ≡ M * 2 ^ s → x + s * k ≡ y + 62 * k → R (M ^ k) (2 ^ x) → R (n ^ k) (2 ^ y)
unscaled {R} c k n M s x y exact sums h =
    let left : M ^ k * 2 ^ (s * k) ≡ n ^ k * 2 ^ (62 * k) = sym (pow-scaled M s k) ∙ ap (λ (a : ℕ). a ^ k) (sym exact) ∙ pow-scaled n 62 k in
    let right : 2 ^ x * 2 ^ (s * k) ≡ 2 ^ y * 2 ^ (62 * k) = sym (pow-add 2 x (s * k)) ∙ ap (λ (a : ℕ). 2 ^ a) sums ∙ pow-add 2 y (62 * k) in
    c.cancel (n ^ k) (2 ^ y) (2 ^ (62 * k)) (pow_pos (62 * k)) (subst₂ R left right (c.times (M ^ k) (2 ^ x) (2 ^ (s * k)) (pow_pos (s * k)) h))

pub units-below : (p : ℕ) {n : ℕ} → 0 < n → n * 2 ^ 62 ≡ mantissa_of n * 2 ^ (size n - 1)
    → 2 ^ ((size n - 1) * 2 ^ p + log_bits p (mantissa_of n)) ≤ n ^ 2 ^ p
units-below p {n} some exact =
    let s : ℕ = size n - 1 in
    let b : ℕ = log_bits p (mantissa_of n) in
    unscaled (turned at_most_lem) (2 ^ p) n (mantissa_of n) s (62 * 2 ^ p + b) (s * 2 ^ p + b) exact (omega arith) (log_bits-below p (mantissa_of-mantissa some))

pub units-above : (p : ℕ) {n : ℕ} → p ≤ 60 → 0 < n → n * 2 ^ 62 ≡ mantissa_of n * 2 ^ (size n - 1)
    → n ^ 2 ^ p < 2 ^ ((size n - 1) * 2 ^ p + log_bits p (mantissa_of n) + 2)
units-above p {n} places some exact =
    let s : ℕ = size n - 1 in
    let b : ℕ = log_bits p (mantissa_of n) in
    unscaled below (2 ^ p) n (mantissa_of n) s (62 * 2 ^ p + b + 2) (s * 2 ^ p + b + 2) exact (omega arith) (log_bits-above p places (mantissa_of-mantissa some))

-- ---- the log word of a positive double

-- its mantissa is exact, since it has 53 digits at most
exact-mantissa : {n : ℕ} → Short n → n * 2 ^ 62 ≡ mantissa_of n * 2 ^ (size n - 1)
exact-mantissa {n} (c, k, few, same) =
    let s : ℕ = size n - 1 in
    let digits : size n ≤ 53 + k = size-le n (53 + k) (rw same (shl_lt 53 k few)) in
    let whole : n * 2 ^ 62 ≡ c * 2 ^ (k + 62 - s) * 2 ^ s = ap (λ (x : ℕ). x * 2 ^ 62) same ∙ mul_assoc c (2 ^ k) (2 ^ 62) ∙ ap (λ (x : ℕ). c * x) (sym (pow-add 2 k 62)) ∙ split-power c (k + 62) s (omega arith) in
    whole ∙ ap (λ (x : ℕ). x * 2 ^ s) (sym (ap (λ (x : ℕ). x / 2 ^ s) whole ∙ mul-div_cancel (c * 2 ^ (k + 62 - s)) (pow_pos s)))

-- X is x in units of 2 ^ -1074 and L its word, so that 2 to the power L is at most x to the power 2 ^ p, and that is less than 2 to the power L + 2:
-- both are written times 2 to the power 1074 * 2 ^ p, which makes them whole, and adds as much to L
pub record NearLog (p X : ℕ) (L : ℤ) : Type 0 where
  pub biased : ℕ
  pub word : L ≡ minus biased (1074 * 2 ^ p)
  pub below : 2 ^ biased ≤ X ^ 2 ^ p
  pub above : X ^ 2 ^ p < 2 ^ (biased + 2)

pub near_log : (p m : ℕ) (e : ℤ) → p ≤ 60 → T (fits binary64 (fin false (suc m) e)) → NearLog p (units_of (fin false (suc m) e)) (log_word p (fin false (suc m) e))
near_log p m e places t =
    let X : ℕ = units_of (fin false (suc m) e) in
    let some : 0 < X = units_pos false m e t in
    let exact : X * 2 ^ 62 ≡ mantissa_of X * 2 ^ (size X - 1) = exact-mantissa (units-short false (suc m) e t) in
    record { biased = biased_word p X; word = word-biased p X; below = units-below p some exact; above = units-above p places some exact }
