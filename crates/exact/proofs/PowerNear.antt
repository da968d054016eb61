-- How far a power lies from the true one, from 20 to 60 places: the logarithm's two units count once for each unit of the exponent, and the floor adds one.
-- Assumes nothing.
use Rattle.exact.proofs.Kit.{◌≡◌, sym, ap, ◌∙◌, subst, Bool, true, false, cond, ℕ, zero, suc, ◌+◌, ◌-◌, ◌*◌, ◌/◌, ◌^◌, ◌≤◌, ◌<◌, le_trans, le_of_eq, le_of_lt, le-add_right, lt_of_le_of_lt, lt_of_lt_of_le, zero-lt-suc, ne_of_gt, mul_comm, mul-pos, mul-le-mul, mul-le-mul_left, mul-le-mul_right, one-le-pow, pow-lt-pow_left, div-mul-le_self, div-lt_iff_lt-mul, lt-div-mul-add, arith, ℤ, pos, neg_ℤ, ◌*ℤ◌, T, ltb, ltb→lt, lt→ltb, lit<, lit≤, pow_pos, pow_mono, Float, nan, inf, fin, binary64, minus, fits, is_true, up_pos, down_pos, num, den, positive, signed, floor_div, units_of, log_word, antilog, Exponent, exponents, exponent_at, power, power_at, exact_value, Normal, InBounds, raised, pow-product, pow-power, pow-scaled, lt-of-exponents, units-exact, by_sign, minus-above, minus-same, minus-times, floor_minus, NearLog, near_log}
use Rattle.arithmetic.proofs.Integers.{neg-times, neg_left}
use Rattle.arithmetic.proofs.Units.{units-below}
use Rattle.arithmetic.proofs.Differences.{opposite}
use Rattle.arithmetic.proofs.Every.{at}
use Rattle.exact.proofs.RootsNear.{words-raised, shift, Worded, antilog-within}

-- The words of A / B: c - d is within 2 of K times its logarithm. Those of B / A are the opposites.
record Words (K c d A B : ℕ) : Type 0 where
  low : B ^ K * 2 ^ c ≤ A ^ K * 2 ^ (d + 2)
  high : A ^ K * 2 ^ d ≤ B ^ K * 2 ^ (c + 2)

worded-power : (K E Q c d t M N A B : ℕ) → 0 < E → M ≤ Q * E → N + d * M ≡ c * M + t * K * E → Words K c d A B → Worded K E (2 * Q + 1) t (N / E) (A ^ M) (B ^ M)
worded-power K E Q c d t M N A B E₀ small same words =
    let a : ℕ = N / E in
    let floor : a * E ≤ N = div-mul-le_self N E in
    let above : N < a * E + E = lt-div-mul-add E₀ in
    record {
      low = shift ((A ^ M) ^ K) ((B ^ M) ^ K) (c * M) ((d + 2) * M) (a * E) (t * K * E + (2 * Q + 1) * E) (words-raised K M c (d + 2) A B words.low) (omega arith);
      high = shift ((B ^ M) ^ K) ((A ^ M) ^ K) (d * M) ((c + 2) * M) (t * K * E) (a * E + (2 * Q + 1) * E) (words-raised K M d (c + 2) B A words.high) (omega arith);
    }

module _ (p Q M E : ℕ) (least : 20 ≤ p) (most : p ≤ 60) (few : Q ≤ 36) (E₀ : 0 < E) (small : M ≤ Q * E) where
  raised-within : (c d A B : ℕ) → d ≤ 2098 * 2 ^ p → 0 < B → Words (2 ^ p) c d A B → (r : Float) → r ≡ antilog p (floor_div (minus c d *ℤ pos M) E) → Normal r
      → InBounds (2 ^ (p - 53) + (3 + 2 * Q)) p r E (record { over = A ^ M; under = B ^ M })
  raised-within c d A B range B₀ words r is normal =
      let K : ℕ = 2 ^ p in
      let t : ℕ = 2098 * Q in
      let N : ℕ = c * M + t * K * E - d * M in
      let room : d * M ≤ t * K * E = le_trans (mul-le-mul range small) (le_of_eq (omega arith)) in
      let same : N + d * M ≡ c * M + t * K * E = omega arith in
      let word : floor_div (minus c d *ℤ pos M) E ≡ minus (N / E) (t * K) = ap (λ (z : ℤ). floor_div z E) (minus-times c d M ∙ minus-same (c * M) (d * M) N (t * K * E) (omega arith)) ∙ floor_minus N (t * K) E E₀ in
      let units : 2 ^ (p - 53) + (2 + (2 * Q + 1)) ≡ 2 ^ (p - 53) + (3 + 2 * Q) = omega arith in
      subst (λ (u : ℕ). InBounds u p r E (record { over = A ^ M; under = B ^ M })) units
      (antilog-within p (2 * Q + 1) least most (omega arith) (omega arith) E t (N / E) (A ^ M) (B ^ M) E₀ (one-le-pow M B B₀) (worded-power K E Q c d t M N A B E₀ small same words) r (is ∙ ap (antilog p) word) normal)

neg-minus : (a b : ℕ) → neg_ℤ (minus a b) ≡ minus b a
neg-minus a b =
    by_sign (λ z. neg_ℤ z ≡ minus b a) a b
    (λ h. opposite (a - b) ∙ minus-same 0 (a - b) b a (omega arith))
    (λ h. ap pos (omega arith) ∙ sym (minus-above b a (omega arith)))

-- the words of a positive double, and their range
module _ (p m : ℕ) (e : ℤ) (most : p ≤ 60) (double : T (fits binary64 (fin false (suc m) e))) where
  abbrev x : Float
  x = fin false (suc m) e

  near : NearLog p (units_of x) (log_word p x)
  near = near_log p m e most double

  scaled : num x ^ 2 ^ p * 2 ^ (1074 * 2 ^ p) ≡ units_of x ^ 2 ^ p * den x ^ 2 ^ p
  scaled = sym (pow-scaled (num x) 1074 (2 ^ p)) ∙ ap (λ (n : ℕ). n ^ 2 ^ p) (units-exact false (suc m) e double) ∙ pow-product (units_of x) (den x) (2 ^ p)

  words : Words (2 ^ p) near.biased (1074 * 2 ^ p) (num x) (den x)
  words =
      let K : ℕ = 2 ^ p in
      record {
        low = le_trans (le_of_eq (mul_comm (den x ^ K) (2 ^ near.biased))) (le_trans (mul-le-mul_right (den x ^ K) near.below) (le_trans (le_of_eq (sym scaled)) (mul-le-mul_left (num x ^ K) (pow_mono (le-add_right (1074 * K) 2)))));
        high = le_trans (le_of_eq scaled) (le_trans (mul-le-mul_right (den x ^ K) (le_of_lt near.above)) (le_of_eq (mul_comm (2 ^ (near.biased + 2)) (den x ^ K))));
      }

  range : near.biased ≤ 2098 * 2 ^ p
  range =
      le_of_lt (lt-of-exponents near.biased (2098 * 2 ^ p) (lt_of_le_of_lt near.below (lt_of_lt_of_le (pow-lt-pow_left (units-below false m e double) (ne_of_gt (pow_pos p))) (le_of_eq (pow-power 2 2098 (2 ^ p))))))

power-of-sign : (p Q M m : ℕ) (e : ℤ) → 20 ≤ p → p ≤ 60 → Q ≤ 36 → M ≤ Q * 2 ^ 58 → T (fits binary64 (fin false (suc m) e)) → (negative : Bool)
    → Normal (antilog p (floor_div (log_word p (fin false (suc m) e) *ℤ signed negative M) (2 ^ 58)))
    → InBounds (2 ^ (p - 53) + (3 + 2 * Q)) p (antilog p (floor_div (log_word p (fin false (suc m) e) *ℤ signed negative M) (2 ^ 58))) (2 ^ 58) (raised (record { negative = negative; magnitude = M }) (exact_value (fin false (suc m) e)))
power-of-sign p Q M m e least most few small double false normal =
    let b : NearLog p (units_of (fin false (suc m) e)) (log_word p (fin false (suc m) e)) = near p m e most double in
    let is : log_word p (fin false (suc m) e) *ℤ pos M ≡ minus b.biased (1074 * 2 ^ p) *ℤ pos M = ap (λ (z : ℤ). z *ℤ pos M) b.word in
    raised-within p Q M (2 ^ 58) least most few (lit< tt) small b.biased (1074 * 2 ^ p) (num (fin false (suc m) e)) (den (fin false (suc m) e)) (mul-le-mul_right (2 ^ p) (lit≤ tt)) (down_pos e) (words p m e most double)
    (antilog p (floor_div (log_word p (fin false (suc m) e) *ℤ pos M) (2 ^ 58))) (ap (λ (z : ℤ). antilog p (floor_div z (2 ^ 58))) is) normal
power-of-sign p Q M m e least most few small double true normal =
    let L : ℤ = log_word p (fin false (suc m) e) in
    let b : NearLog p (units_of (fin false (suc m) e)) L = near p m e most double in
    let w : Words (2 ^ p) b.biased (1074 * 2 ^ p) (num (fin false (suc m) e)) (den (fin false (suc m) e)) = words p m e most double in
    let is : L *ℤ neg_ℤ (pos M) ≡ minus (1074 * 2 ^ p) b.biased *ℤ pos M = neg-times L M ∙ sym (neg_left L M) ∙ ap (λ (z : ℤ). z *ℤ pos M) (ap neg_ℤ b.word ∙ neg-minus b.biased (1074 * 2 ^ p)) in
    raised-within p Q M (2 ^ 58) least most few (lit< tt) small (1074 * 2 ^ p) b.biased (den (fin false (suc m) e)) (num (fin false (suc m) e)) (range p m e most double) (mul-pos (zero-lt-suc m) (up_pos e)) (record { low = w.high; high = w.low })
    (antilog p (floor_div (L *ℤ neg_ℤ (pos M)) (2 ^ 58))) (ap (λ (z : ℤ). antilog p (floor_div z (2 ^ 58))) is) normal

pub power-within : (p Q : ℕ) (q : Exponent) → 20 ≤ p → p ≤ 60 → Q ≤ 36 → q.magnitude ≤ Q * 2 ^ 58 → (x : Float) → T (fits binary64 x) → T (positive x) → Normal (power p q x)
    → InBounds (2 ^ (p - 53) + (3 + 2 * Q)) p (power p q x) (2 ^ 58) (raised q (exact_value x))
unfolding power
power-within p Q q least most few small nan t s normal = absurd s
power-within p Q q least most few small (inf b) t s normal = absurd s
power-within p Q q least most few small (fin true m e) t s normal = absurd s
power-within p Q q least most few small (fin false zero e) t s normal = absurd s
power-within p Q q least most few small (fin false (suc m) e) t s normal = power-of-sign p Q q.magnitude m e least most few small t q.negative normal

-- for each exponent of the table
below_36 : (i : ℕ) → i < 27 → (exponent_at i).magnitude < 36 * 2 ^ 58
unfolding exponents
below_36 i h = ltb→lt (exponent_at i).magnitude (36 * 2 ^ 58) (at 27 (λ k. ltb (exponent_at k).magnitude (36 * 2 ^ 58)) tt i h)

-- For each exponent q of the table and each positive finite x whose answer is a normal double: x ^ q is the answer but for half a unit in a double's last
-- place, which is 2 ^ (places - 53) units of 2 ^ -places and at most one below 53 places, and for 5 units, and two more for each whole unit of q.
abbrev pub PowerNear : ℕ → Type 0
PowerNear places =
    (i : ℕ) → i < 27 → (x : Float) → T (fits binary64 x) → T (positive x) → Normal (power_at places i x)
    → InBounds (2 ^ (places - 53) + 5 + 2 * ((exponent_at i).magnitude / 2 ^ 58)) places (power_at places i x) (2 ^ 58) (raised (exponent_at i) (exact_value x))

pub power-near : (p : ℕ) → 20 ≤ p → p ≤ 60 → PowerNear p
unfolding power_at
power-near p least most i h x double some normal =
    let M : ℕ = (exponent_at i).magnitude in
    let f : ℕ = M / 2 ^ 58 in
    let listed : power_at p i x ≡ power p (exponent_at i) x = ap (λ (b : Bool). cond b (power p (exponent_at i) x) nan) (is_true (ltb i 27) (lt→ltb i 27 h)) in
    let above : M < f * 2 ^ 58 + 2 ^ 58 = lt-div-mul-add (lit< tt) in
    let few : f < 36 = (div-lt_iff_lt-mul (lit< tt)).1 (below_36 i h) in
    let units : 2 ^ (p - 53) + (3 + 2 * (f + 1)) ≡ 2 ^ (p - 53) + 5 + 2 * f = omega arith in
    subst (λ (u : ℕ). InBounds u p (power_at p i x) (2 ^ 58) (raised (exponent_at i) (exact_value x))) units
    (subst (λ (r : Float). InBounds (2 ^ (p - 53) + (3 + 2 * (f + 1))) p r (2 ^ 58) (raised (exponent_at i) (exact_value x))) (sym listed)
    (power-within p (f + 1) (exponent_at i) least most (omega arith) (omega arith) x double some (subst Normal listed normal)))
