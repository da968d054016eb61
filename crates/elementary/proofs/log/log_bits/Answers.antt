-- The loop of `elementary::log::log_bits`: a square's highest digit is the next bit. Assumes nothing.
use Rattle.arithmetic.proofs.Kit.{◌≡◌, refl, sym, ap, ◌∙◌, subst, ℕ, zero, suc, ◌+◌, ◌*◌, ◌/◌, ◌^◌, ◌<◌, le_trans, le_of_eq, add-zero, mul-one, add-mul, add_assoc, mul_assoc, mul-le-mul_right, div-one, pow-succ', arith}
use Rattle.antilog.specs.Log.{squared, bit_of, normalised, log_bits}
use Rattle.arithmetic.specs.Places.{places}
use Rattle.antilog.proofs.Range.{bit-cases, bit_le, squared-lt, next-mantissa}
use Rattle.elementary.proofs.log.log_bits.Invariants.{Found}
use Rattle.elementary.proofs.log.log_bits.Goals as goal

-- a square below 2^64 has its bit as its highest digit, and moves down by as many places
highest_digit : (Q : ℕ) → Q < 2 ^ 64 → (Q / 2 ^ 63 ≡ bit_of Q) × (Q / 2 ^ (Q / 2 ^ 63) ≡ normalised Q)
highest_digit Q h =
    bit-cases (λ t N. (Q / 2 ^ 63 ≡ t) × (Q / 2 ^ (Q / 2 ^ 63) ≡ N)) Q
    (λ off. let e : Q / 2 ^ 63 ≡ 0 = omega arith in (e, ap (λ (x : ℕ). Q / 2 ^ x) e ∙ div-one Q))
    (λ on. let e : Q / 2 ^ 63 ≡ 1 = omega arith in (e, ap (λ (x : ℕ). Q / 2 ^ x) e))

double : (b t x : ℕ) → (b * 2 + t) * x ≡ b * (2 * x) + t * x
double b t x = add-mul (b * 2) t x ∙ ap (λ (y : ℕ). y + t * x) (mul_assoc b 2 x)

one_place : (m mantissa bits left : ℕ) → Found m mantissa bits (suc left) → let Q = squared mantissa in Found m (normalised Q) (bits * 2 + bit_of Q) left
unfolding log_bits
one_place m mantissa bits left found =
    let Q = squared mantissa in
    record {
      is_mantissa = next-mantissa found.is_mantissa;
      short = le_trans (mul-le-mul_right (2 ^ left) (omega (arith, bit_le Q))) (le_trans (le_of_eq (mul_assoc (bits + 1) 2 (2 ^ left) ∙ ap (λ (x : ℕ). (bits + 1) * x) (sym (pow-succ' 2 left)))) found.short);
      followed = ap (λ (x : ℕ). x + log_bits left (normalised Q)) (double bits (bit_of Q) (2 ^ left) ∙ ap (λ (x : ℕ). bits * x + bit_of Q * 2 ^ left) (sym (pow-succ' 2 left))) ∙ add_assoc (bits * 2 ^ suc left) (bit_of Q * 2 ^ left) (log_bits left (normalised Q)) ∙ found.followed;
    }

-- the same of what the loop's body computes
turn : (m mantissa bits left more Q : ℕ) → left ≡ suc more → Q ≡ squared mantissa → Found m mantissa bits left → Found m (Q / 2 ^ (Q / 2 ^ 63)) (bits * 2 + Q / 2 ^ 63) more
turn m mantissa bits left more Q one is found =
    let found' = subst (Found m mantissa bits) one found in
    let h = highest_digit Q (subst (λ (x : ℕ). x < 2 ^ 64) (sym is) (squared-lt found.is_mantissa)) in
    rw (h.1, h.0, is) (one_place m mantissa bits more found')

no_places : (M : ℕ) → log_bits zero M ≡ 0
unfolding log_bits
no_places M = refl

all_places : (m mantissa bits left : ℕ) → left ≡ 0 → Found m mantissa bits left → bits ≡ log_bits places m
all_places m mantissa bits left none found =
    let found' = subst (Found m mantissa bits) none found in
    sym (ap (λ (x : ℕ). bits * 1 + x) (no_places mantissa) ∙ add-zero (bits * 1) ∙ mul-one bits) ∙ found'.followed

pub loop-preserved : goal.loop-preserved
loop-preserved c = turn _ _ _ _ _ c.squared-square.result (omega arith) c.squared-square.ensures c.loop.invariant

pub returns : goal.returns
returns c = all_places _ _ _ _ (omega arith) c.loop.invariant
