-- Powers of bases that lie apart lie apart: of two bases from 1/2 to 2 of which the greater is 1 + 2^-18 times the smaller or more, and with an exponent
-- from 5 to 5.5, the powers have two neighbouring multiples of 2^-25 between them. No error of the power is worked out. Assumes nothing.
use Rattle.arithmetic.proofs.Kit.{◌≡◌, sym, ap, ◌∙◌, subst, ℕ, suc, ◌+◌, ◌-◌, ◌*◌, ◌/◌, ◌%◌, ◌^◌, ◌≤◌, ◌<◌, le_trans, le_of_eq, lt_of_lt_of_le, lt_of_le_of_lt, lt-suc_self, add-mul, suc-mul, mul_assoc, mul_comm, mul_left_comm, mul_right_comm, mul-le-mul, mul-le-mul_left, mul-le-mul_right, mul-lt-mul_of_pos_right, lt_of_mul-lt-mul_right, one-le-pow, pow-le-pow_left, mod-lt, div-add-mod', le-div_iff_mul-le, div-lt_iff_lt-mul, div-mul-le_self, arith, false, ℤ, pos, ◌*ℤ◌, T, lit<, pow_pos, pow-lt, pow_mono, pow-add, fin, binary64, round, minus, fits}
use Rattle.arithmetic.specs.Whole.{floor_div}
use Rattle.arithmetic.specs.Nearest.{units_of}
use Rattle.antilog.specs.Log.{log_word}
use Rattle.antilog.specs.Antilog.{antilog_root, antilog}
use Rattle.elementary.specs.Exponents.{Exponent}
use Rattle.elementary.specs.Power.{power}
use Rattle.arithmetic.proofs.Powers.{pow-product, pow-power, pow-scaled, two-each-le-next, next-le-two-each, lt-of-powers, lt-of-exponents}
use Rattle.antilog.proofs.Range.{antilog_root-mantissa}
use Rattle.antilog.proofs.Distance.{antilog_root-below, antilog_root-above, NearLog, near_log}
use Rattle.arithmetic.proofs.Differences.{minus-same, minus-times, floor_minus}
use Rattle.antilog.proofs.OneFraction.{scaled_root, antilog-minus}
use Rattle.arithmetic.proofs.Between.{Parted, round-parted}

-- ---- the words: Y is 1 + 1 / n times X or more, and both are raised to the power n * D
words-apart : (n D X Y b c : ℕ) → 0 < n → X * suc n ≤ Y * n → 2 ^ b ≤ X ^ (n * D) → Y ^ (n * D) < 2 ^ (c + 2) → b + D < c + 2
words-apart n D X Y b c some apart below above =
    let K : ℕ = n * D in
    lt-of-exponents (b + D) (c + 2)
    (lt_of_mul-lt-mul_right (n ^ K)
    (lt_of_le_of_lt
    (le_trans (le_of_eq (ap (λ (x : ℕ). x * n ^ K) (pow-add 2 b D) ∙ mul_assoc (2 ^ b) (2 ^ D) (n ^ K) ∙ ap (λ (x : ℕ). 2 ^ b * x) (mul_comm (2 ^ D) (n ^ K))))
    (le_trans (mul-le-mul below (two-each-le-next n D some))
    (le_trans (le_of_eq (sym (pow-product X (suc n) K))) (le_trans (pow-le-pow_left apart K) (le_of_eq (pow-product Y n K))))))
    (mul-lt-mul_of_pos_right above (one-le-pow K n some))))

-- ---- the antilogs: 2^62 times 2 to the power a / 2 ^ p is at least the scaled root, and less than that of the root plus 4
pub root_below : (p a : ℕ) → scaled_root p a ^ 2 ^ p ≤ 2 ^ (62 * 2 ^ p + a)
root_below p a =
    let K : ℕ = 2 ^ p in
    let whole : 62 * K + a % K + a / K * K ≡ 62 * K + a = omega (arith, div-add-mod' a K) in
    le_trans (le_of_eq (pow-scaled (antilog_root p (a % K)) (a / K) K))
    (le_trans (mul-le-mul_right (2 ^ (a / K * K)) (antilog_root-below p (a % K) (mod-lt a (pow_pos p))))
    (le_of_eq (sym (pow-add 2 (62 * K + a % K) (a / K * K)) ∙ ap (λ (x : ℕ). 2 ^ x) whole)))

pub root-above : (p a : ℕ) → 2 ^ (62 * 2 ^ p + a) < ((antilog_root p (a % 2 ^ p) + 4) * 2 ^ (a / 2 ^ p)) ^ 2 ^ p
root-above p a =
    let K : ℕ = 2 ^ p in
    let whole : 62 * K + a % K + a / K * K ≡ 62 * K + a = omega (arith, div-add-mod' a K) in
    lt_of_le_of_lt (le_of_eq (ap (λ (x : ℕ). 2 ^ x) (sym whole) ∙ pow-add 2 (62 * K + a % K) (a / K * K)))
    (lt_of_lt_of_le (mul-lt-mul_of_pos_right (antilog_root-above p (a % K) (mod-lt a (pow_pos p))) (pow_pos (a / K * K)))
    (le_of_eq (sym (pow-scaled (antilog_root p (a % K) + 4) (a / K) K))))

-- b is D more than a, and 2 ^ p = k * D; 2 to the power 1 / k is at least 1 + 1 / n
antilogs_apart : (p n k D a b : ℕ) → 2 ^ p ≡ k * D → 0 < n → 2 * k ≤ n → a + D ≤ b
    → scaled_root p a * suc n < (antilog_root p (b % 2 ^ p) + 4) * 2 ^ (b / 2 ^ p) * n
antilogs_apart p n k D a b parts some half apart =
    let K : ℕ = 2 ^ p in
    let next : suc n ^ K ≤ n ^ K * 2 ^ D = subst (λ (x : ℕ). suc n ^ x ≤ n ^ x * 2 ^ D) (sym parts) (next-le-two-each n k D some half) in
    let upper : ℕ = (antilog_root p (b % K) + 4) * 2 ^ (b / K) in
    lt-of-powers (scaled_root p a * suc n) (upper * n) K
    (lt_of_le_of_lt
    (le_trans (le_of_eq (pow-product (scaled_root p a) (suc n) K))
    (le_trans (mul-le-mul (root_below p a) next)
    (le_trans (le_of_eq (ap (λ (x : ℕ). 2 ^ (62 * K + a) * x) (mul_comm (n ^ K) (2 ^ D)) ∙ sym (mul_assoc (2 ^ (62 * K + a)) (2 ^ D) (n ^ K)) ∙ ap (λ (x : ℕ). x * n ^ K) (sym (pow-add 2 (62 * K + a) D))))
    (mul-le-mul_right (n ^ K) (pow_mono {i = 62 * K + a + D} {j = 62 * K + b} (omega arith))))))
    (lt_of_lt_of_le (mul-lt-mul_of_pos_right (root-above p b) (one-le-pow K n some)) (le_of_eq (sym (pow-product upper n K)))))

-- a root that stands for 2^-6 at least, in units of 2^-74
root-least : (p a : ℕ) → 6 * 2 ^ p ≤ a → 2 ^ 68 ≤ scaled_root p a
root-least p a h =
    mul-le-mul (antilog_root-mantissa p (a % 2 ^ p) (mod-lt a (pow_pos p))).low (pow_mono {i = 6} ((le-div_iff_mul-le (pow_pos p)).1 h))

-- Two that lie apart, up to 2^7, have 2 / 2^25 between them. The four units by which a root may be too small are too few to matter.
roots-gap : (p D a b : ℕ) → 2 ^ p ≡ 2 ^ 16 * D → a + D ≤ b → 6 * 2 ^ p ≤ a → b < 19 * 2 ^ p → (scaled_root p a + 2 ^ 50 ≤ scaled_root p b) × (scaled_root p b < 2 ^ 81)
roots-gap p D a b parts apart least most =
    let Y : ℕ = antilog_root p (b % 2 ^ p) in
    let W : ℕ = 2 ^ (b / 2 ^ p) in
    let few : b / 2 ^ p < 19 = (div-lt_iff_lt-mul (pow_pos p)).1 most in
    let small : W ≤ 2 ^ 18 = pow_mono {j = 18} (omega arith) in
    let top : Y * W < 2 ^ 63 * 2 ^ 18 = lt_of_lt_of_le (mul-lt-mul_of_pos_right (antilog_root-mantissa p (b % 2 ^ p) (mod-lt b (pow_pos p))).high (pow_pos (b / 2 ^ p))) (mul-le-mul_left (2 ^ 63) small) in
    let gap : scaled_root p a * suc (2 ^ 17) < (Y + 4) * W * 2 ^ 17 = antilogs_apart p (2 ^ 17) (2 ^ 16) D a b parts (lit< tt) (omega arith) apart in
    let four : (Y + 4) * W ≡ Y * W + 4 * W = add-mul Y 4 W in
    (omega (arith, root-least p a least), omega arith)

-- ---- the floors between them
-- an exponent from 5 to 5.5, times 2^58
pub record Moderate (M : ℕ) : Type 0 where
  pub least : 5 * 2 ^ 58 ≤ M
  pub most : M ≤ 11 * 2 ^ 57

-- c is the word L counted from -2 * K, and the floor is counted from -12 * K: what the one count has more than the other, for each K
rest : ℕ → ℕ
rest M = 12 * 2 ^ 58 - 2 * M

floored : ℕ → ℕ → ℕ → ℕ
floored M K c = (c * M + rest M * K) / 2 ^ 58

module _ (M K : ℕ) (moderate : Moderate M) where
  sums : rest M * K + 2 * K * M ≡ 12 * K * 2 ^ 58
  unfolding rest
  sums =
      let parts : (rest M + 2 * M) * K ≡ rest M * K + 2 * M * K = add-mul (rest M) (2 * M) K in
      let all : (rest M + 2 * M) * K ≡ 12 * 2 ^ 58 * K = ap (λ (x : ℕ). x * K) (omega arith) in
      let turned : 2 * K * M ≡ 2 * M * K = mul_right_comm 2 K M in
      omega arith

  floored-is : (b : ℕ) → 1072 * K ≤ b → floor_div (minus b (1074 * K) *ℤ pos M) (2 ^ 58) ≡ minus (floored M K (b - 1072 * K)) (12 * K)
  unfolding floored
  floored-is b h =
      let c : ℕ = b - 1072 * K in
      ap (λ (z : ℤ). floor_div (z *ℤ pos M) (2 ^ 58)) (minus-same b (1074 * K) c (2 * K) (omega arith))
      ∙ ap (λ (z : ℤ). floor_div z (2 ^ 58)) (minus-times c (2 * K) M ∙ minus-same (c * M) (2 * K * M) (c * M + rest M * K) (12 * K * 2 ^ 58) (omega (arith, sums)))
      ∙ floor_minus (c * M + rest M * K) (12 * K) (2 ^ 58) (lit< tt)

  small : 2 * K * M ≤ 2 * K * (11 * 2 ^ 57)
  small = mul-le-mul_left (2 * K) moderate.most

  floored-least : (c : ℕ) → K ≤ suc c → 11 ≤ K → 6 * K ≤ floored M K c
  unfolding floored
  floored-least c h some =
      let product : 2 * K * M ≤ 2 * (c * M + M) = le_trans (le_of_eq (mul_assoc 2 K M)) (mul-le-mul_left 2 (le_trans (mul-le-mul_right M h) (le_of_eq (suc-mul c M)))) in
      (le-div_iff_mul-le (lit< tt)).1 (omega (arith, sums, small))

  floored-most : (c : ℕ) → c ≤ 3 * K → 0 < K → floored M K c < 19 * K
  unfolding floored
  floored-most c h some =
      let product : 2 * (c * M) ≤ 3 * (2 * K * M) = le_trans (mul-le-mul_left 2 (mul-le-mul_right M h)) (le_of_eq (simp (mul_assoc, mul_left_comm))) in
      (div-lt_iff_lt-mul (lit< tt)).1 (omega (arith, sums, small))

  floored-apart : (D c d : ℕ) → c + D ≤ d → 4 ≤ D → floored M K c + 4 * suc D ≤ floored M K d
  unfolding floored
  floored-apart D c d h some =
      let products : c * M + D * M ≤ d * M = le_trans (le_of_eq (sym (add-mul c D M))) (mul-le-mul_right M h) in
      let large : D * (5 * 2 ^ 58) ≤ D * M = mul-le-mul_left D moderate.least in
      let below : floored M K c * 2 ^ 58 ≤ c * M + rest M * K = div-mul-le_self (c * M + rest M * K) (2 ^ 58) in
      (le-div_iff_mul-le (lit< tt)).1 (omega arith)

-- ---- the powers
abbrev pub positive_exponent : ℕ → Exponent
positive_exponent M = record { negative = false; magnitude = M }

module _ (p M : ℕ) (moderate : Moderate M) where
  power-is : (m : ℕ) (e : ℤ) (b : ℕ) → log_word p (fin false (suc m) e) ≡ minus b (1074 * 2 ^ p) → 1072 * 2 ^ p ≤ b
      → power p (positive_exponent M) (fin false (suc m) e) ≡ round binary64 false (scaled_root p (floored M (2 ^ p) (b - 1072 * 2 ^ p))) (2 ^ 74)
  unfolding power
  power-is m e b word h =
      ap (λ (z : ℤ). antilog p (floor_div (z *ℤ pos M) (2 ^ 58))) word
      ∙ ap (antilog p) (floored-is M (2 ^ p) moderate b h)
      ∙ antilog-minus p (floored M (2 ^ p) (b - 1072 * 2 ^ p)) 12

  pub powers-parted : 52 ≤ p → p ≤ 60 → (m n : ℕ) (e d : ℤ) → T (fits binary64 (fin false (suc m) e)) → T (fits binary64 (fin false (suc n) d))
      → 2 ^ 1073 ≤ units_of (fin false (suc m) e) → units_of (fin false (suc n) d) ≤ 2 ^ 1075 → units_of (fin false (suc m) e) * suc (2 ^ 18) ≤ units_of (fin false (suc n) d) * 2 ^ 18
      → Parted 25 (2 ^ 32) (power p (positive_exponent M) (fin false (suc m) e)) (power p (positive_exponent M) (fin false (suc n) d))
  powers-parted least most m n e d f g low high apart =
      let K : ℕ = 2 ^ p in
      let D : ℕ = 2 ^ (p - 18) in
      let X : ℕ = units_of (fin false (suc m) e) in
      let Y : ℕ = units_of (fin false (suc n) d) in
      let large : 2 ^ 34 ≤ D = pow_mono {i = 34} (omega arith) in
      let parts : K ≡ 2 ^ 18 * D = ap (λ (x : ℕ). 2 ^ x) (omega arith) ∙ pow-add 2 18 (p - 18) in
      let x : NearLog p X (log_word p (fin false (suc m) e)) = near_log p m e most f in
      let y : NearLog p Y (log_word p (fin false (suc n) d)) = near_log p n d most g in
      let b : ℕ = x.biased in
      let c : ℕ = y.biased in
      let words : b + D < c + 2 = words-apart (2 ^ 18) D X Y b c (lit< tt) apart (subst (λ (k : ℕ). 2 ^ b ≤ X ^ k) parts x.below) (subst (λ (k : ℕ). Y ^ k < 2 ^ (c + 2)) parts y.above) in
      let bottom : 1073 * K < b + 2 = lt-of-exponents (1073 * K) (b + 2) (lt_of_le_of_lt (le_of_eq (sym (pow-power 2 1073 K))) (lt_of_le_of_lt (pow-le-pow_left low K) x.above)) in
      let top : c < suc (1075 * K) = lt-of-exponents c (suc (1075 * K)) (lt_of_le_of_lt y.below (lt_of_le_of_lt (pow-le-pow_left high K) (lt_of_le_of_lt (le_of_eq (pow-power 2 1075 K)) (pow-lt (lt-suc_self (1075 * K)))))) in
      let a : ℕ = floored M K (b - 1072 * K) in
      let a' : ℕ = floored M K (c - 1072 * K) in
      let steps : a + 4 * suc (D - 1) ≤ a' = floored-apart M K moderate (D - 1) (b - 1072 * K) (c - 1072 * K) (omega arith) (omega arith) in
      let gap : (scaled_root p a + 2 ^ 50 ≤ scaled_root p a') × (scaled_root p a' < 2 ^ 81) = roots-gap p (4 * D) a a' (omega arith) (omega arith) (floored-least M K moderate (b - 1072 * K) (omega arith) (omega arith)) (floored-most M K moderate (c - 1072 * K) (omega arith) (pow_pos p)) in
      rw (power-is m e b x.word (omega arith), power-is n d c y.word (omega arith)) (round-parted 25 49 (2 ^ 32) (scaled_root p a) (scaled_root p a') gap.0 (omega (arith, gap.1)))
