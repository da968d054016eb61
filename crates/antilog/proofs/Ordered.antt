-- The log word and the antilog as a whole keep the order, over any number of places: a greater double never has a smaller word, and a greater word never
-- a smaller antilog, subnormals and infinity included. Assumes nothing.
use Rattle.arithmetic.proofs.Kit.{◌≡◌, sym, ap, subst, ◌⊎◌, inl, inr, ℕ, suc, ◌+◌, ◌-◌, ◌*◌, ◌/◌, ◌^◌, ◌≤◌, ◌<◌, suc-le-suc, le_trans, le_of_eq, eq-or-lt_of_le, mul_assoc, mul-le-mul_left, mul-le-mul_right, mul-le-mul, one-mul, pow-succ', mod-lt, not-le_of_lt, arith, Bool, true, false, not, cond, ℤ, pos, negsuc, ◌-ℤ◌, T, ltb, lt→ltb, ltb→lt, nltb→le, ◌≤ℤ◌, pow_pos, pow_mono, binary64, up, down, size, minus, le, down_pos, round_mono}
use lib.Signed.{◌<ℤ◌}
use Rattle.arithmetic.specs.Whole.{floor_div, floor_mod}
use Rattle.arithmetic.specs.Nearest.{nearest_scaled}
use Rattle.arithmetic.proofs.Rounding.{scaled_mono}
use Rattle.antilog.specs.Log.{mantissa_of, log_bits, word_of_units}
use Rattle.antilog.specs.Antilog.{antilog_root, antilog}
use Rattle.arithmetic.proofs.Integers.{le-of_pos, le-of_negsuc, div_mono, minus_mono}
use Rattle.antilog.proofs.Range.{Mantissa, antilog_root-mantissa}
use Rattle.antilog.proofs.Monotone.{units_mono, antilog_root_mono, remainder_mono}
use Rattle.antilog.proofs.LogDigits.{word-counted}

-- ---- the log word, counted from that of the smallest double
abbrev pub biased_word : ℕ → ℕ → ℕ
biased_word p n = (size n - 1) * 2 ^ p + log_bits p (mantissa_of n)

pub word-biased : (p n : ℕ) → word_of_units p n ≡ minus (biased_word p n) (1074 * 2 ^ p)
unfolding word_of_units
word-biased p n = word-counted p (size n - 1) (log_bits p (mantissa_of n))

pub word_of_units_mono : (p : ℕ) {m n : ℕ} → m ≤ n → word_of_units p m ≤ℤ word_of_units p n
word_of_units_mono p {m} {n} h = rw (word-biased p m, word-biased p n) (minus_mono (1074 * 2 ^ p) (units_mono p h))

-- ---- a floor and its remainder: the floors decide, and where they are the same, the remainders
floors : (d : ℕ) → 0 < d → {a b : ℤ} → a ≤ℤ b → ((floor_div a d ≡ floor_div b d) × (floor_mod a d ≤ floor_mod b d)) ⊎ (floor_div a d <ℤ floor_div b d)
floors d D {a = pos a} {b = pos b} h =
    elim (eq-or-lt_of_le (div_mono d D (le-of_pos h))) [ inl e ↦ inl (ap pos e, remainder_mono d (le-of_pos h) e) | inr l ↦ inr (record { lt = lt→ltb (a / d) (b / d) l }) ]
floors d D {a = pos a} {b = negsuc b} h = absurd h.le
floors d D {a = negsuc a} {b = pos b} h = inr (record { lt = tt })
floors d D {a = negsuc a} {b = negsuc b} h =
    elim (eq-or-lt_of_le (div_mono d D (le-of_negsuc h))) [ inl e ↦ inl (ap negsuc (sym e), omega (arith, remainder_mono d (le-of_negsuc h) e)) | inr l ↦ inr (record { lt = lt→ltb (b / d) (a / d) l }) ]

remainder-lt : (d : ℕ) → 0 < d → (a : ℤ) → floor_mod a d < d
remainder-lt d D (pos a) = mod-lt a D
remainder-lt d D (negsuc a) = omega arith

-- ---- 2 ^ (k - 62), one power of two more and one less
twice : {a b : ℤ} → a <ℤ b → 2 * up a * down b ≤ up b * down a
twice {a = pos a} {b = pos b} h = mul-le-mul_right 1 (le_trans (le_of_eq (sym (pow-succ' 2 a))) (pow_mono (ltb→lt a b h.lt)))
twice {a = pos a} {b = negsuc b} h = absurd h.lt
twice {a = negsuc a} {b = pos b} h = mul-le-mul (pow_pos b) (pow_mono {i = 1} {j = suc a} (omega arith))
twice {a = negsuc a} {b = negsuc b} h = le_trans (le_of_eq (sym (pow-succ' 2 (suc b)))) (le_trans (pow_mono (suc-le-suc (ltb→lt b a h.lt))) (le_of_eq (sym (one-mul (2 ^ suc a)))))

below_62 : {a b : ℤ} → a <ℤ b → (a -ℤ pos 62) <ℤ (b -ℤ pos 62)
below_62 {a = pos a} {b = pos b} h = go (ltb a 62) (ltb b 62) (nltb→le a 62) (ltb→lt b 62)
  where
    go : (x y : Bool) → (T (not x) → 62 ≤ a) → (T y → b < 62) → cond x (negsuc (62 - suc a)) (pos (a - 62)) <ℤ cond y (negsuc (62 - suc b)) (pos (b - 62))
    go true true f g = record { lt = lt→ltb (62 - suc b) (62 - suc a) (omega (arith, ltb→lt a b h.lt, g tt)) }
    go true false f g = record { lt = tt }
    go false true f g = absurd (not-le_of_lt (g tt) (le_trans (f tt) (omega (arith, ltb→lt a b h.lt))))
    go false false f g = record { lt = lt→ltb (a - 62) (b - 62) (omega (arith, ltb→lt a b h.lt, f tt)) }
below_62 {a = pos a} {b = negsuc b} h = absurd h.lt
below_62 {a = negsuc a} {b = pos b} h = go (ltb b 62)
  where
    go : (y : Bool) → negsuc (suc (a + 61)) <ℤ cond y (negsuc (62 - suc b)) (pos (b - 62))
    go true = record { lt = lt→ltb (62 - suc b) (suc (a + 61)) (omega arith) }
    go false = record { lt = tt }
below_62 {a = negsuc a} {b = negsuc b} h = record { lt = lt→ltb (suc (b + 61)) (suc (a + 61)) (omega (arith, ltb→lt b a h.lt)) }

-- ---- the antilog: the exponents decide, since Y is below 2^63 and twice Z is not
greater_scale : {Y Z : ℕ} {a b : ℤ} → Mantissa Y → Mantissa Z → a <ℤ b → T (le (nearest_scaled Y a) (nearest_scaled Z b))
greater_scale {Y} {Z} {a} {b} hY hZ h =
    let twice-more : Y ≤ Z * 2 = omega (arith, hY.high, hZ.low) in
    round_mono binary64 (Y * up a) (down a) (Z * up b) (down b) (down_pos a) (down_pos b)
    (le_trans (mul-le-mul_right (down b) (mul-le-mul_right (up a) twice-more))
    (le_trans (le_of_eq (simp mul_assoc)) (le_trans (mul-le-mul_left Z (twice h)) (le_of_eq (sym (mul_assoc Z (up b) (down a)))))))

pub antilog_mono : (p : ℕ) {P Q : ℤ} → P ≤ℤ Q → T (le (antilog p P) (antilog p Q))
unfolding antilog
antilog_mono p {P} {Q} h =
    let root : ℤ → ℕ = λ z. antilog_root p (floor_mod z (2 ^ p)) in
    let mantissa : (z : ℤ) → Mantissa (root z) = λ z. antilog_root-mantissa p (floor_mod z (2 ^ p)) (remainder-lt (2 ^ p) (pow_pos p) z) in
    elim (floors (2 ^ p) (pow_pos p) h) [
      | inl e ↦ subst (λ (k : ℤ). T (le (nearest_scaled (root P) (floor_div P (2 ^ p) -ℤ pos 62)) (nearest_scaled (root Q) (k -ℤ pos 62)))) e.0 (scaled_mono (floor_div P (2 ^ p) -ℤ pos 62) (antilog_root_mono p e.1))
      | inr l ↦ greater_scale (mantissa P) (mantissa Q) (below_62 l)
    ]
