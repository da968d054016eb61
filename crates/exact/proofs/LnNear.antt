-- How far ln lies from the true value, up to 60 places: two units of the logarithm and the floor of a product come to less than three. Assumes nothing.
use Rattle.exact.proofs.Kit.{◌≡◌, refl, sym, ap, ◌∙◌, subst, true, false, ℕ, zero, suc, ◌+◌, ◌-◌, ◌*◌, ◌/◌, ◌^◌, ◌≤◌, ◌<◌, le_trans, le_of_eq, lt_of_lt_of_le, ne_of_gt, one-mul, mul-one, mul_comm, mul-pos, mul-le-mul_left, mul-le-mul_right, mul-lt-mul_of_pos_right, lt_of_mul-lt-mul_right, one-le-pow, pow-le-pow_left, pow-lt-pow_left, div-mul-le_self, lt-div-mul-add, arith, ℤ, pos, negsuc, neg_ℤ, ◌+ℤ◌, ◌*ℤ◌, T, lit<, pow_pos, pow_mono, pow-add, Float, nan, inf, fin, binary64, up, down, minus, fits, down_pos, num, den, positive, first_pos, through, floor_div, units_of, log_word, log2e, ln2, ln, Fraction, ◌is_at_most◌, ◌is_below◌, ◌to_the◌, two_to_the, exact_value, e_below, e_above, at_least, at_most, LnWithin, pow-power, pow-scaled, units-exact, minus-same, minus_plus, minus-times, floor_minus, NearLog, near_log}
use Rattle.antilog.proofs.HowNear.{two-at_most, below_two}
use Rattle.exact.proofs.EulerNear.{ln2-word}

-- The word b - t * K times the factor C / B, of less than 1, floored: f - t * K * C, where f is a floor of natural numbers
module _ (K B C t b X : ℕ) (B₀ : 0 < B) (C₀ : 0 < C) (proper : C ≤ B) (low : 2 ^ b ≤ X ^ K) (high : X ^ K < 2 ^ (b + 2)) where
  abbrev k : ℕ
  k = K * C

  abbrev N : ℕ
  N = b * C + t * k * B - t * k

  abbrev f : ℕ
  f = N / B

  whole : N + t * k ≡ b * C + t * k * B
  whole = omega (arith, mul-le-mul_left (t * k) B₀)

  floored : floor_div (minus b (t * K) *ℤ pos C) B ≡ minus f (t * k)
  floored =
      let product : t * K * C ≡ t * k = omega arith in
      ap (λ (z : ℤ). floor_div z B) (minus-times b (t * K) C ∙ minus-same (b * C) (t * K * C) N (t * k * B) (omega (arith, whole))) ∙ floor_minus N (t * k) B B₀

  floor_low : 2 ^ (f * B + t * k) ≤ X ^ k * 2 ^ (t * k * B)
  floor_low =
      le_trans (pow_mono {i = f * B + t * k} {j = b * C + t * k * B} (omega (arith, whole, div-mul-le_self N B)))
      (le_trans (le_of_eq (pow-add 2 (b * C) (t * k * B)))
      (mul-le-mul_right (2 ^ (t * k * B)) (le_trans (le_of_eq (sym (pow-power 2 b C))) (le_trans (pow-le-pow_left low C) (le_of_eq (pow-power X K C))))))

  floor_high : X ^ k * 2 ^ (t * k * B) < 2 ^ ((f + 3) * B + t * k)
  floor_high =
      let above : N < f * B + B = lt-div-mul-add B₀ in
      let raised : X ^ k < 2 ^ ((b + 2) * C) = lt_of_lt_of_le (subst (λ (n : ℕ). n < (2 ^ (b + 2)) ^ C) (pow-power X K C) (pow-lt-pow_left high (ne_of_gt C₀))) (le_of_eq (pow-power 2 (b + 2) C)) in
      lt_of_lt_of_le (mul-lt-mul_of_pos_right raised (pow_pos (t * k * B)))
      (le_trans (le_of_eq (sym (pow-add 2 ((b + 2) * C) (t * k * B)))) (pow_mono {i = (b + 2) * C + t * k * B} {j = (f + 3) * B + t * k} (omega (arith, whole))))

-- ---- b to the D is at most 2 to the B, and b to the D + 1 at least: for their powers, and for negative ones
multiplied : (a n e : ℕ) → a ^ (n * e) ≡ (a ^ e) ^ n
multiplied a n e = ap (λ (x : ℕ). a ^ x) (mul_comm n e) ∙ sym (pow-power a e n)

raise-most : (u v e B n : ℕ) → u ^ e ≤ v ^ e * 2 ^ B → u ^ (n * e) ≤ v ^ (n * e) * 2 ^ (n * B)
raise-most u v e B n h = rw (multiplied u n e, multiplied v n e, mul_comm n B, ← pow-scaled (v ^ e) B n) (pow-le-pow_left h n)

raise-least : (u v e B n : ℕ) → v ^ e * 2 ^ B ≤ u ^ e → v ^ (n * e) * 2 ^ (n * B) ≤ u ^ (n * e)
raise-least u v e B n h = rw (multiplied u n e, multiplied v n e, mul_comm n B, ← pow-scaled (v ^ e) B n) (pow-le-pow_left h n)

inverse-two : (k : ℕ) → (up (neg_ℤ (pos k)) ≡ 1) × (down (neg_ℤ (pos k)) ≡ 2 ^ k)
inverse-two zero = (refl, refl)
inverse-two (suc k) = (refl, refl)

module _ (B D : ℕ) (b : Fraction) (over₀ : 0 < b.over) (under₀ : 0 < b.under) (most : b.over ^ D ≤ b.under ^ D * 2 ^ B) (least : b.under ^ (D + 1) * 2 ^ B ≤ b.over ^ (D + 1)) where
  base-below : (F : ℤ) → at_least D b F is_at_most two_to_the (F *ℤ pos B)
  base-below (pos n) = le_trans (le_of_eq (mul-one (b.over ^ (n * D)))) (le_trans (raise-most b.over b.under D B n most) (le_of_eq (mul_comm (b.under ^ (n * D)) (2 ^ (n * B)))))
  base-below (negsuc n) =
      rw ((inverse-two (suc n * B)).0, (inverse-two (suc n * B)).1) (le_trans (raise-least b.over b.under (D + 1) B (suc n) least) (le_of_eq (sym (one-mul (b.over ^ (suc n * (D + 1)))))))

  base_above : (F : ℤ) → two_to_the (F *ℤ pos B) is_at_most at_most D b F
  base_above (pos n) = le_trans (le_of_eq (mul_comm (2 ^ (n * B)) (b.under ^ (n * (D + 1))))) (le_trans (raise-least b.over b.under (D + 1) B n least) (le_of_eq (sym (mul-one (b.over ^ (n * (D + 1)))))))
  base_above (negsuc n) =
      rw ((inverse-two (suc n * B)).0, (inverse-two (suc n * B)).1) (le_trans (le_of_eq (one-mul (b.over ^ (suc n * D)))) (raise-most b.over b.under D B (suc n) most))

  above_pos : (F : ℤ) → 0 < (at_most D b F).under
  above_pos (pos n) = one-le-pow (n * (D + 1)) b.under under₀
  above_pos (negsuc n) = one-le-pow (suc n * D) b.over over₀

strictly_through : (x y z p q r : ℕ) → 0 < r → x * q < y * p → y * r ≤ z * q → x * r < z * p
strictly_through x y z p q r r₀ less order =
    let first : x * q * r < y * p * r = mul-lt-mul_of_pos_right less r₀ in
    let second : y * r * p ≤ z * q * p = mul-le-mul_right p order in
    lt_of_mul-lt-mul_right q (omega arith)

-- ---- the two together; B and D are given by equations, so that no power of theirs is written out
module _ (p B D m : ℕ) (e : ℤ) (places : p ≤ 60) (power : B ≡ 2 ^ 62) (constant : D ≡ ln2) (b : Fraction) (under : 0 < b.under) (low : e_below is_at_most b) (high : b is_at_most e_above) (double : T (fits binary64 (fin false (suc m) e))) where
  abbrev x : Float
  x = fin false (suc m) e

  abbrev n : ℕ
  n = 2 ^ p * D

  over : 0 < b.over
  over = first_pos b.over e_below.under (lt_of_lt_of_le (mul-pos (lit< tt) under) low)

  near : NearLog p (units_of x) (log_word p x)
  near = near_log p m e places double

  B₀ : 0 < B
  B₀ = omega arith

  D₀ : 0 < D
  D₀ = omega arith

  proper : D ≤ B
  proper = omega arith

  abbrev a : ℕ
  a = f (2 ^ p) B D 1074 near.biased (units_of x) B₀ D₀ proper near.below near.above

  abbrev F : ℤ
  F = floor_div (log_word p x *ℤ pos D) B

  word : F ≡ minus a (1074 * n)
  word = ap (λ (z : ℤ). floor_div (z *ℤ pos D) B) near.word ∙ floored (2 ^ p) B D 1074 near.biased (units_of x) B₀ D₀ proper near.below near.above

  two-low : two_to_the (F *ℤ pos B) is_at_most (exact_value x to_the n)
  two-low =
      subst (λ (z : ℤ). two_to_the z is_at_most (exact_value x to_the n)) (sym (ap (λ (z : ℤ). z *ℤ pos B) word ∙ minus-times a (1074 * n) B))
      (two-at_most (num x) (den x) (units_of x) 1074 n (a * B) (1074 * n * B) (down_pos e) (units-exact false (suc m) e double) (floor_low (2 ^ p) B D 1074 near.biased (units_of x) B₀ D₀ proper near.below near.above))

  two-high : (exact_value x to_the n) is_below two_to_the ((F +ℤ pos 3) *ℤ pos B)
  two-high =
      subst (λ (z : ℤ). (exact_value x to_the n) is_below two_to_the z) (sym (ap (λ (z : ℤ). (z +ℤ pos 3) *ℤ pos B) word ∙ ap (λ (z : ℤ). z *ℤ pos B) (minus_plus a (1074 * n) 3) ∙ minus-times (a + 3) (1074 * n) B))
      (below_two (num x) (den x) (units_of x) 1074 n ((a + 3) * B) (1074 * n * B) (down_pos e) (units-exact false (suc m) e double) (floor_high (2 ^ p) B D 1074 near.biased (units_of x) B₀ D₀ proper near.below near.above))

  base : (b.over ^ D ≤ b.under ^ D * 2 ^ B) × (b.under ^ (D + 1) * 2 ^ B ≤ b.over ^ (D + 1))
  base = ln2-word B log2e D power refl constant b low high

  ln-low : at_least D b F is_at_most (exact_value x to_the n)
  ln-low = let y : Fraction = at_least D b F in let z : Fraction = two_to_the (F *ℤ pos B) in through y.over z.over (num x ^ n) y.under z.under (den x ^ n) (down_pos (F *ℤ pos B)) (base-below B D b over under base.0 base.1 F) two-low

  ln-high : (exact_value x to_the n) is_below at_most D b (F +ℤ pos 3)
  ln-high =
      let G : ℤ = F +ℤ pos 3 in
      let y : Fraction = at_most D b G in
      let z : Fraction = two_to_the (G *ℤ pos B) in
      strictly_through (num x ^ n) z.over y.over (den x ^ n) z.under y.under (above_pos B D b over under base.0 base.1 G) two-high (base_above B D b over under base.0 base.1 G)

abbrev pub LnNear : ℕ → Type 0
LnNear places =
    (b : Fraction) → 0 < b.under → e_below is_at_most b → b is_at_most e_above → (x : Float) → T (fits binary64 x) → T (positive x)
    → LnWithin places b x (floor_div (log_word places x *ℤ pos ln2) (2 ^ 62))

pub ln-near : (p : ℕ) → p ≤ 60 → LnNear p
unfolding ln
ln-near p most b under low high nan double some = absurd some
ln-near p most b under low high (inf s) double some = absurd some
ln-near p most b under low high (fin true m e) double some = absurd some
ln-near p most b under low high (fin false zero e) double some = absurd some
ln-near p most b under low high (fin false (suc m) e) double some =
    record { nearest = refl; low = ln-low p (2 ^ 62) ln2 m e most refl refl b under low high double; high = ln-high p (2 ^ 62) ln2 m e most refl refl b under low high double }
