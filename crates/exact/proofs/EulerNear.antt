-- e by its decimals, and the constants `log2e` and `ln2`: for a number b between the two decimals, 2^62 times the logarithm of b to the base 2 lies between
-- `log2e` and `log2e` + 1, and 2^62 times that of 2 to the base b between `ln2` and `ln2` + 1. Both are read off the log bits of b ^ 128. Assumes nothing.
use Rattle.exact.proofs.Kit.{◌≡◌, refl, sym, ap, ◌∙◌, ℕ, ◌+◌, ◌*◌, ◌^◌, ◌≤◌, ◌<◌, le_trans, le_of_eq, le_of_lt, mul-le-mul_left, mul-le-mul_right, mul-pos, add_assoc, le_of_mul-le-mul_right, one-le-pow, pow-le-pow_left, arith, lit<, lit≤, pow_pos, pow_mono, pow-add, log_bits, log2e, ln2, Fraction, ◌is_at_most◌, ◌to_the◌, e_below, e_above, pow-product, pow-power, pow-scaled, le-of-powers, log_bits-below, log_bits-above}
use Rattle.antilog.proofs.Range.{Mantissa}
use Rattle.exact.proofs.Fractions.{transitive, raise}
use Rattle.exact.proofs.RootsNear.{power-swap}

-- ---- from a mantissa M of u ^ k / v ^ k, with i for the bits of its logarithm, to u / v itself, whose logarithm compares with C / B
module _ (K k s i u v M : ℕ) (K₀ : 0 < K) (k₀ : 0 < k) where
  abbrev E : ℕ
  E = k * K

  left : (M * v ^ k * 2 ^ s) ^ K ≡ M ^ K * v ^ E * 2 ^ (s * K)
  left = pow-scaled (M * v ^ k) s K ∙ ap (λ (x : ℕ). x * 2 ^ (s * K)) (pow-product M (v ^ k) K ∙ ap (λ (x : ℕ). M ^ K * x) (pow-power v k K))

  right : (u ^ k * 2 ^ 62) ^ K ≡ u ^ E * 2 ^ (62 * K)
  right = pow-scaled (u ^ k) 62 K ∙ ap (λ (x : ℕ). x * 2 ^ (62 * K)) (pow-power u k K)

  -- the bits and the exponent s, times v ^ E, all scaled by 2 ^ (62 * K)
  turned : 2 ^ (62 * K + i) * v ^ E * 2 ^ (s * K) ≡ v ^ E * 2 ^ (s * K + i) * 2 ^ (62 * K)
  turned = ap (λ (x : ℕ). x * v ^ E * 2 ^ (s * K)) (pow-add 2 (62 * K) i) ∙ turn (2 ^ (62 * K)) (2 ^ i) (v ^ E) (2 ^ (s * K)) ∙ ap (λ (x : ℕ). v ^ E * x * 2 ^ (62 * K)) (sym (pow-add 2 (s * K) i))
    where
      turn : (a b c d : ℕ) → a * b * c * d ≡ c * (d * b) * a
      turn a b c d = omega arith

  raised : (B C : ℕ) → (v ^ B * 2 ^ C) ^ E ≡ (v ^ E) ^ B * 2 ^ (C * E)
  raised B C = pow-scaled (v ^ B) C E ∙ ap (λ (x : ℕ). x * 2 ^ (C * E)) (power-swap v B E)

  word_below : (B C : ℕ) → M * v ^ k * 2 ^ s ≤ u ^ k * 2 ^ 62 → 2 ^ (62 * K + i) ≤ M ^ K → C * E ≤ (s * K + i) * B → v ^ B * 2 ^ C ≤ u ^ B
  word_below B C h bits enough =
      let powers : v ^ E * 2 ^ (s * K + i) ≤ u ^ E =
      le_of_mul-le-mul_right {k = 2 ^ (62 * K)} (le_trans (le_of_eq (sym turned)) (le_trans (mul-le-mul_right (2 ^ (s * K)) (mul-le-mul_right (v ^ E) bits)) (le_trans (le_of_eq (sym left)) (le_trans (pow-le-pow_left h K) (le_of_eq right))))) (pow_pos (62 * K)) in
      le-of-powers (v ^ B * 2 ^ C) (u ^ B) E (mul-pos k₀ K₀)
      (le_trans (le_of_eq (raised B C)) (le_trans (mul-le-mul_left ((v ^ E) ^ B) (pow_mono enough)) (le_trans (le_of_eq (sym (pow-scaled (v ^ E) (s * K + i) B))) (le_trans (pow-le-pow_left powers B) (le_of_eq (power-swap u E B))))))

  word-above : (B C : ℕ) → u ^ k * 2 ^ 62 ≤ M * v ^ k * 2 ^ s → M ^ K ≤ 2 ^ (62 * K + i) → (s * K + i) * B ≤ C * E → u ^ B ≤ v ^ B * 2 ^ C
  word-above B C h bits enough =
      let powers : u ^ E ≤ v ^ E * 2 ^ (s * K + i) =
      le_of_mul-le-mul_right {k = 2 ^ (62 * K)} (le_trans (le_of_eq (sym right)) (le_trans (pow-le-pow_left h K) (le_trans (le_of_eq left) (le_trans (mul-le-mul_right (2 ^ (s * K)) (mul-le-mul_right (v ^ E) bits)) (le_of_eq turned))))) (pow_pos (62 * K)) in
      le-of-powers (u ^ B) (v ^ B * 2 ^ C) E (mul-pos k₀ K₀)
      (le_trans (le_of_eq (power-swap u B E)) (le_trans (pow-le-pow_left powers B) (le_trans (le_of_eq (pow-scaled (v ^ E) (s * K + i) B)) (le_trans (mul-le-mul_left ((v ^ E) ^ B) (pow_mono enough)) (le_of_eq (sym (raised B C)))))))

-- ---- the two decimals: e ^ 128 is 2 ^ 184 times a number between 1 and 2, of 60 places
mantissa : Mantissa 0x6579531775085dfd × Mantissa 0x6579531775085dfe
mantissa = (record { low = lit≤ tt; high = lit< tt }, record { low = lit≤ tt; high = lit< tt })

bits : (log_bits 60 0x6579531775085dfd ≡ 0xaa3b295c17f0bbb) × (log_bits 60 0x6579531775085dfe ≡ 0xaa3b295c17f0bbb)
unfolding log_bits
bits = (refl, refl)

-- no power of these numbers is written out, so the places are given by an equation, and so are the constants below
module _ (p : ℕ) (sixty : p ≡ 60) where
  places : 2 ^ p ≡ 2 ^ 60
  places = ap (λ (q : ℕ). 2 ^ q) sixty

  e_below-word : (B C : ℕ) → C * (128 * 2 ^ 60) ≤ (184 * 2 ^ 60 + 0xaa3b295c17f0bbb) * B → e_below.under ^ B * 2 ^ C ≤ e_below.over ^ B
  e_below-word B C enough =
      let i : ℕ = log_bits p 0x6579531775085dfd in
      let is : i ≡ 0xaa3b295c17f0bbb = ap (λ (q : ℕ). log_bits q 0x6579531775085dfd) sixty ∙ bits.0 in
      word_below (2 ^ p) 128 184 i e_below.over e_below.under 0x6579531775085dfd (pow_pos p) (lit< tt) B C (lit≤ tt) (log_bits-below p mantissa.0) (rw (is, places) enough)

  e_above-word : (B C : ℕ) → (184 * 2 ^ 60 + 0xaa3b295c17f0bbd) * B ≤ C * (128 * 2 ^ 60) → e_above.over ^ B ≤ e_above.under ^ B * 2 ^ C
  e_above-word B C enough =
      let i : ℕ = log_bits p 0x6579531775085dfe + 2 in
      let is : i ≡ 0xaa3b295c17f0bbd = ap (λ (q : ℕ). log_bits q 0x6579531775085dfe + 2) sixty ∙ ap (λ (n : ℕ). n + 2) bits.1 in
      word-above (2 ^ p) 128 184 i e_above.over e_above.under 0x6579531775085dfe (pow_pos p) (lit< tt) B C (lit≤ tt)
      (le_trans (le_of_lt (log_bits-above p (omega arith) mantissa.1)) (le_of_eq (ap (λ (x : ℕ). 2 ^ x) (add_assoc (62 * 2 ^ p) (log_bits p 0x6579531775085dfe) 2)))) (rw (is, places) enough)

-- ---- and every number between them: `log2e`, and `ln2`
module _ (B C D : ℕ) (power : B ≡ 2 ^ 62) (log-constant : C ≡ log2e) (ln-constant : D ≡ ln2) (b : Fraction) (least : e_below is_at_most b) (most : b is_at_most e_above) where
  abbrev two : ℕ → Fraction
  two f = record { over = 2 ^ f; under = 1 }

  reaches : (e f : ℕ) → f * (128 * 2 ^ 60) ≤ (184 * 2 ^ 60 + 0xaa3b295c17f0bbb) * e → b.under ^ e * 2 ^ f ≤ b.over ^ e
  reaches e f enough = omega (arith, transitive (two f) (e_below to_the e) (b to_the e) (one-le-pow e e_below.under (lit< tt)) (omega (arith, e_below-word 60 refl e f enough)) (raise e_below b e least))

  keeps : (e f : ℕ) → (184 * 2 ^ 60 + 0xaa3b295c17f0bbd) * e ≤ f * (128 * 2 ^ 60) → b.over ^ e ≤ b.under ^ e * 2 ^ f
  keeps e f enough = omega (arith, transitive (b to_the e) (e_above to_the e) (two f) (one-le-pow e e_above.under (lit< tt)) (raise b e_above e most) (omega (arith, e_above-word 60 refl e f enough)))

  pub log2e-word : (b.under ^ B * 2 ^ C ≤ b.over ^ B) × (b.over ^ B ≤ b.under ^ B * 2 ^ (C + 1))
  log2e-word = (reaches B C (rw (power, log-constant) (lit≤ tt)), keeps B (C + 1) (rw (power, log-constant) (lit≤ tt)))

  pub ln2-word : (b.over ^ D ≤ b.under ^ D * 2 ^ B) × (b.under ^ (D + 1) * 2 ^ B ≤ b.over ^ (D + 1))
  ln2-word = (keeps D B (rw (power, ln-constant) (lit≤ tt)), reaches (D + 1) B (rw (power, ln-constant) (lit≤ tt)))
