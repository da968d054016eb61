-- Fractions compared, multiplied and raised, and powers whose exponent is a fraction, by whole powers. Assumes nothing.
use Rattle.exact.proofs.Kit.{◌≡◌, sym, ap, ap₂, ◌∙◌, subst, subst₂, ℕ, ◌+◌, ◌-◌, ◌*◌, ◌^◌, ◌≤◌, ◌<◌, le_refl, le_trans, le_of_eq, lt_of_not-le, mul-one, mul_assoc, mul_comm, mul_right_comm, mul-le-mul, mul-le-mul_right, mul-le-mul_left, le_of_mul-le-mul_right, one-le-pow, pow-le-pow_left, dec_le, add-one, arith, pow-add, pow-zero, pow-product, pow-power, le-of-powers, far_one, Fraction, ◌is_at_most◌, ◌to_the◌, ◌times◌, inverse}

fraction : ℕ → ℕ → Fraction
fraction a b = record { over = a; under = b }

-- ---- the order
pub transitive : (a b c : Fraction) → 0 < b.under → a is_at_most b → b is_at_most c → a is_at_most c
transitive a b c b₀ h i = le_of_mul-le-mul_right {k = b.under} (omega (arith, mul-le-mul_right c.under h, mul-le-mul_right a.under i)) b₀

pub times-rises : (a b c d : Fraction) → a is_at_most b → c is_at_most d → (a times c) is_at_most (b times d)
times-rises a b c d h i = le_trans (le_of_eq (omega arith)) (le_trans (mul-le-mul h i) (le_of_eq (omega arith)))

pub raise : (a b : Fraction) (k : ℕ) → a is_at_most b → (a to_the k) is_at_most (b to_the k)
raise a b k h = rw (← pow-product a.over b.under k, ← pow-product b.over a.under k) (pow-le-pow_left h k)

pub unraise : (a b : Fraction) (k : ℕ) → 0 < k → (a to_the k) is_at_most (b to_the k) → a is_at_most b
unraise a b k k₀ h = le-of-powers (a.over * b.under) (b.over * a.under) k k₀ (rw (pow-product a.over b.under k, pow-product b.over a.under k) h)

pub times_power : (a b : Fraction) (k : ℕ) → ((a times b) to_the k) ≡ ((a to_the k) times (b to_the k))
unfolding fraction
times_power a b k = ap₂ fraction (pow-product a.over b.over k) (pow-product a.under b.under k)

pub times-assoc : (a b c : Fraction) → (a times b times c) ≡ (a times (b times c))
unfolding fraction
times-assoc a b c = ap₂ fraction (mul_assoc a.over b.over c.over) (mul_assoc a.under b.under c.under)

pub times-swap : (a b c : Fraction) → (a times b times c) ≡ (a times c times b)
unfolding fraction
times-swap a b c = ap₂ fraction (mul_right_comm a.over b.over c.over) (mul_right_comm a.under b.under c.under)

pub power-power : (a : Fraction) (i k : ℕ) → ((a to_the i) to_the k) ≡ (a to_the (i * k))
unfolding fraction
power-power a i k = ap₂ fraction (pow-power a.over i k) (pow-power a.under i k)

power-sum : (a : Fraction) (i k : ℕ) → (a to_the (i + k)) ≡ ((a to_the i) times (a to_the k))
unfolding fraction
power-sum a i k = ap₂ fraction (pow-add a.over i k) (pow-add a.under i k)

-- over a power to the 0
pub no_power : (a : Fraction) (n z : ℕ) → z ≡ 0 → ((a to_the n) times inverse (a to_the z)) ≡ (a to_the n)
unfolding fraction
no_power a n z e = rw (e, pow-zero a.over, pow-zero a.under) (ap₂ fraction (mul-one (a.over ^ n)) (mul-one (a.under ^ n)))

-- ---- 1 + 1 / n
abbrev pub next : ℕ → Fraction
next n = record { over = n + 1; under = n }

next-rises : (n i j : ℕ) → i ≤ j → (next n to_the i) is_at_most (next n to_the j)
next-rises n i j h =
    let d : ℕ = j - i in
    let whole : j ≡ i + d = omega arith in
    let more : n ≤ n + 1 = omega arith in
    rw (whole, pow-add n i d, pow-add (n + 1) i d) (le_trans (mul-le-mul_left ((n + 1) ^ i) (mul-le-mul_left (n ^ i) (pow-le-pow_left more d))) (le_of_eq (omega arith)))

-- ---- two exponents s / e and w / e that are 1 / k apart at most, and a base x with 1 / (1 + k / m) ≤ x ≤ 1 + k / m: the powers are 1 + 1 / m apart at most
module _ (m k e : ℕ) (m₀ : 0 < m) where
  abbrev wide : Fraction
  wide = record { over = m + k; under = m }

  few : (y : Fraction) → 0 < y.under → y is_at_most wide → (t : ℕ) → t * k ≤ e → (y to_the t) is_at_most (next m to_the e)
  few y y₀ h t less =
      transitive (y to_the t) (wide to_the t) (next m to_the e) (one-le-pow t m m₀) (raise y wide t h)
      (transitive (wide to_the t) ((next m to_the k) to_the t) (next m to_the e) (one-le-pow t (m ^ k) (one-le-pow k m m₀)) (raise wide (next m to_the k) t (le_trans (le_of_eq (mul_comm (m + k) (m ^ k))) (rw (add-one m) (far_one m k))))
      (subst (λ (z : Fraction). z is_at_most (next m to_the e)) (sym (power-power (next m) k t)) (next-rises m (k * t) e (omega arith))))

  pub exponents-near : (x : Fraction) → 0 < x.over → 0 < x.under → x is_at_most wide → inverse x is_at_most wide → (s w : ℕ) → s * k ≤ w * k + e → w * k ≤ s * k + e
      → (x to_the s) is_at_most ((x to_the w) times (next m to_the e))
  exponents-near x x₀ x₁ high low s w h i = go (dec_le w s)
    where
      go : Dec (w ≤ s) → (x to_the s) is_at_most ((x to_the w) times (next m to_the e))
      go (yes l) =
          let t : ℕ = s - w in
          let whole : s ≡ w + t = omega arith in
          subst (λ (z : Fraction). z is_at_most ((x to_the w) times (next m to_the e))) (sym (ap (λ (n : ℕ). x to_the n) whole ∙ power-sum x w t))
          (times-rises (x to_the w) (x to_the w) (x to_the t) (next m to_the e) (le_refl _) (few x x₁ high t (omega (arith, ap (λ (n : ℕ). n * k) whole, h))))
      go (no l) =
          let t : ℕ = w - s in
          let whole : w ≡ s + t = omega (arith, lt_of_not-le l) in
          let part : x.under ^ t * m ^ e ≤ (m + 1) ^ e * x.over ^ t = few (inverse x) x₀ low t (omega (arith, ap (λ (n : ℕ). n * k) whole, i)) in
          rw (whole, pow-add x.over s t, pow-add x.under s t)
          (le_trans (le_of_eq (omega arith)) (le_trans (mul-le-mul_left (x.over ^ s * x.under ^ s) part) (le_of_eq (omega arith))))

-- ---- 1 + 1 / W to the power P / U, which is i / j at most, is 1 + 1 / Y at most
pub part_of-power : (W Y i j P U : ℕ) → 0 < W → 0 < Y → 0 < j → P * j ≤ i * U → (W + 1) ^ i * Y ^ j ≤ (Y + 1) ^ j * W ^ i → (next W to_the P) is_at_most (next Y to_the U)
part_of-power W Y i j P U W₀ Y₀ j₀ less test =
    unraise (next W to_the P) (next Y to_the U) j j₀
    (subst₂ (λ (a b : Fraction). a is_at_most b) (sym (power-power (next W) P j)) (power-power (next Y) j U ∙ ap (λ (n : ℕ). next Y to_the n) (mul_comm j U) ∙ sym (power-power (next Y) U j))
    (transitive (next W to_the (P * j)) (next W to_the (i * U)) ((next Y to_the j) to_the U) (one-le-pow (i * U) W W₀) (next-rises W (P * j) (i * U) less)
    (subst (λ (a : Fraction). a is_at_most ((next Y to_the j) to_the U)) (power-power (next W) i U) (raise (next W to_the i) (next Y to_the j) U test))))
