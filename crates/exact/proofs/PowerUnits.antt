-- Between fractions and units of 2 ^ -1074, over natural numbers: what a power rules of its base, and what it gives back. Assumes nothing.
use Rattle.exact.proofs.Kit.{◌≡◌, ap, ◌∙◌, ℕ, ◌+◌, ◌-◌, ◌*◌, ◌≤◌, ◌<◌, le_trans, le_of_eq, mul-le-mul_right, le_of_mul-le-mul_right, arith}
use Rattle.exact.proofs.Rounded.{N, N_pos}

-- ---- between a double's fraction n / d and its o units
module _ (n d o : ℕ) (is : n * N ≡ o * d) where
  pub from-units : (p q : ℕ) → o * p ≤ q * N → n * p ≤ q * d
  from-units p q h = le_of_mul-le-mul_right {k = N} (omega (arith, mul-le-mul_right d h, ap (λ (z : ℕ). z * p) is)) N_pos

  pub from_units' : (p q : ℕ) → q * N ≤ o * p → q * d ≤ n * p
  from_units' p q h = le_of_mul-le-mul_right {k = N} (omega (arith, mul-le-mul_right d h, ap (λ (z : ℕ). z * p) is)) N_pos

  module _ (d₀ : 0 < d) (a e g h c f : ℕ) where
    pub to-units : n * a * (h * c) ≤ g * f * (d * e) → a * c * (o * h) ≤ e * f * (g * N)
    to-units l = le_of_mul-le-mul_right {k = d} (le_trans (le_of_eq (omega (arith, ap (λ (z : ℕ). z * (a * c * h)) is))) (le_trans (mul-le-mul_right N l) (le_of_eq (omega arith)))) d₀

    pub to_units' : g * f * (d * e) ≤ n * a * (h * c) → f * e * (g * N) ≤ c * a * (o * h)
    to_units' l = le_of_mul-le-mul_right {k = d} (le_trans (le_of_eq (omega arith)) (le_trans (mul-le-mul_right N l) (le_of_eq (omega (arith, ap (λ (z : ℕ). z * (a * c * h)) is))))) d₀

-- ---- the base, of o units, and the exact one, g / U = (P - Q) / U
module _ (o E W P Q U u : ℕ) (none : u ≡ 0) (apart : Q < P) (room : E * (W + 1) ≤ o) where
  pub base_above : o * U + Q * N ≤ u * U + P * N + E * U → o * (U * W) ≤ (P - Q) * (W + 1) * N
  base_above h =
      let g : ℕ = P - Q in
      let whole : P * N ≡ g * N + Q * N = ap (λ (z : ℕ). z * N) {x = P} {y = g + Q} (omega (arith, apart)) ∙ omega arith in
      let near : o * U ≤ g * N + E * U = omega (arith, h, whole, ap (λ (z : ℕ). z * U) none) in
      go g near (mul-le-mul_right U room)
    where
      go : (g : ℕ) → o * U ≤ g * N + E * U → E * (W + 1) * U ≤ o * U → o * (U * W) ≤ g * (W + 1) * N
      go g near large = omega (arith, mul-le-mul_right W near, near, large)

  pub base-below : u * U + P * N ≤ o * U + Q * N + E * U → (P - Q) * W * N ≤ o * ((W + 1) * U)
  base-below h =
      let g : ℕ = P - Q in
      let whole : P * N ≡ g * N + Q * N = ap (λ (z : ℕ). z * N) {x = P} {y = g + Q} (omega (arith, apart)) ∙ omega arith in
      let near : g * N ≤ o * U + E * U = omega (arith, h, whole) in
      go g near (mul-le-mul_right U room)
    where
      go : (g : ℕ) → g * N ≤ o * U + E * U → E * (W + 1) * U ≤ o * U → g * W * N ≤ o * ((W + 1) * U)
      go g near large = omega (arith, mul-le-mul_right W near, large)
