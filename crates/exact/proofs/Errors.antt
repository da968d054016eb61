-- Errors of sums, products and quotients, over natural numbers. Assumes nothing.
use Rattle.exact.proofs.Kit.{◌≡◌, ap, ℕ, ◌+◌, ◌-◌, ◌*◌, ◌≤◌, ◌<◌, le_trans, le_of_eq, mul-le-mul_right, mul-le-mul_left, le_of_mul-le-mul_right, lt_of_mul-lt-mul_right, mul-lt-mul_of_pos_right, arith}

-- |a - b| ≤ E and |c - d| ≤ F: the product is E * F at most
pub product-bound : (a b c d E F : ℕ) → a ≤ b + E → b ≤ a + E → c ≤ d + F → d ≤ c + F → a * c + b * d ≤ a * d + b * c + E * F
product-bound a b c d E F h i j k =
    let u : ℕ = a + E - b in
    let v : ℕ = c + F - d in
    let eu : a + E ≡ b + u = omega arith in
    let ev : c + F ≡ d + v = omega arith in
    let few : u * v ≤ u * (2 * F) = mul-le-mul_left u (omega arith) in
    let less : u * v ≤ 2 * E * v = mul-le-mul_right v (omega arith) in
    omega (arith, few, less, ap (λ (x : ℕ). x * (c + F)) eu, ap (λ (x : ℕ). x * d) eu, ap (λ (x : ℕ). b * x) ev, ap (λ (x : ℕ). u * x) ev, ap (λ (x : ℕ). E * x) ev, ap (λ (x : ℕ). x * F) eu)

-- ---- z is within U of x + y
linear-sum : (z z' x x' y y' q p q' p' e e' u : ℕ) → z + (x' + y') ≤ z' + (x + y) + u → x + q ≤ x' + p + e → y + q' ≤ y' + p' + e' → z + (q + q') ≤ z' + (p + p') + (e + e' + u)
linear-sum z z' x x' y y' q p q' p' e e' u h i j = omega (arith, h, i, j)

pub sum-error : (N zo zu xo xu yo yu P₁ Q₁ K₁ P₂ Q₂ K₂ U E₁ E₂ : ℕ) → zo + (xu + yu) ≤ zu + (xo + yo) + U
    → xo * K₁ + Q₁ * N ≤ xu * K₁ + P₁ * N + E₁ * K₁ → yo * K₂ + Q₂ * N ≤ yu * K₂ + P₂ * N + E₂ * K₂
    → zo * (K₁ * K₂) + (Q₁ * K₂ + Q₂ * K₁) * N ≤ zu * (K₁ * K₂) + (P₁ * K₂ + P₂ * K₁) * N + (E₁ + E₂ + U) * (K₁ * K₂)
sum-error N zo zu xo xu yo yu P₁ Q₁ K₁ P₂ Q₂ K₂ U E₁ E₂ h i j =
    let K : ℕ = K₁ * K₂ in
    let l = linear-sum (zo * K) (zu * K) (xo * K) (xu * K) (yo * K) (yu * K) (Q₁ * K₂ * N) (P₁ * K₂ * N) (Q₂ * K₁ * N) (P₂ * K₁ * N) (E₁ * K) (E₂ * K) (U * K)
    (le_trans (le_of_eq (omega arith)) (le_trans (mul-le-mul_right K h) (le_of_eq (omega arith))))
    (le_trans (le_of_eq (omega arith)) (le_trans (mul-le-mul_right K₂ i) (le_of_eq (omega arith))))
    (le_trans (le_of_eq (omega arith)) (le_trans (mul-le-mul_right K₁ j) (le_of_eq (omega arith)))) in
    le_trans (le_of_eq (omega arith)) (le_trans l (le_of_eq (omega arith)))

-- ---- z is within U of x * y
linear-product : (z z' b c q p k l e f g : ℕ) → z + c ≤ z' + b + g → b + k ≤ c + l + e → l + q ≤ k + p + f → z + q ≤ z' + p + (e + f + g)
linear-product z z' b c q p k l e f g h i j = omega (arith, h, i, j)

pub product-error : (N zo zu xo xu yo yu P₁ Q₁ K₁ P₂ Q₂ K₂ U B₁ B₂ E₁ E₂ E : ℕ) → 0 < N → xo ≤ xu + B₁ → xu ≤ xo + B₁ → yo ≤ yu + B₂ → yu ≤ yo + B₂
    → zo * N + (xo * yu + xu * yo) ≤ zu * N + (xo * yo + xu * yu) + U * N
    → xo * K₁ + Q₁ * N ≤ xu * K₁ + P₁ * N + E₁ * K₁ → xu * K₁ + P₁ * N ≤ xo * K₁ + Q₁ * N + E₁ * K₁
    → yo * K₂ + Q₂ * N ≤ yu * K₂ + P₂ * N + E₂ * K₂ → yu * K₂ + P₂ * N ≤ yo * K₂ + Q₂ * N + E₂ * K₂
    → E₁ * B₂ + (B₁ + E₁) * E₂ + U * N ≤ E * N
    → zo * (K₁ * K₂) + (P₁ * Q₂ + Q₁ * P₂) * N ≤ zu * (K₁ * K₂) + (P₁ * P₂ + Q₁ * Q₂) * N + E * (K₁ * K₂)
product-error N zo zu xo xu yo yu P₁ Q₁ K₁ P₂ Q₂ K₂ U B₁ B₂ E₁ E₂ E N₀ x⁺ x⁻ y⁺ y⁻ h i⁺ i⁻ j⁺ j⁻ fine =
    let K : ℕ = K₁ * K₂ in
    let X⁺ : P₁ * N ≤ Q₁ * N + (B₁ + E₁) * K₁ = omega (arith, mul-le-mul_right K₁ x⁺, i⁻) in
    let X⁻ : Q₁ * N ≤ P₁ * N + (B₁ + E₁) * K₁ = omega (arith, mul-le-mul_right K₁ x⁻, i⁺) in
    let Y⁺ : yo * K₂ ≤ yu * K₂ + B₂ * K₂ = omega (arith, mul-le-mul_right K₂ y⁺) in
    let Y⁻ : yu * K₂ ≤ yo * K₂ + B₂ * K₂ = omega (arith, mul-le-mul_right K₂ y⁻) in
    let first = product-bound (xo * K₁ + Q₁ * N) (xu * K₁ + P₁ * N) (yo * K₂) (yu * K₂) (E₁ * K₁) (B₂ * K₂) i⁺ i⁻ Y⁺ Y⁻ in
    let second = product-bound (P₁ * N) (Q₁ * N) (yo * K₂ + Q₂ * N) (yu * K₂ + P₂ * N) ((B₁ + E₁) * K₁) (E₂ * K₂) X⁺ X⁻ j⁺ j⁻ in
    let l = linear-product (zo * N * K) (zu * N * K) ((xo * yo + xu * yu) * K) ((xo * yu + xu * yo) * K) ((P₁ * Q₂ + Q₁ * P₂) * (N * N)) ((P₁ * P₂ + Q₁ * Q₂) * (N * N))
    ((Q₁ * yo + P₁ * yu) * (N * K₂)) ((Q₁ * yu + P₁ * yo) * (N * K₂)) (E₁ * B₂ * K) ((B₁ + E₁) * E₂ * K) (U * N * K)
    (le_trans (le_of_eq (omega arith)) (le_trans (mul-le-mul_right K h) (le_of_eq (omega arith))))
    (le_trans (le_of_eq (omega arith)) (le_trans first (le_of_eq (omega arith))))
    (le_trans (le_of_eq (omega arith)) (le_trans second (le_of_eq (omega arith)))) in
    let room : E₁ * B₂ * K + (B₁ + E₁) * E₂ * K + U * N * K ≤ E * K * N = le_trans (le_of_eq (omega arith)) (le_trans (mul-le-mul_right K fine) (le_of_eq (omega arith))) in
    le_of_mul-le-mul_right {k = N}
    (le_trans (le_of_eq (omega arith)) (le_trans l (le_trans (widen (zu * N * K + (P₁ * P₂ + Q₁ * Q₂) * (N * N)) room) (le_of_eq (omega arith))))) N₀
  where
    widen : {a b : ℕ} (c : ℕ) → a ≤ b → c + a ≤ c + b
    widen c h = omega (arith, h)

-- ---- z is within U of x / y, for a y of L units at least
linear-quotient : (z z' b c q p k l u e f : ℕ) → z + b ≤ z' + c + u → c + k ≤ b + l + e → l + q ≤ k + p + f → z + q ≤ z' + p + (u + e + f)
linear-quotient z z' b c q p k l u e f h i j = omega (arith, h, i, j)

module _ (N y P Q K L E : ℕ) (N₀ : 0 < N) (K₀ : 0 < K) (large : L ≤ y) (clear : E < L) (j⁺ : y * K + Q * N ≤ P * N + E * K) (j⁻ : P * N ≤ y * K + Q * N + E * K) where
  -- the exact divisor is above zero
  divisor-apart : L * K + Q * N ≤ P * N + E * K
  divisor-apart = omega (arith, mul-le-mul_right K large, j⁺)

  pub divisor-above : Q < P
  divisor-above = lt_of_mul-lt-mul_right N (omega (arith, divisor-apart, mul-lt-mul_of_pos_right clear K₀))

  abbrev D : ℕ
  D = P - Q

  pub divisor_pos : 0 < D
  divisor_pos = omega (arith, divisor-above)

  whole : D * N + Q * N ≡ P * N
  whole = let e : D + Q ≡ P = omega (arith, divisor-above) in omega (arith, ap (λ (x : ℕ). x * N) e)

  divisor-high : y * K ≤ D * N + E * K
  divisor-high = omega (arith, whole, j⁺)

  divisor-low : D * N ≤ y * K + E * K
  divisor-low = omega (arith, whole, j⁻)

  share : (A W : ℕ) → A * E * N ≤ W * (L - E) → A * (E * K) ≤ W * D
  share A W h =
      let gap : (L - E) * K ≤ D * N = let e : L - E + E ≡ L = omega (arith, clear) in omega (arith, ap (λ (x : ℕ). x * K) e, divisor-apart, whole) in
      le_of_mul-le-mul_right {k = L - E}
      (le_trans (le_of_eq (omega arith)) (le_trans (mul-le-mul_left (A * E) gap) (le_trans (le_of_eq (omega arith)) (le_trans (mul-le-mul_right D h) (le_of_eq (omega arith))))))
      (omega (arith, clear))

  pub quotient-error : (zo zu xo xu P₁ Q₁ K₁ U B₁ E₁ W F : ℕ) → xo ≤ xu + B₁ → xu ≤ xo + B₁ → zo * y + xu * N ≤ zu * y + xo * N + U * y
      → xo * K₁ + Q₁ * N ≤ xu * K₁ + P₁ * N + E₁ * K₁ → xu * K₁ + P₁ * N ≤ xo * K₁ + Q₁ * N + E₁ * K₁
      → (B₁ + E₁) * E * N ≤ W * (L - E) → E₁ * N + W ≤ F * L
      → zo * (K₁ * D) + Q₁ * K * N ≤ zu * (K₁ * D) + P₁ * K * N + (U + F) * (K₁ * D)
  quotient-error zo zu xo xu P₁ Q₁ K₁ U B₁ E₁ W F x⁺ x⁻ h i⁺ i⁻ shared fine =
      let X⁺ : P₁ * N ≤ Q₁ * N + (B₁ + E₁) * K₁ = omega (arith, mul-le-mul_right K₁ x⁺, i⁻) in
      let X⁻ : Q₁ * N ≤ P₁ * N + (B₁ + E₁) * K₁ = omega (arith, mul-le-mul_right K₁ x⁻, i⁺) in
      let M : ℕ = K₁ * D in
      let second = product-bound (P₁ * N) (Q₁ * N) (D * N) (y * K) ((B₁ + E₁) * K₁) (E * K) X⁺ X⁻ divisor-low divisor-high in
      let l = linear-quotient (zo * y * M) (zu * y * M) (xu * N * M) (xo * N * M) (Q₁ * N * (y * K)) (P₁ * N * (y * K)) (Q₁ * N * (D * N)) (P₁ * N * (D * N)) (U * y * M) (E₁ * N * M) ((B₁ + E₁) * (E * K) * K₁)
      (le_trans (le_of_eq (omega arith)) (le_trans (mul-le-mul_right M h) (le_of_eq (omega arith))))
      (le_trans (le_of_eq (omega arith)) (le_trans (mul-le-mul_right (D * N) i⁺) (le_of_eq (omega arith))))
      (le_trans (le_of_eq (omega arith)) (le_trans second (le_of_eq (omega arith)))) in
      let least : F * L * M ≤ F * y * M = mul-le-mul_right M (mul-le-mul_left F large) in
      let shares : (B₁ + E₁) * (E * K) * K₁ ≤ W * M = le_trans (mul-le-mul_right K₁ (share (B₁ + E₁) W shared)) (le_of_eq (omega arith)) in
      let fines : E₁ * N * M + W * M ≤ F * L * M = le_trans (le_of_eq (omega arith)) (mul-le-mul_right M fine) in
      le_of_mul-le-mul_right {k = y} (le_trans (le_of_eq (omega arith)) (le_trans (last (zu * y * M + P₁ * N * (y * K)) (U * y * M) (E₁ * N * M) l shares fines least) (le_of_eq (omega arith)))) (omega (arith, large, clear))
    where
      last : {a e f g : ℕ} (b c d : ℕ) → a ≤ b + (c + d + e) → e ≤ f → d + f ≤ g → {k : ℕ} → g ≤ k → a ≤ b + (c + k)
      last b c d h i j l = omega (arith, h, i, j, l)
