-- A half power in units: from what "How near is near" says of the double to its bounds, and to its distance from a power of k, for a k whose square is near
-- the exact τ. Over natural numbers. Assumes nothing.
use Rattle.exact.proofs.Kit.{◌≡◌, sym, ap, ℕ, ◌+◌, ◌-◌, ◌*◌, ◌^◌, ◌≤◌, ◌<◌, le_refl, le_trans, le_of_eq, le_of_lt, mul-one, mul-le-mul, mul-pos, mul-le-mul_right, le_of_mul-le-mul_right, one-le-pow, arith, lit<}
use Rattle.exact.proofs.Relative.{Apart, apart_of, root-above, root_below}

-- R units of the half power, j of them, of X units; K is 2 ^ places and C the units of its error
module _ (N K C j R X : ℕ) (N₀ : 0 < N) (less : C < K) (above : (R * (K - C)) ^ 2 * N ^ j < X ^ j * (N * K) ^ 2) (below : X ^ j * (N * K) ^ 2 < (R * (K + C)) ^ 2 * N ^ j) where
  pub range-high : (S a H top : ℕ) → 0 < S → X ≤ top → top * S ^ 2 ≤ a ^ 2 * N → a ^ j * (N * K) ≤ H * ((K - C) * S ^ j) → R ≤ H
  range-high S a H top S₀ x order enough =
      let h : R * (K - C) * S ^ j * 1 < a ^ j * (N * K) * 1 = root-above (R * (K - C)) (N * K) X N a S 1 1 1 1 j S₀ (lit< tt) (lit< tt) (lit< tt) (le_refl (1 ^ j * 1 ^ 2)) (le_trans (mul-le-mul x (le_of_eq (mul-one (S ^ 2)))) (le_trans order (le_of_eq (omega arith)))) above in
      le_of_mul-le-mul_right {k = (K - C) * S ^ j} (le_trans (le_of_eq (omega arith)) (le_trans (le_of_lt h) (le_trans (le_of_eq (mul-one (a ^ j * (N * K)))) enough))) (mul-pos (omega (arith, less)) (one-le-pow j S S₀))

  pub range-low : (S b L least : ℕ) → 0 < S → least ≤ X → b ^ 2 * N ≤ least * S ^ 2 → L * ((K + C) * S ^ j) ≤ b ^ j * (N * K) → L ≤ R
  range-low S b L least S₀ x order enough =
      let h : b ^ j * (N * K) * 1 < R * (K + C) * S ^ j * 1 = root_below (R * (K + C)) (N * K) X N b S 1 1 1 1 j S₀ (lit< tt) (lit< tt) (lit< tt) (le_refl (1 ^ j * 1 ^ 2)) (le_trans (le_of_eq (omega arith)) (le_trans order (mul-le-mul x (le_of_eq (sym (mul-one (S ^ 2))))))) below in
      le_of_mul-le-mul_right {k = (K + C) * S ^ j} (le_trans enough (le_trans (le_of_eq (sym (mul-one (b ^ j * (N * K))))) (le_trans (le_of_lt h) (le_of_eq (omega arith))))) (mul-pos (omega (arith, less)) (one-le-pow j S S₀))

  -- k = g / h, and X is within e of its square
  pub apart_from : (g h e least W Y F D : ℕ) → 0 < h → 0 < W → 0 < Y → least ≤ X → X * h ^ 2 ≤ g ^ 2 * N + e * h ^ 2 → g ^ 2 * N ≤ X * h ^ 2 + e * h ^ 2 → e * (W + 1) ≤ least
      → (W + 1) ^ j * Y ^ 2 ≤ W ^ j * (Y + 1) ^ 2 → F * (K * (Y + 1)) ≤ F * ((K - C) * Y) + D * (K * (Y + 1)) → F * ((K + C) * (Y + 1)) ≤ F * (K * Y) + D * (K * Y)
      → Apart F D (R * h ^ j) (g ^ j * N)
  apart_from g h e least W Y F D h₀ W₀ Y₀ x low high room fine up dn =
      let q : ℕ = h ^ 2 in
      let r : ℕ = g ^ 2 in
      let large : e * (W + 1) * q ≤ X * q = mul-le-mul_right q (le_trans room x) in
      let first : X * (q * W) ≤ r * (W + 1) * N = one X r q e N W low large in
      let second : r * W * N ≤ X * (q * (W + 1)) = two X r q e N W high large in
      let A = root-above (R * (K - C)) (N * K) X N g h W (W + 1) Y (Y + 1) j h₀ W₀ (omega arith) Y₀ fine first above in
      let B = root_below (R * (K + C)) (N * K) X N g h W (W + 1) Y (Y + 1) j h₀ W₀ (omega arith) Y₀ fine second below in
      apart_of F D (R * h ^ j) (g ^ j * N) ((K - C) * Y) (K * (Y + 1)) (K * Y) ((K + C) * (Y + 1)) (mul-pos (omega (arith, less)) (omega (arith, Y₀))) (mul-pos (omega (arith, less)) Y₀)
      (le_trans (le_of_eq (left R (K - C) Y (h ^ j))) (le_trans (le_of_lt A) (le_of_eq (right (g ^ j) N K (Y + 1)))))
      (le_trans (le_of_eq (sym (right (g ^ j) N K Y))) (le_trans (le_of_lt B) (le_of_eq (sym (left R (K + C) (Y + 1) (h ^ j))))))
      up dn
    where
      one : (X r q e N W : ℕ) → X * q ≤ r * N + e * q → e * (W + 1) * q ≤ X * q → X * (q * W) ≤ r * (W + 1) * N
      one X r q e N W low large = omega (arith, mul-le-mul_right W low, low, large)

      two : (X r q e N W : ℕ) → r * N ≤ X * q + e * q → e * (W + 1) * q ≤ X * q → r * W * N ≤ X * (q * (W + 1))
      two X r q e N W high large = omega (arith, mul-le-mul_right W high, large)

      left : (R k Y p : ℕ) → k * Y * (R * p) ≡ R * k * p * Y
      left R k Y p = omega arith

      right : (p N K Y : ℕ) → p * (N * K) * Y ≡ K * Y * (p * N)
      right p N K Y = omega arith

-- from τ = (P - Q) / U, tracked within E, and k's square within 1 / Z of τ, where N is N' * Z
module _ (N N' Z X P Q U E g h : ℕ) (Z₀ : 0 < Z) (U₀ : 0 < U) (scale : N ≡ N' * Z) where
  pub square_above : X * U + Q * N ≤ P * N + E * U → (0 * U + P * h) * Z ≤ (g * U + Q * h) * Z + h * U → X * h ≤ g * N + (E + N') * h
  square_above x k = le_of_mul-le-mul_right {k = U} (go (mul-le-mul_right h x) (le_trans (le_of_eq (omega (arith, ap (λ (y : ℕ). P * h * y) scale))) (le_trans (mul-le-mul_right N' k) (le_of_eq (omega (arith, ap (λ (y : ℕ). (g * U + Q * h) * y) scale)))))) U₀
    where
      go : (X * U + Q * N) * h ≤ (P * N + E * U) * h → P * h * N ≤ (g * U + Q * h) * N + h * U * N' → X * h * U ≤ (g * N + (E + N') * h) * U
      go a b = omega (arith, a, b)

  pub square-below : P * N ≤ X * U + Q * N + E * U → (g * U + Q * h) * Z ≤ (0 * U + P * h) * Z + h * U → g * N ≤ X * h + (E + N') * h
  square-below x k = le_of_mul-le-mul_right {k = U} (go (mul-le-mul_right h x) (le_trans (le_of_eq (omega (arith, ap (λ (y : ℕ). (g * U + Q * h) * y) scale))) (le_trans (mul-le-mul_right N' k) (le_of_eq (omega (arith, ap (λ (y : ℕ). P * h * y) scale)))))) U₀
    where
      go : P * N * h ≤ (X * U + Q * N + E * U) * h → (g * U + Q * h) * N ≤ P * h * N + h * U * N' → g * N * U ≤ (X * h + (E + N') * h) * U
      go a b = omega (arith, a, b)
