-- The square root of a double that tracks a number tracks every fraction that stands for the number's root. Assumes nothing.
use Rattle.exact.proofs.Kit.{◌≡◌, sym, ap, ◌∙◌, subst, true, false, ℕ, zero, suc, ◌+◌, ◌-◌, ◌*◌, ◌^◌, ◌≤◌, ◌<◌, le_of_eq, lt_of_lt_of_le, mul-pos, pow-suc, lt_of_le_of_lt, mul-lt-mul_of_pos_right, mul-le-mul_right, mul-le-mul_left, arith, ℤ, T, lit<, Float, nan, inf, fin, binary64, fits, positive, above, over, Fraction, ◌to_the◌, units_of, Exact, pow-one, of, IsRoot}
use Rattle.antilog.specs.Sqrt.{sqrt}
use Rattle.antilog.proofs.NearestRoot.{sqrt-nearest, sqrt_in_steps}
use Rattle.exact.proofs.Rounded.{N, N_pos}
use Rattle.exact.proofs.Tracks.{Bounds, Tracks}
use Rattle.exact.proofs.Above.{positive-units}
use Rattle.exact.proofs.HalfPower.{powered, x-positive, tracks-half}

-- ---- the root in units: R = q * u, where q is the whole number nearest to the root of M, and X * 2 ^ 1074 = M * u * u
module _ (q M k : ℕ) (large : k + 2 ≤ 2 * q) (some : 0 < q) where
  whole_above : q * q < M + q → q * q * (k * k) < M * ((k + 2) * (k + 2))
  whole_above h = omega (arith, mul-le-mul_left (q * (k + 2)) large, mul-le-mul_right ((k + 2) * (k + 2)) h)

  whole_below : M ≤ q * q + q → M * ((k + 2) * (k + 2)) < q * q * ((k + 4) * (k + 4))
  whole_below h = omega (arith, mul-le-mul_left (q * (k + 2)) large, mul-le-mul_right ((k + 2) * (k + 2)) h, mul-pos some some)

square : (x : ℕ) → x ^ 2 ≡ x * x
square x = pow-suc x 1 ∙ ap (λ (y : ℕ). y * x) (pow-one x)

module _ (q u M X N k : ℕ) (is : X * N ≡ M * (u * u)) (some : 0 < u * u * N) where
  turn : X * (N * (k + 2) * (N * (k + 2))) ≡ M * ((k + 2) * (k + 2)) * (u * u * N)
  turn = go (k + 2) (u * u) is
    where
      go : (K U : ℕ) → X * N ≡ M * U → X * (N * K * (N * K)) ≡ M * (K * K) * (U * N)
      go K U e = omega (arith, ap (λ (x : ℕ). x * (K * K * N)) e)

  root-units : (l : ℕ) → q * u * l * (q * u * l) * N ≡ q * q * (l * l) * (u * u * N)
  root-units l = omega arith

  root-above : q * q * (k * k) < M * ((k + 2) * (k + 2)) → (q * u * k) ^ 2 * N ^ 1 < X ^ 1 * (N * (k + 2)) ^ 2
  root-above h = rw (square (q * u * k), square (N * (k + 2)), pow-one N, pow-one X) (lt_of_le_of_lt (le_of_eq (root-units k)) (lt_of_lt_of_le (mul-lt-mul_of_pos_right h some) (le_of_eq (sym turn))))

  root_below : M * ((k + 2) * (k + 2)) < q * q * ((k + 4) * (k + 4)) → X ^ 1 * (N * (k + 2)) ^ 2 < (q * u * (k + 4)) ^ 2 * N ^ 1
  root_below h = rw (square (q * u * (k + 4)), square (N * (k + 2)), pow-one N, pow-one X) (lt_of_le_of_lt (le_of_eq turn) (lt_of_lt_of_le (mul-lt-mul_of_pos_right h some) (le_of_eq (sym (root-units (k + 4))))))

record SqrtNear (x : Float) : Type 0 where
  double : T (fits binary64 (sqrt x))
  is_positive : T (positive (sqrt x))
  higher : (over (sqrt x) * (2 ^ 53 - 2)) ^ 2 * N ^ 1 < over x ^ 1 * (N * 2 ^ 53) ^ 2
  lower : over x ^ 1 * (N * 2 ^ 53) ^ 2 < (over (sqrt x) * (2 ^ 53 + 2)) ^ 2 * N ^ 1

of-finite : (m : ℕ) (e : ℤ) → T (fits binary64 (fin false (suc m) e)) → SqrtNear (fin false (suc m) e)
unfolding above N
of-finite m e f =
    let x : Float = fin false (suc m) e in
    let X : ℕ = units_of x in
    let n = sqrt-nearest m e f in
    let r = sqrt_in_steps m e f in
    let is : over (sqrt x) ≡ r.root * r.step = (positive-units (sqrt x) n.is_positive n.is_double).all-over ∙ r.counted in
    let few : 2 ^ 53 - 2 + 2 ≤ 2 * r.root = mul-le-mul_left 2 r.least in
    let q₀ : 0 < r.root = lt_of_lt_of_le (lit< tt) r.least in
    let scale : 0 < r.step * r.step * N = mul-pos (mul-pos r.some r.some) N_pos in
    record {
      double = n.is_double;
      is_positive = n.is_positive;
      higher = subst (λ (R : ℕ). (R * (2 ^ 53 - 2)) ^ 2 * N ^ 1 < X ^ 1 * (N * 2 ^ 53) ^ 2) (sym is) (root-above r.root r.step r.whole X N (2 ^ 53 - 2) r.squared scale (whole_above r.root r.whole (2 ^ 53 - 2) few q₀ r.is_near_lem.0));
      lower = subst (λ (R : ℕ). X ^ 1 * (N * 2 ^ 53) ^ 2 < (R * (2 ^ 53 + 2)) ^ 2 * N ^ 1) (sym is) (root_below r.root r.step r.whole X N (2 ^ 53 - 2) r.squared scale (whole_below r.root r.whole (2 ^ 53 - 2) few q₀ r.is_near_lem.1));
    }

sqrt-near : (x : Float) → T (positive x) → T (fits binary64 x) → SqrtNear x
sqrt-near nan h f = absurd h
sqrt-near (inf s) h f = absurd h
sqrt-near (fin true m e) h f = absurd h
sqrt-near (fin false zero e) h f = absurd h
sqrt-near (fin false (suc m) e) h f = of-finite m e f

-- ---- the bounds of a root
abbrev pub rooted : Bounds → Bounds
rooted = powered (2 ^ 53) 2 1

module _ (τb : Bounds) (good : T (rooted τb).good) (x : Float) (τ : Exact) (t : Tracks τb x τ) (k : Fraction) (is-root : IsRoot k τ) where
  pub tracks-sqrt : Tracks (rooted τb) (sqrt x) (of (k to_the 1))
  tracks-sqrt =
      let w : SqrtNear x = sqrt-near x (x-positive (2 ^ 53) 2 1 τb (lit< tt) good x τ t) t.double in
      tracks-half (2 ^ 53) 2 1 τb (lit< tt) good x τ t k is-root (sqrt x) w.is_positive w.double w.higher w.lower
