-- exp of a double that tracks a number tracks every fraction that stands for the power of e. Assumes nothing.
use Rattle.exact.proofs.Kit.{◌≡◌, sym, ap, ◌∙◌, Bool, true, false, ◌&&◌, List, [], ◌∷◌, ℕ, ◌+◌, ◌-◌, ◌*◌, ◌/◌, ◌^◌, ◌≤◌, ◌<◌, le_trans, le_of_eq, le_of_lt, mul-pos, mul-le-mul_right, mul-le-mul_left, le_of_mul-le-mul_right, pow-le-pow_left, div-mul-le_self, arith, ℤ, T, leb, ltb, eqb, leb→le, ltb→lt, eqb→eq, lit<, lit≤, Float, nan, inf, fin, binary64, up, down, fits, and_r, down_pos, num, den, den_pos, units_of, above, beneath, units-exact, over, Fraction, ◌is_at_most◌, exp, Normal, InBounds, raised_by, e_below, e_above, Exact, of, IsPower}
use Rattle.exact.proofs.FunctionsNear.{functions_near_60}
use Rattle.exact.proofs.Rounded.{N, N_pos}
use Rattle.exact.proofs.Tracks.{Bounds, Tracks}
use Rattle.exact.proofs.Tests.{all, item, test}
use Rattle.exact.proofs.Relative.{apart_of, both-above, both_below}
use Rattle.exact.proofs.Above.{Positive, positive-units}
use Rattle.exact.proofs.PositiveNear.{positive-near}

-- ---- the bounds of exp, for a y below zero, where exp lies from L to H: 1 / (2 * n) is above the error of y
abbrev pub parts : Bounds → ℕ
parts y = N / (2 * y.E)

-- exp is wrong by 140 parts in 2^60, the fraction that stands for the power by one part in 2^80, and the power by one part in n: the double is at most β / α of the
-- fraction, and the fraction at most δ / γ of the double
module _ (n : ℕ) where
  abbrev pub α : ℕ
  α = (2 ^ 60 - 140) * 2 ^ 80 * n

  abbrev pub β : ℕ
  β = 2 ^ 60 * (2 ^ 80 + 1) * (n + 1)

  abbrev pub γ : ℕ
  γ = 2 ^ 60 * (2 ^ 80 - 1) * n

  abbrev pub δ : ℕ
  δ = (2 ^ 60 + 140) * 2 ^ 80 * (n + 1)

  -- so it is wrong by this part of itself, over 2^80
  abbrev wrong : ℕ
  wrong = 2 ^ 80 * (δ - γ) / γ + 1

abbrev tests : Bounds → List Bool
tests y =
    let n = parts y in
    eqb y.H 0 ∷ ltb 0 y.J ∷ ltb 0 n ∷ leb y.M (24 * N) ∷ leb (2 ^ 80 * β n) (2 ^ 80 * α n + wrong n * β n) ∷ leb (2 ^ 80 * δ n) (2 ^ 80 * γ n + wrong n * γ n) ∷ []

abbrev pub exponential : ℕ → ℕ → Bounds → Bounds
exponential L H y = record { L = L; M = 0; H = H; J = 0; E = wrong (parts y) * H / 2 ^ 80 + 1; good = y.good && all (tests y) }

-- ---- how near the exponents are
module _ (N E n d m v U P Q : ℕ) (N₀ : 0 < N) (fine : 2 * n * E ≤ N) (is : m * N ≡ v * d) where
  exponent-above : Q * N ≤ v * U + P * N + E * U → 2 * n * (Q * d) ≤ 2 * n * (m * U + P * d) + d * U
  exponent-above h =
      le_of_mul-le-mul_right {k = N}
      (le_trans (le_of_eq (omega arith)) (le_trans (mul-le-mul_right (2 * n * d) h) (le_trans (le_of_eq (turn (v * d) (sym is))) (le_trans (widen (2 * n * (m * U + P * d) * N) (mul-le-mul_right (d * U) fine)) (le_of_eq (omega arith)))))) N₀
    where
      turn : (w : ℕ) → w ≡ m * N → (v * U + P * N + E * U) * (2 * n * d) ≡ 2 * n * (m * U + P * d) * N + 2 * n * E * (d * U)
      turn w e = omega (arith, ap (λ (x : ℕ). x * (2 * n * U)) is)

      widen : {a b : ℕ} (c : ℕ) → a ≤ b → c + a ≤ c + b
      widen c h = omega (arith, h)

  exponent-below : v * U + P * N ≤ Q * N + E * U → 2 * n * (m * U + P * d) ≤ 2 * n * (Q * d) + d * U
  exponent-below h =
      le_of_mul-le-mul_right {k = N}
      (le_trans (le_of_eq (omega (arith, ap (λ (x : ℕ). x * (2 * n * U)) is))) (le_trans (mul-le-mul_right (2 * n * d) h) (le_trans (le_of_eq (omega arith)) (le_trans (widen (2 * n * (Q * d) * N) (mul-le-mul_right (d * U) fine)) (le_of_eq (omega arith)))))) N₀
    where
      widen : {a b : ℕ} (c : ℕ) → a ≤ b → c + a ≤ c + b
      widen c h = omega (arith, h)

-- ---- from the double's own fraction u / v to its R units
units_of_lem : (u v R a H z n B G z' n' : ℕ) → 0 < v → u * N ≡ R * v → u * a * (H * z) * n ≤ v * B * (G * z') * n' → a * z * n * (R * H) ≤ B * z' * n' * (G * N)
units_of_lem u v R a H z n B G z' n' v₀ is h =
    le_of_mul-le-mul_right {k = v}
    (le_trans (le_of_eq (turn N (sym is))) (le_trans (mul-le-mul_right N h) (le_of_eq (omega arith)))) v₀
  where
    turn : (N : ℕ) → R * v ≡ u * N → a * z * n * (R * H) * v ≡ u * a * (H * z) * n * N
    turn N e = omega arith ∙ ap (λ (x : ℕ). x * (a * n * H * z)) e ∙ omega arith

units-to : (u v R a H z n B G z' n' : ℕ) → 0 < v → u * N ≡ R * v → v * B * (G * z') * n ≤ u * a * (H * z) * n' → B * z' * n * (G * N) ≤ a * z * n' * (R * H)
units-to u v R a H z n B G z' n' v₀ is h =
    le_of_mul-le-mul_right {k = v}
    (le_trans (le_of_eq (omega arith)) (le_trans (mul-le-mul_right N h) (le_of_eq (turn N is)))) v₀
  where
    turn : (N : ℕ) → u * N ≡ R * v → u * a * (H * z) * n' * N ≡ a * z * n' * (R * H) * v
    turn N e = omega arith ∙ ap (λ (x : ℕ). x * (a * n' * H * z)) e ∙ omega arith

pub record Sides (n : ℕ) (r : Float) (R : Fraction) : Type 0 where
  pub above-part : α n * (over r * R.under) ≤ β n * (R.over * N)
  pub below-part : γ n * (R.over * N) ≤ δ n * (over r * R.under)

-- ---- b lies between 1 and 3
one_of : (o u k q : ℕ) → 0 < k → k ≤ q → q * u ≤ o * k → u ≤ o
one_of o u k q k₀ h i = le_of_mul-le-mul_right {k = k} (le_trans (le_of_eq (omega arith)) (le_trans (mul-le-mul_right u h) i)) k₀

three-of : (o u k q : ℕ) → 0 < k → q ≤ 3 * k → o * k ≤ q * u → o ≤ 3 * u
three-of o u k q k₀ h i = le_of_mul-le-mul_right {k = k} (le_trans i (le_trans (mul-le-mul_right u h) (le_of_eq (omega arith)))) k₀

not_below_one : (b : Fraction) → e_below is_at_most b → b.under ≤ b.over
not_below_one b = one_of b.over b.under e_below.under e_below.over (lit< tt) (lit≤ tt)

not_above-three : (b : Fraction) → b is_at_most e_above → b.over ≤ 3 * b.under
not_above-three b = three-of b.over b.under e_above.under e_above.over (lit< tt) (lit≤ tt)

scaled : (m : ℕ) (e : ℤ) → T (fits binary64 (fin true m e)) → m * up e * N ≡ units_of (fin true m e) * down e
unfolding N
scaled m e f = units-exact true m e f

fewer : (M d v : ℕ) → M * N ≡ v * d → 0 < d → v ≤ 24 * N → M / (4 * d) ≤ 6
fewer M d v is d₀ h =
    let most : M ≤ 24 * d = le_of_mul-le-mul_right {k = N} (le_trans (le_of_eq is) (le_trans (mul-le-mul_right d h) (le_of_eq (turn N d)))) N_pos in
    le_of_mul-le-mul_right {k = 4 * d} (le_trans (div-mul-le_self M (4 * d)) (le_trans most (le_of_eq (omega arith)))) (omega (arith, d₀))
  where
    turn : (N d : ℕ) → 24 * N * d ≡ 24 * d * N
    turn N d = omega arith

module _ (L H : ℕ) (yb : Bounds) (good : T (exponential L H yb).good) (b : Fraction) (b₀ : 0 < b.under) (least : e_below is_at_most b) (most : b is_at_most e_above) (Y : Exact) (R : Fraction) (is-power : IsPower b Y R) where
  abbrev n : ℕ
  n = parts yb

  passed : (i : ℕ) → T (item (tests yb) i)
  passed i = test (tests yb) i (and_r yb.good _ good)

  some : 0 < n
  some = ltb→lt 0 n (passed 2)

  pub sides : (y : Float) → Tracks yb y Y → Normal (exp 60 y) → T (fits binary64 (exp 60 y)) → Sides n (exp 60 y) R
  unfolding above beneath
  sides nan t normal double = absurd t.is_finite
  sides (inf s) t normal double = absurd t.is_finite
  sides (fin false m e) t normal double = absurd (omega (arith, t.high, eqb→eq yb.H 0 (passed 0), ltb→lt 0 yb.J (passed 1)))
  sides (fin true m e) t normal double =
      let y : Float = fin true m e in
      let r : Float = exp 60 y in
      let r-units : Positive r = positive-units r normal.0 double in
      let v : ℕ = units_of y in
      let M : ℕ = num y in
      let d : ℕ = den y in
      let is : M * N ≡ v * d = scaled m e t.double in
      let few : M / (4 * d) ≤ 6 = fewer M d v is (down_pos e) (omega (arith, t.low, leb→le yb.M (24 * N) (passed 3))) in
      let w : InBounds (134 + M / (4 * d)) 60 r d (raised_by y b) = functions_near_60.exponential b b₀ least most y t.double tt normal in
      let small : 2 * n * yb.E ≤ N = le_trans (le_of_eq (omega arith)) (div-mul-le_self N (2 * yb.E)) in
      let low : (num r * (2 ^ 60 - 140)) ^ d * b.over ^ M ≤ b.under ^ M * (den r * 2 ^ 60) ^ d =
      le_trans (mul-le-mul_right (b.over ^ M) (pow-le-pow_left (mul-le-mul_left (num r) (omega (arith, few))) d)) (le_of_lt w.low) in
      let high : b.under ^ M * (den r * 2 ^ 60) ^ d ≤ (num r * (2 ^ 60 + 140)) ^ d * b.over ^ M =
      le_trans (le_of_lt w.high) (mul-le-mul_right (b.over ^ M) (pow-le-pow_left (mul-le-mul_left (num r) (omega (arith, few))) d)) in
      let A = both-above b.over b.under n some b₀ (not_below_one b least) (not_above-three b most) (num r * (2 ^ 60 - 140)) (den r * 2 ^ 60) (R.over * (2 ^ 80 + 1)) (R.under * 2 ^ 80) d Y.under M Y.plus Y.minus (down_pos e) t.some low is-power.high
      (exponent-above N yb.E n d M v Y.under Y.plus Y.minus N_pos small is (le_trans (omega arith) t.not_above)) in
      let B = both_below b.over b.under n some b₀ (not_below_one b least) (not_above-three b most) (num r * (2 ^ 60 + 140)) (den r * 2 ^ 60) (R.over * (2 ^ 80 - 1)) (R.under * 2 ^ 80) d Y.under M Y.plus Y.minus (down_pos e) t.some high is-power.low
      (exponent-below N yb.E n d M v Y.under Y.plus Y.minus N_pos small is (le_trans t.not_below (omega arith))) in
      record {
        above-part = units_of_lem (num r) (den r) (over r) (2 ^ 60 - 140) R.under (2 ^ 80) n (2 ^ 60) R.over (2 ^ 80 + 1) (n + 1) (den_pos r) r-units.is-over A;
        below-part = units-to (num r) (den r) (over r) (2 ^ 60 + 140) R.under (2 ^ 80) n (2 ^ 60) R.over (2 ^ 80 - 1) (n + 1) (den_pos r) r-units.is-over B;
      }

  pub tracks-exp : (y : Float) → Tracks yb y Y → Normal (exp 60 y) → T (fits binary64 (exp 60 y)) → L ≤ over (exp 60 y) → over (exp 60 y) ≤ H → Tracks (exponential L H yb) (exp 60 y) (of R)
  tracks-exp y t normal double bottom top =
      let r : Float = exp 60 y in
      let w : Sides n r R = sides y t normal double in
      positive-near (2 ^ 80) (wrong n) L H r R (lit< tt) is-power.proper normal.0 double bottom top
      (apart_of (2 ^ 80) (wrong n) (over r * R.under) (R.over * N) (α n) (β n) (γ n) (δ n) (mul-pos (lit< tt) (omega arith)) (mul-pos (lit< tt) some) w.above-part w.below-part
      (leb→le (2 ^ 80 * β n) (2 ^ 80 * α n + wrong n * β n) (passed 4)) (leb→le (2 ^ 80 * δ n) (2 ^ 80 * γ n + wrong n * γ n) (passed 5)))
