-- There are fractions that stand for a square root and for a power: what is promised of all of them is promised of some. Assumes nothing.
use Rattle.exact.proofs.Kit.{◌≡◌, sym, ap, ◌∙◌, subst, ℕ, zero, suc, ◌+◌, ◌-◌, ◌*◌, ◌^◌, ◌≤◌, ◌<◌, le_refl, le_trans, le_of_eq, le_of_lt, lt_of_lt_of_le, lt_of_le_of_lt, lt_of_not-le, not-le_of_lt, one-mul, ne_of_gt, mul_assoc, mul_right_comm, mul-pos, mul-one, mul-le-mul, mul-le-mul_right, mul-le-mul_left, le_of_mul-le-mul_right, lt_of_mul-lt-mul_right, mul-lt-mul_of_pos_right, one-le-pow, pow-suc, pow-le-pow_left, pow-lt-pow_left, dec_le, arith, lit<, lit≤, pow_pos, Float, over, under, Fraction, pow-one, pow-product, lt-of-squares, Exact, ◌⊞◌, opposite, ◌⊠◌, ◌÷◌, IsRoot, IsPower}
use Rattle.exact.proofs.Rounded.{N, N_pos}
use Rattle.exact.proofs.Tracks.{Bounds, Tracks}

-- ---- the last number from s on whose f is at most c
record Last (f : ℕ → ℕ) (c s : ℕ) : Type 0 where
  at : ℕ
  least : s ≤ at
  below : f at ≤ c
  beyond : c < f (at + 1)

last : (f : ℕ → ℕ) (c m n s : ℕ) → s + n ≡ m → f s ≤ c → c < f m → Last f c s
last f c m zero s e low high = absurd (not-le_of_lt high (subst (λ (x : ℕ). f x ≤ c) (sym (omega arith) ∙ e) low))
last f c m (suc n) s e low high = go (dec_le (f (s + 1)) c) (λ (h : f (s + 1) ≤ c). last f c m n (s + 1) (omega (arith, e)) h high)
  where
    go : Dec (f (s + 1) ≤ c) → (f (s + 1) ≤ c → Last f c (s + 1)) → Last f c s
    go (yes h) next = let l = next h in record { at = l.at; least = omega (arith, l.least); below = l.below; beyond = l.beyond }
    go (no h) next = record { at = s; least = le_refl s; below = low; beyond = lt_of_not-le h }

-- ---- a root of V / W, whose power to the U it is, but for one part in Z
module _ (V' W U Z : ℕ) (V₀ : 0 < V') (W₀ : 0 < W) (U₀ : 0 < U) (Z₀ : 0 < Z) where
  abbrev den' : ℕ
  den' = Z * W

  at_least : (x u : ℕ) → 0 < u → 0 < x → x ≤ x ^ u
  at_least x zero h x₀ = absurd (omega (arith, h))
  at_least x (suc u) h x₀ = le_trans (le_of_eq (sym (one-mul x))) (le_trans (mul-le-mul_right x (one-le-pow u x x₀)) (le_of_eq (sym (pow-suc x u))))

  from : Z ^ U * W ≤ V' * den' ^ U
  from =
      le_trans (mul-le-mul_left (Z ^ U) (at_least W U U₀ W₀)) (le_trans (le_of_eq (sym (one-mul (Z ^ U * W ^ U)))) (le_trans (mul-le-mul_right (Z ^ U * W ^ U) V₀) (le_of_eq (ap (λ (x : ℕ). V' * x) (sym (pow-product Z W U))))))

  to : V' * den' ^ U < (V' * den' + 1) ^ U * W
  to =
      lt_of_le_of_lt (le_trans (mul-le-mul_right (den' ^ U) (at_least V' U U₀ V₀)) (le_of_eq (sym (pow-product V' den' U))))
      (lt_of_lt_of_le (pow-lt-pow_left (step (V' * den')) (ne_of_gt U₀)) (le_trans (le_of_eq (sym (mul-one ((V' * den' + 1) ^ U)))) (mul-le-mul_left ((V' * den' + 1) ^ U) W₀)))
    where
      step : (x : ℕ) → x < x + 1
      step x = omega arith

  room : Z ≤ V' * den' + 1
  room = le_trans (le_of_eq (omega arith)) (le_trans (mul-le-mul V₀ (mul-le-mul_left Z W₀)) (grow (V' * den')))
    where
      grow : (x : ℕ) → x ≤ x + 1
      grow x = omega arith

  nearest : Last (λ x. x ^ U * W) (V' * den' ^ U) Z
  nearest = last (λ x. x ^ U * W) (V' * den' ^ U) (V' * den' + 1) (V' * den' + 1 - Z) Z (omega (arith, room)) from to

  abbrev num' : ℕ
  num' = nearest.at

  power-low : (k K : ℕ) → k ≤ K → (num' * k) ^ U * W ≤ V' * (den' * K) ^ U
  power-low k K h =
      rw (pow-product num' k U, pow-product den' K U)
      (le_trans (le_of_eq (mul_right_comm (num' ^ U) (k ^ U) W)) (le_trans (mul-le-mul nearest.below (pow-le-pow_left h U)) (le_of_eq (mul_assoc V' (den' ^ U) (K ^ U)))))

  power-high : V' * (den' * Z) ^ U ≤ (num' * (Z + 1)) ^ U * W
  power-high =
      rw (pow-product den' Z U)
      (le_trans (le_of_eq (sym (mul_assoc V' (den' ^ U) (Z ^ U)))) (le_trans (mul-le-mul_right (Z ^ U) (le_of_lt nearest.beyond)) (le_trans (le_of_eq (mul_right_comm ((num' + 1) ^ U) W (Z ^ U) ∙ ap (λ (x : ℕ). x * W) (sym (pow-product (num' + 1) Z U))))
      (mul-le-mul_right W (pow-le-pow_left (one_more num' nearest.least) U)))))
    where
      one_more : (n : ℕ) → Z ≤ n → (n + 1) * Z ≤ n * (Z + 1)
      one_more n h = omega (arith, h)

-- ---- the two fractions
square : (x : ℕ) → x ^ 2 ≡ x * x
square x = pow-suc x 1 ∙ ap (λ (y : ℕ). y * x) (pow-one x)

-- a root of A / U, for an A of B * B * U at most: g / h is at most B, and the square of the next fraction is at most 3 * B / h further
module _ (A U B Z : ℕ) (A₀ : 0 < A) (U₀ : 0 < U) (B₀ : 0 < B) (Z₀ : 0 < Z) (few : A ≤ B * B * U) where
  abbrev h : ℕ
  h = 3 * B * Z * U

  root : Last (λ x. x ^ 2 * U) (A * h ^ 2) (3 * B * Z)
  root = nearest A U 2 (3 * B * Z) A₀ U₀ (lit< tt) (mul-pos (mul-pos (lit< tt) B₀) Z₀)

  abbrev g : ℕ
  g = root.at

  low : g * g * U ≤ A * (h * h)
  low = rw (← square g, ← square h) root.below

  high : A * (h * h) * Z ≤ g * g * U * Z + h * h * U
  high =
      let next : A * (h * h) ≤ g * g * U + (2 * g + 1) * U = le_trans (le_of_lt (rw (square h, square (g + 1)) at root.beyond)) (le_of_eq (omega arith)) in
      let squares : g * g ≤ B * h * (B * h) = le_of_mul-le-mul_right {k = U} (le_trans low (le_trans (mul-le-mul_right (h * h) few) (le_of_eq (turn B U h)))) U₀ in
      let most : g ≤ B * h = below (lt-of-squares g (B * h + 1) (lt_of_le_of_lt squares (wider (B * h)))) in
      let some : 1 ≤ g = le_trans (mul-pos (mul-pos {m = 3} (lit< tt) B₀) Z₀) root.least in
      let fine : (2 * g + 1) * Z ≤ h * h = le_trans (mul-le-mul_right Z (thrice g some)) (le_trans (mul-le-mul_right Z (mul-le-mul_left 3 most)) (le_trans (le_of_eq (omega arith)) (mul-le-mul_left h (le_trans (le_of_eq (sym (mul-one (3 * B * Z)))) (mul-le-mul_left (3 * B * Z) U₀))))) in
      le_trans (mul-le-mul_right Z next) (le_trans (le_of_eq (omega arith)) (widen (g * g * U * Z) (mul-le-mul_right U fine)))
    where
      turn : (B U h : ℕ) → B * B * U * (h * h) ≡ B * h * (B * h) * U
      turn B U h = omega arith

      below : {g x : ℕ} → g < x + 1 → g ≤ x
      below l = omega (arith, l)

      wider : (v : ℕ) → v * v < (v + 1) * (v + 1)
      wider v = omega arith

      thrice : (g : ℕ) → 1 ≤ g → 2 * g + 1 ≤ 3 * g
      thrice g s = omega (arith, s)

      widen : {a b : ℕ} (c : ℕ) → a ≤ b → c + a ≤ c + b
      widen c l = omega (arith, l)

pub root-of : (B : ℕ) → 0 < B → (τ : Exact) → 0 < τ.under → τ.minus < τ.plus → τ.plus ≤ τ.minus + B * B * τ.under → (k : Fraction) × IsRoot k τ
unfolding ◌⊞◌ opposite
root-of B B₀ τ U₀ low' high' =
    let U : ℕ = τ.under in
    let A : ℕ = τ.plus - τ.minus in
    let A₀ : 0 < A = omega (arith, low') in
    let few : A ≤ B * B * U = omega (arith, high') in
    let G : ℕ = g A U B (2 ^ 80) A₀ U₀ B₀ (pow_pos 80) few in
    let H : ℕ = h A U B (2 ^ 80) A₀ U₀ B₀ (pow_pos 80) few in
    let whole : A + τ.minus ≡ τ.plus = omega (arith, low') in (
      record { over = G; under = H },
      record {
        proper = mul-pos (mul-pos (mul-pos (lit< tt) B₀) (pow_pos 80)) U₀;
        not_above = rw (square G, square H) (above_of (G * G) (H * H) U A τ.plus τ.minus (2 ^ 80) whole (low A U B (2 ^ 80) A₀ U₀ B₀ (pow_pos 80) few));
        not_below = rw (square G, square H) (below_of (G * G) (H * H) U A τ.plus τ.minus (2 ^ 80) whole (high A U B (2 ^ 80) A₀ U₀ B₀ (pow_pos 80) few));
      },
    )
  where
    widen : {x y : ℕ} (z : ℕ) → x ≤ y → x + z ≤ y + z
    widen z h = omega (arith, h)

    le-add : (x y : ℕ) → x ≤ x + y
    le-add x y = omega arith

    above_of : (a b U A P Q Z : ℕ) → A + Q ≡ P → a * U ≤ A * b → (a * U + Q * b) * Z ≤ (0 * U + P * b) * Z + b * U
    above_of a b U A P Q Z e i = let j : a * U + Q * b ≤ 0 * U + P * b = omega (arith, i, ap (λ (x : ℕ). x * b) e) in le_trans (mul-le-mul_right Z j) (le-add ((0 * U + P * b) * Z) (b * U))

    below_of : (a b U A P Q Z : ℕ) → A + Q ≡ P → A * b * Z ≤ a * U * Z + b * U → (0 * U + P * b) * Z ≤ (a * U + Q * b) * Z + b * U
    below_of a b U A P Q Z e h = le_trans (le_of_eq (ap (λ (x : ℕ). (0 * U + x * b) * Z) (sym e) ∙ omega arith)) (le_trans (widen (Q * b * Z) h) (le_of_eq (omega arith)))

pub power-of : (b : Fraction) (Y : Exact) → 0 < b.over → 0 < b.under → 0 < Y.under → (r : Fraction) × IsPower b Y r
power-of b Y β₀ γ₀ U₀ =
    let P : ℕ = Y.plus in
    let Q : ℕ = Y.minus in
    let U : ℕ = Y.under in
    let v : ℕ = b.over ^ P * b.under ^ Q in
    let w : ℕ = b.under ^ P * b.over ^ Q in
    let v₀ : 0 < v = mul-pos (one-le-pow P b.over β₀) (one-le-pow Q b.under γ₀) in
    let w₀ : 0 < w = mul-pos (one-le-pow P b.under γ₀) (one-le-pow Q b.over β₀) in (
      record { over = num' v w U (2 ^ 80) v₀ w₀ U₀ (pow_pos 80); under = 2 ^ 80 * w },
      record {
        proper = mul-pos (pow_pos 80) w₀;
        low = power-low v w U (2 ^ 80) v₀ w₀ U₀ (pow_pos 80) (2 ^ 80 - 1) (2 ^ 80) (lit≤ tt);
        high = power-high v w U (2 ^ 80) v₀ w₀ U₀ (pow_pos 80);
      },
    )

-- ---- denominators
pub proper-product : (a b : Exact) → 0 < a.under → 0 < b.under → 0 < (a ⊠ b).under
unfolding ◌⊠◌
proper-product a b h i = mul-pos h i

pub proper-sum : (a b : Exact) → 0 < a.under → 0 < b.under → 0 < (a ⊞ b).under
unfolding ◌⊞◌
proper-sum a b h i = mul-pos h i

pub proper-quotient : (a b : Exact) → 0 < a.under → b.minus < b.plus → 0 < (a ÷ b).under
unfolding ◌÷◌
proper-quotient a b h i = mul-pos h (omega (arith, i))

-- ---- the bounds of what is tracked
pub above_zero : {b : Bounds} (x : Float) (X : Exact) → Tracks b x X → b.M ≡ 0 → b.E < b.L → X.minus < X.plus
above_zero {b} x X t none more = go (over x) (under x) X.plus X.minus X.under b.L b.E t.some (omega (arith, t.low, none)) more t.not_above
  where
    go : (o u P Q K L E : ℕ) → 0 < K → u + L ≤ o → E < L → o * K + Q * N ≤ u * K + P * N + E * K → Q < P
    go o u P Q K L E K₀ a m c = lt_of_mul-lt-mul_right N (omega (arith, mul-le-mul_right K a, mul-lt-mul_of_pos_right m K₀, c))

pub below-square : {b : Bounds} (B : ℕ) (x : Float) (X : Exact) → Tracks b x X → b.H + b.E ≤ B * B * N → X.plus ≤ X.minus + B * B * X.under
below-square {b} B x X t less = go (over x) (under x) X.plus X.minus X.under b.H b.J b.E t.high less t.not_below
  where
    go : (o u P Q K H J E : ℕ) → o + J ≤ u + H → H + E ≤ B * B * N → u * K + P * N ≤ o * K + Q * N + E * K → P ≤ Q + B * B * K
    go o u P Q K H J E a l c = le_of_mul-le-mul_right {k = N} (omega (arith, mul-le-mul_right K a, mul-le-mul_right K l, c)) N_pos
