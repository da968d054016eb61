-- A double tracks an exact number: both bounds of the double, and how far it is from the number, in units of 2 ^ -1074; and what an operation makes of two
-- of them. Assumes nothing.
use Rattle.exact.proofs.Kit.{◌≡◌, refl, ap, ◌∙◌, Bool, true, false, ◌&&◌, cond, ℕ, zero, suc, ◌+◌, ◌-◌, ◌*◌, ◌/◌, ◌^◌, ◌≤◌, ◌<◌, zero-le, le_trans, le_of_eq, lt_of_lt_of_le, lt_of_le_of_lt, mul-pos, mul-le-mul, mul-le-mul_right, mul-le-mul_left, le_of_mul-le-mul_right, div-mul-le_self, lt-div-mul-add, mul-lt-mul_of_pos_right, zero-mul, zero-div, arith, ℤ, T, leb, ltb, eqb, leb→le, ltb→lt, eqb→eq, Float, nan, inf, fin, binary64, up, down, size, neg, add, mul, div, fits, neg-fits, finite, le-max_left, le-max_right, units_of, above, beneath, over, under, Exact, ◌⊞◌, opposite, ◌⊠◌, ◌÷◌}
use Prim.Native.Nat.{max}
use Rattle.arithmetic.proofs.Near.{Step, Near}
use Rattle.exact.proofs.Errors.{product-bound, sum-error, product-error, quotient-error, divisor_pos}
use Rattle.exact.proofs.Rounded.{N, N_pos, step_of, fine_enough, add-rounded, mul-rounded, div-rounded}

-- the double lies from L - M to H - J, and E at most from the number; `good`: every test on the way was passed
pub record Bounds : Type 0 where
  pub L : ℕ
  pub M : ℕ
  pub H : ℕ
  pub J : ℕ
  pub E : ℕ
  pub good : Bool

-- with one of each pair nought
abbrev pub bounds : ℕ → ℕ → ℕ → ℕ → ℕ → Bool → Bounds
bounds L M H J E good = record { L = L - M; M = M - L; H = H - J; J = J - H; E = E; good = good }

-- the size of the double
abbrev pub most : Bounds → ℕ
most b = max b.H b.M

pub record Tracks (b : Bounds) (x : Float) (X : Exact) : Type 0 where
  pub some : 0 < X.under
  pub is_finite : T (finite x)
  pub double : T (fits binary64 x)
  pub low : under x + b.L ≤ over x + b.M
  pub high : over x + b.J ≤ under x + b.H
  pub not_above : over x * X.under + X.minus * N ≤ under x * X.under + X.plus * N + b.E * X.under
  pub not_below : under x * X.under + X.plus * N ≤ over x * X.under + X.minus * N + b.E * X.under

-- ---- the size
size-most : {b : Bounds} (x : Float) (X : Exact) → Tracks b x X → units_of x ≤ most b
unfolding above beneath
size-most nan X t = absurd t.is_finite
size-most (inf s) X t = absurd t.is_finite
size-most {b} (fin false m e) X t = omega (arith, t.high, le-max_left b.H b.M)
size-most {b} (fin true m e) X t = omega (arith, t.low, le-max_right b.H b.M)

sides-most : {b : Bounds} (x : Float) (X : Exact) → Tracks b x X → (over x ≤ under x + most b) × (under x ≤ over x + most b)
sides-most {b} x X t = (omega (arith, t.high, le-max_left b.H b.M), omega (arith, t.low, le-max_right b.H b.M))

-- ---- the opposite
abbrev pub opposed : Bounds → Bounds
opposed b = record { L = b.J; M = b.H; H = b.M; J = b.L; E = b.E; good = b.good }

opposite-over : (z : Float) → (over (neg z) ≡ under z) × (under (neg z) ≡ over z)
unfolding neg above beneath
opposite-over nan = (refl, refl)
opposite-over (inf s) = (refl, refl)
opposite-over (fin false m e) = (refl, refl)
opposite-over (fin true m e) = (refl, refl)

neg-finite : (z : Float) → T (finite z) → T (finite (neg z))
unfolding neg
neg-finite nan h = h
neg-finite (inf s) h = h
neg-finite (fin s m e) h = tt

pub tracks-neg : {b : Bounds} (x : Float) (X : Exact) → Tracks b x X → Tracks (opposed b) (neg x) (opposite X)
unfolding opposite
tracks-neg x X t =
    let o = (opposite-over x).0 in
    let u = (opposite-over x).1 in
    record {
      some = t.some;
      is_finite = neg-finite x t.is_finite;
      double = neg-fits binary64 x t.double;
      low = rw (o, u) t.high;
      high = rw (o, u) t.low;
      not_above = rw (o, u) t.not_below;
      not_below = rw (o, u) t.not_above;
    }

-- ---- the sum
-- how large it is before rounding
abbrev pub sum_size : Bounds → Bounds → ℕ
sum_size a b = max (a.H + b.H - (a.J + b.J)) (a.M + b.M - (a.L + b.L))

abbrev pub small : ℕ → Bool
small D = leb (size D - 53) 2000

step_of_lem : (D : ℕ) → T (small D) → Step (step_of D)
step_of_lem D h = (size D - 53, leb→le (size D - 53) 2000 h, refl)

abbrev pub summed : Bounds → Bounds → Bounds
summed a b =
    let U = step_of (sum_size a b) in
    bounds (a.L + b.L) (a.M + b.M + U) (a.H + b.H + U) (a.J + b.J) (a.E + b.E + U) (a.good && b.good && small (sum_size a b))

both : {a b : Bounds} (P : Float → Float → Type 0) → ((s t : Bool) (m n : ℕ) (e d : ℤ) → P (fin s m e) (fin t n d)) → (x y : Float) (X Y : Exact) → Tracks a x X → Tracks b y Y → P x y
both P f nan y X Y p q = absurd p.is_finite
both P f (inf s) y X Y p q = absurd p.is_finite
both P f (fin s m e) nan X Y p q = absurd q.is_finite
both P f (fin s m e) (inf t) X Y p q = absurd q.is_finite
both P f (fin s m e) (fin t n d) X Y p q = f s t m n e d

pub tracks-add : (a b : Bounds) (x y : Float) (X Y : Exact) → Tracks a x X → Tracks b y Y → T (small (sum_size a b)) → Tracks (summed a b) (add binary64 x y) (X ⊞ Y)
unfolding ◌⊞◌
tracks-add a b x y X Y p q fine =
    let D : ℕ = sum_size a b in
    let U : ℕ = step_of D in
    let left = le-max_left (a.H + b.H - (a.J + b.J)) (a.M + b.M - (a.L + b.L)) in
    let right = le-max_right (a.H + b.H - (a.J + b.J)) (a.M + b.M - (a.L + b.L)) in
    let h : over x + over y ≤ under x + under y + D = omega (arith, left, p.high, q.high) in
    let l : under x + under y ≤ over x + over y + D = omega (arith, right, p.low, q.low) in
    let r : Near U 1 (over x + over y) (under x + under y) (add binary64 x y) =
    both (λ x y. T (fits binary64 x) → T (fits binary64 y) → over x + over y ≤ under x + under y + D → under x + under y ≤ over x + over y + D → Near U 1 (over x + over y) (under x + under y) (add binary64 x y))
    (λ s t m n e d f g h l. add-rounded s t m n e d f g U (step_of_lem D fine) D h l (fine_enough D)) x y X Y p q p.double q.double h l in
    record {
      some = mul-pos p.some q.some;
      is_finite = r.is_finite;
      double = r.double;
      low = lower (over (add binary64 x y)) (under (add binary64 x y)) (over x) (under x) (over y) (under y) a.L b.L a.M b.M U (omega (arith, r.not_below)) p.low q.low;
      high = upper (over (add binary64 x y)) (under (add binary64 x y)) (over x) (under x) (over y) (under y) a.H b.H a.J b.J U (omega (arith, r.not_above)) p.high q.high;
      not_above = sum-error N (over (add binary64 x y)) (under (add binary64 x y)) (over x) (under x) (over y) (under y) X.plus X.minus X.under Y.plus Y.minus Y.under U a.E b.E (omega (arith, r.not_above)) p.not_above q.not_above;
      not_below = sum-error N (under (add binary64 x y)) (over (add binary64 x y)) (under x) (over x) (under y) (over y) X.minus X.plus X.under Y.minus Y.plus Y.under U a.E b.E (omega (arith, r.not_below)) p.not_below q.not_below;
    }
  where
    lower : (zo zu xo xu yo yu L₁ L₂ M₁ M₂ U : ℕ) → zu + (xo + yo) ≤ zo + (xu + yu) + U → xu + L₁ ≤ xo + M₁ → yu + L₂ ≤ yo + M₂ → zu + (L₁ + L₂ - (M₁ + M₂ + U)) ≤ zo + (M₁ + M₂ + U - (L₁ + L₂))
    lower zo zu xo xu yo yu L₁ L₂ M₁ M₂ U h i j = omega (arith, h, i, j)

    upper : (zo zu xo xu yo yu H₁ H₂ J₁ J₂ U : ℕ) → zo + (xu + yu) ≤ zu + (xo + yo) + U → xo + J₁ ≤ xu + H₁ → yo + J₂ ≤ yu + H₂ → zo + (J₁ + J₂ - (H₁ + H₂ + U)) ≤ zu + (H₁ + H₂ + U - (J₁ + J₂))
    upper zo zu xo xu yo yu H₁ H₂ J₁ J₂ U h i j = omega (arith, h, i, j)

-- ---- the product
-- above a / b
abbrev over_quotient : ℕ → ℕ → ℕ
over_quotient a b = a / b + 1

above_quotient : (a b : ℕ) → 0 < b → a ≤ over_quotient a b * b
above_quotient a b B = omega (arith, lt-div-mul-add {a = a} B)

abbrev pub product_size : Bounds → Bounds → ℕ
product_size a b = over_quotient (most a * most b) N

-- where what is multiplied or divided keeps to one side of zero, so does the result: it is at least L above zero, or L' where the second holds, and else D below it
-- at most
abbrev least : Bool → Bool → ℕ → ℕ → ℕ
least c c' L L' = cond c L (cond c' L' 0)

abbrev slack : Bool → Bool → ℕ → ℕ → ℕ
slack c c' U D = cond c U (cond c' U (D + U))

-- z is within U of (P - Q) / k
one_side : (k : ℕ) → 0 < k → (c c' : Bool) (L L' zo zu P Q U D : ℕ) → (T c → L * k + Q ≤ P) → (T c' → L' * k + Q ≤ P) → Q ≤ P + D * k → zu * k + P ≤ zo * k + Q + U * k → zu + (least c c' L L' - slack c c' U D) ≤ zo + (slack c c' U D - least c c' L L')
one_side k k₀ c c' L L' zo zu P Q U D first second third h = go c c' first second
  where
    apart : (L : ℕ) → L * k + Q ≤ P → zu + (L - U) ≤ zo + (U - L)
    apart L i = omega (arith, le_of_mul-le-mul_right {m = zu + L} {n = zo + U} {k = k} (omega (arith, h, i)) k₀)

    go : (c c' : Bool) → (T c → L * k + Q ≤ P) → (T c' → L' * k + Q ≤ P) → zu + (least c c' L L' - slack c c' U D) ≤ zo + (slack c c' U D - least c c' L L')
    go true c' i j = apart L (i tt)
    go false true i j = apart L' (j tt)
    go false false i j = omega (arith, le_of_mul-le-mul_right {m = zu} {n = zo + (D + U)} {k = k} (omega (arith, h, third)) k₀)

-- how far the product goes to one side where a factor is nowhere below zero, and the other goes m or m' to that side; and else D
abbrev reach : Bounds → Bounds → ℕ → ℕ → ℕ → ℕ
reach a b m m' D = cond (eqb a.M 0) (over_quotient (a.H * m) N) (cond (eqb b.M 0) (over_quotient (b.H * m') N) D)

reached : (c c' : Bool) (A B D P Q : ℕ) → (T c → Q ≤ P + A) → (T c' → Q ≤ P + B) → Q ≤ P + D * N → Q ≤ P + cond c (over_quotient A N) (cond c' (over_quotient B N) D) * N
reached true c' A B D P Q f g h = omega (arith, f tt, above_quotient A N N_pos)
reached false true A B D P Q f g h = omega (arith, g tt, above_quotient B N N_pos)
reached false false A B D P Q f g h = h

product-reach : (xo xu yo yu H m : ℕ) → xu ≤ xo → xo ≤ xu + H → yu ≤ yo + m → xo * yu + xu * yo ≤ xo * yo + xu * yu + H * m
product-reach xo xu yo yu H m h i j =
    let u : ℕ = xo - xu in
    let e : xo ≡ xu + u = omega arith in
    let few : u ≤ H = omega arith in
    omega (arith, ap (λ (x : ℕ). x * yu) e, ap (λ (x : ℕ). x * yo) e, mul-le-mul_left u j, mul-le-mul_right m few)

abbrev pub multiplied : Bounds → Bounds → Bounds
multiplied a b =
    let D = product_size a b in
    let U = step_of D in
    let up = eqb (a.M + b.M) 0 in
    let up' = eqb (a.H + b.H) 0 in
    let down = eqb (a.M + b.H) 0 in
    let down' = eqb (a.H + b.M) 0 in
    bounds (least up up' (a.L * b.L / N) (a.J * b.J / N)) (slack up up' U (reach a b b.M a.M D)) (slack down down' U (reach a b b.H a.H D)) (least down down' (a.L * b.J / N) (a.J * b.L / N))
    (over_quotient (a.E * most b + (most a + a.E) * b.E) N + U) (a.good && b.good && small D)

product-least : (xo xu yo yu L₁ L₂ : ℕ) → xu + L₁ ≤ xo → yu + L₂ ≤ yo → L₁ * L₂ + (xo * yu + xu * yo) ≤ xo * yo + xu * yu
product-least xo xu yo yu L₁ L₂ h i =
    let u : ℕ = xo - xu in
    let v : ℕ = yo - yu in
    let eu : xo ≡ xu + u = omega arith in
    let ev : yo ≡ yu + v = omega arith in
    let p : L₁ * L₂ ≤ u * v = mul-le-mul (omega arith) (omega arith) in
    omega (arith, p, ap (λ (x : ℕ). x * yo) eu, ap (λ (x : ℕ). x * yu) eu, ap (λ (x : ℕ). u * x) ev)

-- the product lies within a step of the exact one
pub mul-near : (a b : Bounds) (x y : Float) (X Y : Exact) → Tracks a x X → Tracks b y Y → T (small (product_size a b)) → Near (step_of (product_size a b)) N (over x * over y + under x * under y) (over x * under y + under x * over y) (mul binary64 x y)
mul-near a b x y X Y p q fine =
    let D : ℕ = product_size a b in
    let U : ℕ = step_of D in
    both (λ x y. T (fits binary64 x) → T (fits binary64 y) → units_of x * units_of y < 2 ^ 53 * U * N → Near U N (over x * over y + under x * under y) (over x * under y + under x * over y) (mul binary64 x y))
    (λ s t m n e d f g l. mul-rounded s t m n e d f g U (step_of_lem D fine) l) x y X Y p q p.double q.double
    (lt_of_le_of_lt (le_trans (mul-le-mul (size-most x X p) (size-most y Y q)) (above_quotient (most a * most b) N N_pos)) (mul-lt-mul_of_pos_right (fine_enough D) N_pos))

pub tracks-mul : (a b : Bounds) (x y : Float) (X Y : Exact) → Tracks a x X → Tracks b y Y → T (small (product_size a b)) → Tracks (multiplied a b) (mul binary64 x y) (X ⊠ Y)
unfolding ◌⊠◌
tracks-mul a b x y X Y p q fine =
    let D : ℕ = product_size a b in
    let U : ℕ = step_of D in
    let A : ℕ = most a in
    let B : ℕ = most b in
    let z : Float = mul binary64 x y in
    let P : ℕ = over x * over y + under x * under y in
    let Q : ℕ = over x * under y + under x * over y in
    let room : A * B ≤ D * N = above_quotient (A * B) N N_pos in
    let r : Near U N P Q z = mul-near a b x y X Y p q fine in
    let sx = sides-most x X p in
    let sy = sides-most y Y q in
    let F : ℕ = over_quotient (a.E * B + (A + a.E) * b.E) N in
    let enough : a.E * B + (A + a.E) * b.E + U * N ≤ (F + U) * N = omega (arith, above_quotient (a.E * B + (A + a.E) * b.E) N N_pos) in
    record {
      some = mul-pos p.some q.some;
      is_finite = r.is_finite;
      double = r.double;
      low =
          one_side N N_pos (eqb (a.M + b.M) 0) (eqb (a.H + b.H) 0) (a.L * b.L / N) (a.J * b.J / N) (over z) (under z) P Q U (reach a b b.M a.M D)
          (λ h. above_of (over x) (under x) (over y) (under y) a.L a.M b.L b.M (eqb→eq (a.M + b.M) 0 h) p.low q.low)
          (λ h. omega (arith, above_of (under x) (over x) (under y) (over y) a.J a.H b.J b.H (eqb→eq (a.H + b.H) 0 h) p.high q.high))
          (reached (eqb a.M 0) (eqb b.M 0) (a.H * b.M) (b.H * a.M) D P Q (λ h. product-reach (over x) (under x) (over y) (under y) a.H b.M (omega (arith, eqb→eq a.M 0 h, p.low)) (omega (arith, p.high)) (omega (arith, q.low)))
          (λ h. omega (arith, product-reach (over y) (under y) (over x) (under x) b.H a.M (omega (arith, eqb→eq b.M 0 h, q.low)) (omega (arith, q.high)) (omega (arith, p.low))))
          (le_trans (product-bound (over x) (under x) (under y) (over y) A B sx.0 sx.1 sy.1 sy.0) (omega (arith, room)))) r.not_below;
      high =
          one_side N N_pos (eqb (a.M + b.H) 0) (eqb (a.H + b.M) 0) (a.L * b.J / N) (a.J * b.L / N) (under z) (over z) Q P U (reach a b b.H a.H D)
          (λ h. above_of (over x) (under x) (under y) (over y) a.L a.M b.J b.H (eqb→eq (a.M + b.H) 0 h) p.low q.high)
          (λ h. omega (arith, above_of (under x) (over x) (over y) (under y) a.J a.H b.L b.M (eqb→eq (a.H + b.M) 0 h) p.high q.low))
          (reached (eqb a.M 0) (eqb b.M 0) (a.H * b.H) (b.H * a.H) D Q P (λ h. product-reach (over x) (under x) (under y) (over y) a.H b.H (omega (arith, eqb→eq a.M 0 h, p.low)) (omega (arith, p.high)) (omega (arith, q.high)))
          (λ h. omega (arith, product-reach (over y) (under y) (under x) (over x) b.H a.H (omega (arith, eqb→eq b.M 0 h, q.low)) (omega (arith, q.high)) (omega (arith, p.high))))
          (le_trans (product-bound (over x) (under x) (over y) (under y) A B sx.0 sx.1 sy.0 sy.1) (omega (arith, room)))) r.not_above;
      not_above =
          product-error N (over z) (under z) (over x) (under x) (over y) (under y) X.plus X.minus X.under Y.plus Y.minus Y.under U A B a.E b.E (F + U) N_pos
          sx.0 sx.1 sy.0 sy.1 (omega (arith, r.not_above)) p.not_above p.not_below q.not_above q.not_below enough;
      not_below =
          le_trans (le_of_eq (omega arith))
          (le_trans (product-error N (under z) (over z) (under x) (over x) (over y) (under y) X.minus X.plus X.under Y.plus Y.minus Y.under U A B a.E b.E (F + U) N_pos
          sx.1 sx.0 sy.0 sy.1 (omega (arith, r.not_below)) p.not_below p.not_above q.not_above q.not_below enough) (le_of_eq (omega arith)));
    }
  where
    above_of : (xo xu yo yu L₁ M₁ L₂ M₂ : ℕ) → M₁ + M₂ ≡ 0 → xu + L₁ ≤ xo + M₁ → yu + L₂ ≤ yo + M₂ → L₁ * L₂ / N * N + (xo * yu + xu * yo) ≤ xo * yo + xu * yu
    above_of xo xu yo yu L₁ M₁ L₂ M₂ e h i = omega (arith, product-least xo xu yo yu L₁ L₂ (omega (arith, e, h)) (omega (arith, e, i)), div-mul-le_self (L₁ * L₂) N)

-- ---- the quotient
abbrev pub quotient_size : Bounds → Bounds → ℕ
quotient_size a b = over_quotient (most a * N) b.L

abbrev pub divided : Bounds → Bounds → Bounds
divided a b =
    let D = quotient_size a b in
    let U = step_of D in
    let W = over_quotient ((most a + a.E) * b.E * N) (b.L - b.E) in
    let F = over_quotient (a.E * N + W) b.L in
    let up = eqb a.M 0 in
    let down = eqb a.H 0 in
    bounds (least up false (a.L * N / b.H) 0) (slack up false U D) (slack down false U D) (least down false (a.J * N / b.H) 0) (U + F) (a.good && b.good && small D && eqb b.M 0 && ltb b.E b.L)

-- what is above zero is all of it
pub positive-by : {a b : Bounds} (P : Float → Float → Type 0) → ((s : Bool) (m n : ℕ) (e d : ℤ) → P (fin s m e) (fin false (suc n) d)) → (x y : Float) (X Y : Exact) → Tracks a x X → Tracks b y Y → b.M ≡ 0 → 0 < b.L → P x y
unfolding above beneath
positive-by P f nan y X Y p q e l = absurd p.is_finite
positive-by P f (inf s) y X Y p q e l = absurd p.is_finite
positive-by P f (fin s m k) nan X Y p q e l = absurd q.is_finite
positive-by P f (fin s m k) (inf t) X Y p q e l = absurd q.is_finite
positive-by {b = b} P f (fin s m k) (fin true n d) X Y p q e l = absurd (omega (arith, q.low, e, l))
positive-by {b = b} P f (fin s m k) (fin false zero d) X Y p q e l = absurd (nothing d q.low)
  where
    nothing : (d : ℤ) → 0 + b.L ≤ units_of (fin false 0 d) + b.M → ⊥
    nothing d h = omega (arith, h, e, l, none d)
      where
        none : (d : ℤ) → units_of (fin false 0 d) ≡ 0
        none d = ap (λ (x : ℕ). x / down d) (ap (λ (x : ℕ). x * 2 ^ 1074) (zero-mul (up d)) ∙ zero-mul (2 ^ 1074)) ∙ zero-div (down d)
positive-by P f (fin s m k) (fin false (suc n) d) X Y p q e l = f s m n k d

-- the quotient by what is above zero lies within a step of the exact one
pub div-near : (a b : Bounds) (x y : Float) (X Y : Exact) → Tracks a x X → Tracks b y Y → T (small (quotient_size a b)) → b.M ≡ 0 → 0 < b.L → Near (step_of (quotient_size a b)) (over y) (over x * N) (under x * N) (div binary64 x y)
unfolding above beneath
div-near a b x y X Y p q fine M₀ L₀ =
    let D : ℕ = quotient_size a b in
    let U : ℕ = step_of D in
    let w : (under y ≡ 0) × (over y ≡ units_of y) = positive-by (λ x y. (under y ≡ 0) × (over y ≡ units_of y)) (λ s m n e d. (refl, refl)) x y X Y p q M₀ L₀ in
    let large : b.L ≤ over y = omega (arith, q.low, M₀, w.0) in
    positive-by (λ x y. T (fits binary64 x) → T (fits binary64 y) → 0 < over y → units_of x * N < 2 ^ 53 * U * units_of y → Near U (over y) (over x * N) (under x * N) (div binary64 x y))
    (λ s m n e d f g o l. div-rounded s m n e d f g U (step_of_lem D fine) o l) x y X Y p q M₀ L₀ p.double q.double (omega (arith, large, L₀))
    (lt_of_le_of_lt (le_trans (mul-le-mul_right N (size-most x X p)) (above_quotient (most a * N) b.L L₀)) (lt_of_lt_of_le (mul-lt-mul_of_pos_right (fine_enough D) L₀) (mul-le-mul_left (2 ^ 53 * U) (omega (arith, large, w.1)))))

pub tracks-div : (a b : Bounds) (x y : Float) (X Y : Exact) → Tracks a x X → Tracks b y Y → T (small (quotient_size a b)) → T (eqb b.M 0) → T (ltb b.E b.L) → Tracks (divided a b) (div binary64 x y) (X ÷ Y)
unfolding ◌÷◌ above beneath
tracks-div a b x y X Y p q fine none clear =
    let D : ℕ = quotient_size a b in
    let U : ℕ = step_of D in
    let A : ℕ = most a in
    let z : Float = div binary64 x y in
    let M₀ : b.M ≡ 0 = eqb→eq b.M 0 none in
    let apart : b.E < b.L = ltb→lt b.E b.L clear in
    let L₀ : 0 < b.L = omega (arith, apart) in
    let none-under : under y ≡ 0 = positive-by (λ x y. under y ≡ 0) (λ s m n e d. refl) x y X Y p q M₀ L₀ in
    let v : ℕ = over y in
    let large : b.L ≤ v = omega (arith, q.low, M₀, none-under) in
    let v₀ : 0 < v = omega (arith, large, L₀) in
    let room : A * N ≤ D * b.L = above_quotient (A * N) b.L L₀ in
    let r : Near U v (over x * N) (under x * N) z = div-near a b x y X Y p q fine M₀ L₀ in
    let sx = sides-most x X p in
    let W : ℕ = over_quotient ((A + a.E) * b.E * N) (b.L - b.E) in
    let F : ℕ = over_quotient (a.E * N + W) b.L in
    let j⁺ : v * Y.under + Y.minus * N ≤ Y.plus * N + b.E * Y.under = le_trans q.not_above (le_of_eq (rw none-under (omega arith))) in
    let j⁻ : Y.plus * N ≤ v * Y.under + Y.minus * N + b.E * Y.under = le_trans (omega arith) q.not_below in
    let shared : (A + a.E) * b.E * N ≤ W * (b.L - b.E) = above_quotient ((A + a.E) * b.E * N) (b.L - b.E) (omega (arith, apart)) in
    let enough : a.E * N + W ≤ F * b.L = above_quotient (a.E * N + W) b.L L₀ in
    record {
      some = mul-pos p.some (divisor_pos N v Y.plus Y.minus Y.under b.L b.E N_pos q.some large apart j⁺ j⁻);
      is_finite = r.is_finite;
      double = r.double;
      low = one_side v v₀ (eqb a.M 0) false (a.L * N / b.H) 0 (over z) (under z) (over x * N) (under x * N) U D (λ h. least-of (over x) (under x) a.L a.M (eqb→eq a.M 0 h) p.low) (λ h. absurd h) (le_trans (mul-le-mul_right N sx.1) (omega (arith, room, mul-le-mul_left D large))) r.not_below;
      high = one_side v v₀ (eqb a.H 0) false (a.J * N / b.H) 0 (under z) (over z) (under x * N) (over x * N) U D (λ h. least-of (under x) (over x) a.J a.H (eqb→eq a.H 0 h) p.high) (λ h. absurd h) (le_trans (mul-le-mul_right N sx.0) (omega (arith, room, mul-le-mul_left D large))) r.not_above;
      not_above =
          quotient-error N v Y.plus Y.minus Y.under b.L b.E N_pos q.some large apart j⁺ j⁻ (over z) (under z) (over x) (under x) X.plus X.minus X.under U A a.E W F
          sx.0 sx.1 r.not_above p.not_above p.not_below shared enough;
      not_below =
          quotient-error N v Y.plus Y.minus Y.under b.L b.E N_pos q.some large apart j⁺ j⁻ (under z) (over z) (under x) (over x) X.minus X.plus X.under U A a.E W F
          sx.1 sx.0 r.not_below p.not_below p.not_above shared enough;
    }
  where
    least-of : (o u L M : ℕ) → M ≡ 0 → u + L ≤ o + M → L * N / b.H * over y + u * N ≤ o * N
    least-of o u L M e h =
        let whole : L * N / b.H * over y ≤ L * N = le_trans (mul-le-mul_left (L * N / b.H) (omega (arith, q.high, positive-by (λ x y. under y ≡ 0) (λ s m n e d. refl) x y X Y p q (eqb→eq b.M 0 none) (lt_of_le_of_lt zero-le (ltb→lt b.E b.L clear))))) (div-mul-le_self (L * N) b.H) in
        let some : u + L ≤ o = omega (arith, h, e) in
        omega (arith, whole, mul-le-mul_right N some)
