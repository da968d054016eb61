-- The density of dry air at one pressure falls with every degree. Z moves less than T does in a degree, so that the divisor Z R T is greater by more than a rounding
-- can hide. All numbers are counts of units of 2 ^ -1074. Assumes nothing.
use Rattle.near.proofs.Kit.{◌≡◌, refl, sym, ap, Bool, ◌&&◌, List, [], ◌∷◌, ℕ, ◌+◌, ◌-◌, ◌*◌, ◌^◌, ◌≤◌, ◌<◌, le_refl, le_trans, le_of_eq, lt_of_not-le, mul-pos, mul-le-mul_right, mul-le-mul_left, le_of_mul-le-mul_right, dec_le, arith, T, eqb, leb, ltb, eqb→eq, leb→le, ltb→lt, Float, binary64, span, climb, size, odd, units, round, sum, neg, add, sub, mul, div, of_fields, of_bits, fits, lt, and_l, and_r, finite, decimal, nought, hundred, ◌⊕◌, ◌⊖◌, ◌⊗◌, ◌⊘◌, units_of, above, beneath, over, under, Small, lt-of-sides, ice_point, air_density_at, compressibility_factor, Given, density_of, atmosphere, ◌⊞◌, the, number, is_not_above, N, N_pos, step_of, Bounds, Tracks, small, product_size, quotient_size, mul-near, div-near, Term, ◌minus◌, ◌times◌, ◌by◌, as_double, as_exact, analysed, none, ◌also◌, tracks, ranged, number_is, tracks-between, all, item, test, positive-units, is_above, positive-tested, InScope, places}
use Rattle.exact.proofs.Terms.{num}
use Rattle.near.proofs.Paths.{hpa_bounds}
use Rattle.near.proofs.Density.{T-K, p-Pa, Z, dry-t, dry-tracks-t, dry-tracks-p, no_vapour}

-- ---- over natural numbers
-- a divisor D of a temperature T, and D' of a T' that is greater by a degree but for 2 * E: D' is greater by G
divisors_apart : (n k k₁ e T T' D D' U E top G : ℕ) → 0 < n → k₁ ≤ k + e → D * n ≤ k₁ * T + U * n → k * T' ≤ D' * n + U * n → T + N ≤ T' + 2 * E → T ≤ top → e * top + 2 * U * n + G * n + k * (2 * E) ≤ k * N → D + G ≤ D'
divisors_apart n k k₁ e T T' D D' U E top G n₀ few high low degree most fine =
    le_of_mul-le-mul_right {k = n}
    (le_trans (le_of_eq (omega arith)) (linear (D * n) (k * T) (e * T) (e * top) (U * n) (k * T') (D' * n) (k * N) (k * (2 * E)) (G * n)
    (omega (arith, high, mul-le-mul_right T few)) low (le_trans (le_of_eq (omega arith)) (le_trans (mul-le-mul_left k degree) (le_of_eq (omega arith)))) (mul-le-mul_left e most) (le_trans (le_of_eq (omega arith)) fine))) n₀
  where
    linear : (d a b c u f g h i j : ℕ) → d ≤ a + b + u → f ≤ g + u → a + h ≤ f + i → b ≤ c → c + 2 * u + j + i ≤ h → d + j ≤ g
    linear d a b c u f g h i j p q r s v = omega (arith, p, q, r, s, v)

-- quotients Q and Q' of one A, each within V: Q' is below Q by more than 2 * V'
quotients-apart : (A Q Q' D D' V₁ V' G least most : ℕ) → A ≤ Q * D + V₁ * D → Q' * D' ≤ A + V₁ * D' → D + G ≤ D' → least ≤ Q' → D' ≤ most → (2 * V₁ + 2 * V') * most < least * G → Q' + 2 * V' < Q
quotients-apart A Q Q' D D' V₁ V' G least most high low apart bottom top fine = go (dec_le Q (Q' + 2 * V'))
  where
    linear : (qd q'd q'g q'd' v v' w w' lg m : ℕ) → A ≤ qd + v → q'd' ≤ A + v' → q'd + q'g ≤ q'd' → lg ≤ q'g → qd ≤ q'd + 2 * w → v ≤ v' → w ≤ w' → 2 * v' + 2 * w' ≤ m → m < lg → ⊥
    linear qd q'd q'g q'd' v v' w w' lg m a b c d e f g h i = omega (arith, a, b, c, d, e, f, g, h, i)

    go : Dec (Q ≤ Q' + 2 * V') → Q' + 2 * V' < Q
    go (no l) = lt_of_not-le l
    go (yes l) =
        let less : D ≤ D' = omega (arith, apart) in
        absurd (linear (Q * D) (Q' * D) (Q' * G) (Q' * D') (V₁ * D) (V₁ * D') (V' * D) (V' * D') (least * G) ((2 * V₁ + 2 * V') * most) high low (le_trans (le_of_eq (omega arith)) (mul-le-mul_left Q' apart)) (mul-le-mul_right G bottom)
        (le_trans (mul-le-mul_right D l) (le_of_eq (omega arith))) (mul-le-mul_left V₁ less) (mul-le-mul_left V' less) (le_trans (le_of_eq (omega arith)) (mul-le-mul_left (2 * V₁ + 2 * V') top)) fine)

-- what rounding makes of positive numbers: nothing of them is below zero
product-of : (zo zu xo xu yo yu U : ℕ) → xu ≡ 0 → yu ≡ 0 → zu ≡ 0 → zo * N + (xo * yu + xu * yo) ≤ zu * N + (xo * yo + xu * yu) + U * N → zu * N + (xo * yo + xu * yu) ≤ zo * N + (xo * yu + xu * yo) + U * N
    → (zo * N ≤ xo * yo + U * N) × (xo * yo ≤ zo * N + U * N)
product-of zo zu xo xu yo yu U e f g h i =
    (omega (arith, h, ap (λ (k : ℕ). k * yo) e, ap (λ (k : ℕ). k * yu) e, ap (λ (k : ℕ). xo * k) f, ap (λ (k : ℕ). k * N) g), omega (arith, i, ap (λ (k : ℕ). k * yo) e, ap (λ (k : ℕ). k * yu) e, ap (λ (k : ℕ). xo * k) f, ap (λ (k : ℕ). k * N) g))

ratio-of : (zo zu xo xu v U : ℕ) → xu ≡ 0 → zu ≡ 0 → zo * v + xu * N ≤ zu * v + xo * N + U * v → zu * v + xo * N ≤ zo * v + xu * N + U * v → (zo * v ≤ xo * N + U * v) × (xo * N ≤ zo * v + U * v)
ratio-of zo zu xo xu v U e f h i = (omega (arith, h, ap (λ (k : ℕ). k * N) e, ap (λ (k : ℕ). k * v) f), omega (arith, i, ap (λ (k : ℕ). k * N) e, ap (λ (k : ℕ). k * v) f))

warmth-of : (o u P Q k a b E : ℕ) → u ≡ 0 → 0 < k → P * N ≡ a * k → Q * N ≡ b * k
    → o * (k * 100) + (Q * 100 + 0 * k) * N ≤ u * (k * 100) + (P * 100 + 27315 * k) * N + E * (k * 100) → u * (k * 100) + (P * 100 + 27315 * k) * N ≤ o * (k * 100) + (Q * 100 + 0 * k) * N + E * (k * 100)
    → (o * 100 + b * 100 ≤ a * 100 + 27315 * N + E * 100) × (a * 100 + 27315 * N ≤ o * 100 + b * 100 + E * 100)
warmth-of o u P Q k a b E z k₀ e f h i =
    (le_of_mul-le-mul_right {k = k} (omega (arith, h, e, f, ap (λ (w : ℕ). w * k) z)) k₀, le_of_mul-le-mul_right {k = k} (omega (arith, i, e, f, ap (λ (w : ℕ). w * k) z)) k₀)

degree-of : (P Q k P' Q' k' a b a' b' : ℕ) → 0 < k → 0 < k' → P * N ≡ a * k → Q * N ≡ b * k → P' * N ≡ a' * k' → Q' * N ≡ b' * k' → (P * 1 + 1 * k) * k' + Q' * (k * 1) ≤ P' * (k * 1) + (Q * 1 + 0 * k) * k' → a + N + b' ≤ a' + b
degree-of P Q k P' Q' k' a b a' b' k₀ k₀' e f g h i =
    le_of_mul-le-mul_right {k = k * k'}
    (le_trans (le_of_eq (omega (arith, ap (λ (x : ℕ). x * k') e, ap (λ (x : ℕ). x * k) h))) (le_trans (mul-le-mul_right N i) (le_of_eq (omega (arith, ap (λ (x : ℕ). x * k') f, ap (λ (x : ℕ). x * k) g))))) (mul-pos k₀ k₀')

degrees : (x x' a b a' b' E : ℕ) → x * 100 + b * 100 ≤ a * 100 + 27315 * N + E * 100 → a' * 100 + 27315 * N ≤ x' * 100 + b' * 100 + E * 100 → a + N + b' ≤ a' + b → x + N ≤ x' + 2 * E
degrees x x' a b a' b' E h i j = omega (arith, h, i, j)

divisor-high : (D q x z r U₁ U₂ top : ℕ) → D * N ≤ q * x + U₂ * N → q * N ≤ z * r + U₁ * N → z ≤ top → D * (N * N) ≤ (top * r + U₁ * N) * x + U₂ * (N * N)
divisor-high D q x z r U₁ U₂ top h i j =
    le_trans (le_of_eq (omega arith)) (le_trans (mul-le-mul_right N h) (le_trans (le_of_eq (omega arith)) (le_trans (widen (U₂ * (N * N)) (mul-le-mul_right x (le_trans i (widen' (U₁ * N) (mul-le-mul_right r j))))) (le_of_eq (omega arith)))))
  where
    widen : {y w : ℕ} (v : ℕ) → y ≤ w → v + y ≤ v + w
    widen v l = omega (arith, l)

    widen' : {y w : ℕ} (v : ℕ) → y ≤ w → y + v ≤ w + v
    widen' v l = omega (arith, l)

divisor-low : (D q x z r U₁ U₂ bottom k : ℕ) → q * x ≤ D * N + U₂ * N → z * r ≤ q * N + U₁ * N → bottom ≤ z → k + U₁ * N ≤ bottom * r → k * x ≤ D * (N * N) + U₂ * (N * N)
divisor-low D q x z r U₁ U₂ bottom k h i j l =
    let less : k ≤ q * N = omega (arith, l, mul-le-mul_right r j, i) in
    le_trans (mul-le-mul_right x less) (le_trans (le_of_eq (omega arith)) (le_trans (mul-le-mul_right N h) (le_of_eq (omega arith))))

most-of : (o u H J : ℕ) → u ≡ 0 → o + J ≤ u + H → o ≤ H
most-of o u H J e h = omega (arith, e, h)

least-of : (o u L M : ℕ) → M ≡ 0 → u + L ≤ o + M → L ≤ o
least-of o u L M e h = omega (arith, e, h)

last_of : (d d' Q Q' U : ℕ) → d' * N ≤ Q' * N + U * N → Q * N ≤ d * N + U * N → Q' + 2 * U < Q → d' + 0 < d + 0
last_of d d' Q Q' U h i j = omega (arith, le_of_mul-le-mul_right {m = d'} {n = Q' + U} {k = N} (omega (arith, h)) N_pos, le_of_mul-le-mul_right {m = Q} {n = d + U} {k = N} (omega (arith, i)) N_pos, j)

-- ---- the formula and its steps, of t in °C and p in hPa
abbrev numerator : Term
numerator = p-Pa (num "0") times num "28.96546e-3"

abbrev R : Term
R = num "8.314472"

abbrev K : Term
K = T-K (num "0")

abbrev divisor : Term
divisor = Z (num "0") times R times K

abbrev quotient : Term
quotient = numerator by divisor

abbrev one : Term
one = num "1" minus num "0" times (num "1" minus num "18.01528e-3" by num "28.96546e-3")

abbrev of : Term → Bounds
of s = analysed (dry-t ∷ hpa_bounds ∷ []) s

abbrev step : Term → Term → ℕ
step s s' = step_of (product_size (of s) (of s'))

abbrev quotient-step : Bounds → Bounds → ℕ
quotient-step a b = step_of (quotient_size a b)

abbrev Z₀ : Term
Z₀ = Z (num "0")

-- the number is positive, in its bounds
abbrev sure : Term → Bool
sure s = (of s).good && is_above (of s)

abbrev product-tests : Term → Term → List Bool
product-tests s s' = sure s ∷ sure s' ∷ sure (s times s') ∷ small (product_size (of s) (of s')) ∷ []

-- the least and the greatest Z R, in units of units, and what lies between them
abbrev r : ℕ
r = over (decimal "8.314472")

abbrev low_rate : Bounds → ℕ
low_rate z = z.L * r - step Z₀ R * N

abbrev high_rate : Bounds → ℕ
high_rate z = z.H * r + step Z₀ R * N

abbrev spread : Bounds → ℕ
spread z = high_rate z - low_rate z

abbrev tests : Bounds → List Bool
tests z =
    all (product-tests Z₀ R) ∷ all (product-tests (Z₀ times R) K) ∷ all (product-tests quotient one) ∷ sure Z₀ ∷ sure K ∷ sure numerator ∷ sure divisor ∷ sure quotient ∷ small (quotient_size (of numerator) (of divisor))
    ∷ leb (high_rate z) (low_rate z + spread z) ∷ leb (low_rate z + step Z₀ R * N) (z.L * r)
    ∷ leb (spread z * (of K).H + 2 * step (Z₀ times R) K * (N * N) + 2 ^ 1072 * (N * N) + low_rate z * (2 * (of K).E)) (low_rate z * N)
    ∷ ltb ((2 * quotient-step (of numerator) (of divisor) + 2 * step quotient one) * (of divisor).H) ((of quotient).L * 2 ^ 1072) ∷ sure (quotient times one) ∷ []

tested : T (all (tests (of Z₀)))
unfolding N above beneath the span climb size odd of_fields of_bits
tested = tt

passed : (n : ℕ) → T (item (tests (of Z₀)) n)
passed n = test (tests (of Z₀)) n tested

module _ (t p : Float) (range : InScope t p nought) where
  abbrev doubles : List Float
  doubles = (t ⊕ ice_point ⊖ ice_point) ∷ (p ⊗ hundred ⊘ hundred) ∷ []

  abbrev value : Term → ℕ
  value s = over (as_double doubles s)

  tracked : (s : Term) → T (of s).good → Tracks (of s) (as_double doubles s) (as_exact (number t ∷ number p ∷ []) s)
  tracked = tracks (dry-tracks-t nought (Given t) (Given p) range also dry-tracks-p nought (Given t) (Given p) range also none)

  surely : (s : Term) → T (sure s) → Tracks (of s) (as_double doubles s) (as_exact (number t ∷ number p ∷ []) s)
  surely s h = tracked s (and_l (of s).good (is_above (of s)) h)

  none-under : (s : Term) → T (sure s) → under (as_double doubles s) ≡ 0
  none-under s h = (positive-units _ (positive-tested _ _ (surely s h) (and_r (of s).good (is_above (of s)) h)) (surely s h).double).none-under

  most : (s : Term) → T (sure s) → value s ≤ (of s).H
  most s h = most-of _ _ _ _ (none-under s h) (surely s h).high

  none_below : (s : Term) → T (sure s) → (of s).M ≡ 0
  none_below s h = eqb→eq (of s).M 0 (and_l (eqb (of s).M 0) (ltb 0 (of s).L) (and_r (of s).good (is_above (of s)) h))

  least : (s : Term) → T (sure s) → (of s).L ≤ value s
  least s h = least-of _ _ _ _ (none_below s h) (surely s h).low

  -- a product in units
  product : (s s' : Term) → T (all (product-tests s s')) → (value (s times s') * N ≤ value s * value s' + step s s' * N) × (value s * value s' ≤ value (s times s') * N + step s s' * N)
  product s s' h =
      let each : (n : ℕ) → T (item (product-tests s s') n) = λ n. test (product-tests s s') n h in
      let r = mul-near (of s) (of s') _ _ _ _ (surely s (each 0)) (surely s' (each 1)) (each 3) in
      product-of (value (s times s')) (under (as_double doubles (s times s'))) (value s) (under (as_double doubles s)) (value s') (under (as_double doubles s')) (step s s') (none-under s (each 0)) (none-under s' (each 1)) (none-under (s times s') (each 2)) r.not_above r.not_below

  ratio : (value quotient * value divisor ≤ value numerator * N + quotient-step (of numerator) (of divisor) * value divisor) × (value numerator * N ≤ value quotient * value divisor + quotient-step (of numerator) (of divisor) * value divisor)
  ratio =
      let r = div-near (of numerator) (of divisor) _ _ _ _ (surely numerator (passed 5)) (surely divisor (passed 6)) (passed 8) (none_below divisor (passed 6)) (ltb→lt 0 (of divisor).L (and_r (eqb (of divisor).M 0) (ltb 0 (of divisor).L) (and_r (of divisor).good (is_above (of divisor)) (passed 6)))) in
      ratio-of (value quotient) (under (as_double doubles quotient)) (value numerator) (under (as_double doubles numerator)) (value divisor) (quotient-step (of numerator) (of divisor)) (none-under numerator (passed 5)) (none-under quotient (passed 7)) r.not_above r.not_below

  -- the temperature in units
  itself : Tracks (ranged (decimal "-40") (decimal "50") 0) t (number t)
  unfolding of_bits fits
  itself = tracks-between (decimal "-40") (decimal "50") t tt range.temperature

  warmth : (value K * 100 + under t * 100 ≤ over t * 100 + 27315 * N + (of K).E * 100) × (over t * 100 + 27315 * N ≤ value K * 100 + under t * 100 + (of K).E * 100)
  unfolding ◌⊞◌ the
  warmth =
      let x = surely K (passed 4) in
      let n = number_is t itself.is_finite itself.double in
      warmth-of (value K) (under (as_double doubles K)) (number t).plus (number t).minus (number t).under (over t) (under t) (of K).E (none-under K (passed 4)) n.0 n.1 n.2 x.not_above x.not_below

-- ---- two temperatures a degree apart
module _ (t u p : Float) (t-range : InScope t p nought) (u-range : InScope u p nought) (warmer : T (is_not_above (number t ⊞ the "1") (number u))) where
  degree : over t + N + under u ≤ over u + under t
  unfolding ◌⊞◌ the
  degree =
      let n = number_is t (itself t p t-range).is_finite (itself t p t-range).double in
      let m = number_is u (itself u p u-range).is_finite (itself u p u-range).double in
      degree-of (number t).plus (number t).minus (number t).under (number u).plus (number u).minus (number u).under (over t) (under t) (over u) (under u) n.0 m.0 n.1 n.2 m.1 m.2
      (leb→le (((number t).plus * 1 + 1 * (number t).under) * (number u).under + (number u).minus * ((number t).under * 1)) ((number u).plus * ((number t).under * 1) + ((number t).minus * 1 + 0 * (number t).under) * (number u).under) warmer)

  abbrev U : ℕ
  U = step (Z₀ times R) K

  apart : value t p t-range divisor + 2 ^ 1072 ≤ value u p u-range divisor
  apart =
      divisors_apart (N * N) (low_rate (of Z₀)) (high_rate (of Z₀)) (spread (of Z₀)) (value t p t-range K) (value u p u-range K) (value t p t-range divisor) (value u p u-range divisor) U (of K).E (of K).H (2 ^ 1072) (mul-pos N_pos N_pos) (leb→le (high_rate (of Z₀)) (low_rate (of Z₀) + spread (of Z₀)) (passed 9))
      (divisor-high (value t p t-range divisor) (value t p t-range (Z₀ times R)) (value t p t-range K) (value t p t-range Z₀) r (step Z₀ R) U (of Z₀).H (product t p t-range (Z₀ times R) K (passed 1)).0 (product t p t-range Z₀ R (passed 0)).0 (most t p t-range Z₀ (passed 3)))
      (divisor-low (value u p u-range divisor) (value u p u-range (Z₀ times R)) (value u p u-range K) (value u p u-range Z₀) r (step Z₀ R) U (of Z₀).L (low_rate (of Z₀)) (product u p u-range (Z₀ times R) K (passed 1)).1 (product u p u-range Z₀ R (passed 0)).1 (least u p u-range Z₀ (passed 3)) (leb→le (low_rate (of Z₀) + step Z₀ R * N) ((of Z₀).L * r) (passed 10)))
      (degrees (value t p t-range K) (value u p u-range K) (over t) (under t) (over u) (under u) (of K).E (warmth t p t-range).0 (warmth u p u-range).1 degree)
      (most t p t-range K (passed 4)) (leb→le (spread (of Z₀) * (of K).H + 2 * U * (N * N) + 2 ^ 1072 * (N * N) + low_rate (of Z₀) * (2 * (of K).E)) (low_rate (of Z₀) * N) (passed 11))

  quotients : value u p u-range quotient + 2 * step quotient one < value t p t-range quotient
  quotients =
      quotients-apart (value t p t-range numerator * N) (value t p t-range quotient) (value u p u-range quotient) (value t p t-range divisor) (value u p u-range divisor) (quotient-step (of numerator) (of divisor)) (step quotient one) (2 ^ 1072) (of quotient).L (of divisor).H
      (ratio t p t-range).1 (ratio u p u-range).0 apart (least u p u-range quotient (passed 7)) (most u p u-range divisor (passed 6)) (ltb→lt ((2 * quotient-step (of numerator) (of divisor) + 2 * step quotient one) * (of divisor).H) ((of quotient).L * 2 ^ 1072) (passed 12))

  abbrev formula : Term
  formula = quotient times one

  same : value t p t-range one ≡ N
  unfolding N above beneath mul div sub add sum neg round units span climb size odd of_fields of_bits
  same = refl

  below : T (lt (as_double (doubles u p u-range) formula) (as_double (doubles t p t-range) formula))
  below =
      let d = surely t p t-range formula (passed 13) in
      let d' = surely u p u-range formula (passed 13) in
      lt-of-sides _ _ (itself-of _ d'.is_finite d'.double) (itself-of _ d.is_finite d.double)
      (sides (value t p t-range formula) (value u p u-range formula) (under (as_double (doubles t p t-range) formula)) (under (as_double (doubles u p u-range) formula)) (none-under t p t-range formula (passed 13)) (none-under u p u-range formula (passed 13))
      (last_of (value t p t-range formula) (value u p u-range formula) (value t p t-range quotient) (value u p u-range quotient) (step quotient one)
      (le_trans (product u p u-range quotient one (passed 2)).0 (le_of_eq (ap (λ (w : ℕ). value u p u-range quotient * w + step quotient one * N) same)))
      (le_trans (le_of_eq (ap (λ (w : ℕ). value t p t-range quotient * w) (sym same))) (product t p t-range quotient one (passed 2)).1) quotients))
    where
      itself-of : (z : Float) → T (finite z) → T (fits binary64 z) → Small (units_of z) z
      itself-of z h f = record { is_finite = h; double = f; size = le_refl (units_of z) }

      sides : (o o' v v' : ℕ) → v ≡ 0 → v' ≡ 0 → o' + 0 < o + 0 → o' + v < o + v'
      sides o o' v v' a b l = omega (arith, a, b, l)

pub dry-density-falls : (altitude altitude' t u p : Float) → InScope t p nought → InScope u p nought → T (is_not_above (number t ⊞ the "1") (number u))
    → T (lt (atmosphere places altitude' (Given u) (Given p) nought).density_kg_m3 (atmosphere places altitude (Given t) (Given p) nought).density_kg_m3)
unfolding atmosphere density_of air_density_at compressibility_factor
dry-density-falls altitude altitude' t u p t-range u-range warmer = rw (no_vapour altitude (Given t) (Given p) t-range, no_vapour altitude' (Given u) (Given p) u-range) (below t u p t-range u-range warmer)
