-- The power to j halves of a double that tracks a number tracks the j-th power of every fraction that stands for the number's root: the analysis finds how near, and
-- `power` is such a power. Assumes nothing.
use Rattle.exact.proofs.Kit.{◌≡◌, ap, ◌∙◌, Bool, false, ◌&&◌, List, [], ◌∷◌, ℕ, ◌+◌, ◌-◌, ◌*◌, ◌/◌, ◌^◌, ◌≤◌, ◌<◌, le_trans, le_of_eq, lt_of_lt_of_le, mul-pos, one-le-pow, div-mul-le_self, arith, T, leb, ltb, eqb, leb→le, ltb→lt, eqb→eq, lit<, lit≤, pow_pos, pow-add, Float, binary64, fits, and_r, num, den, positive, over, Fraction, exact_value, ◌to_the◌, Exponent, power, power-fits, Normal, InBounds, Exact, ◌⊞◌, opposite, of, IsRoot}
use Rattle.roots.specs.Root.{root}
use Rattle.exact.proofs.PowerNear.{power-within}
use Rattle.exact.proofs.Rounded.{N, N_pos}
use Rattle.exact.proofs.Tracks.{Bounds, Tracks}
use Rattle.exact.proofs.Above.{Positive, positive-units, positive_of}
use Rattle.exact.proofs.PositiveNear.{thin, positive-near}
use Rattle.exact.proofs.Relative.{unraised, units-above, units-below}
use Rattle.exact.proofs.Tests.{all, item, test}
use Rattle.exact.proofs.HalfUnits.{range-high, range-low, apart_from, square_above, square-below}

-- the exponent j / 2
abbrev pub halves : ℕ → Exponent
halves j = record { negative = false; magnitude = j * 2 ^ 57 }

-- ---- the bounds of j halves of the power of a number between τ's bounds: the double is wrong by C parts in K at most
module _ (K C j : ℕ) (τ : Bounds) where
  -- the number is wrong by one part in W, with 2 ^ -80 for the square of the fraction that stands for its root
  abbrev W : ℕ
  W = τ.L / (τ.E + 2 ^ 994) - 1

  -- its power then by two parts in Y
  abbrev Y : ℕ
  Y = 2 * W / j - 2 + 1

  -- and so the double by D parts in 2 ^ 70
  abbrev D : ℕ
  D = 2 ^ 70 * ((K + C) * (Y + 1) - K * Y) / (K * Y) + 1

  -- the root lies between b and a, in units of 2 ^ -20
  abbrev b : ℕ
  b = root (τ.L * 2 ^ 40 / N)

  abbrev a : ℕ
  a = root (τ.H * 2 ^ 40 / N) + 1

  abbrev tests : List Bool
  tests =
      eqb τ.M 0 ∷ leb (b ^ 2 * N) (τ.L * (2 ^ 20) ^ 2) ∷ leb (τ.H * (2 ^ 20) ^ 2) (a ^ 2 * N) ∷ leb ((τ.E + 2 ^ 994) * (W + 1)) τ.L ∷ leb ((W + 1) ^ j * Y ^ 2) (W ^ j * (Y + 1) ^ 2)
      ∷ leb (2 ^ 70 * (K * (Y + 1))) (2 ^ 70 * ((K - C) * Y) + D * (K * (Y + 1))) ∷ leb (2 ^ 70 * ((K + C) * (Y + 1))) (2 ^ 70 * (K * Y) + D * (K * Y)) ∷ ltb 0 W ∷ []

  abbrev highest : ℕ
  highest = a ^ j * (N * K) / ((K - C) * (2 ^ 20) ^ j) + 1

  abbrev pub powered : Bounds
  powered = record { L = b ^ j * (N * K) / ((K + C) * (2 ^ 20) ^ j); M = 0; H = highest; J = 0; E = D * highest / 2 ^ 70 + 1; good = τ.good && all tests }

plus_pos : (m n : ℕ) → 0 < n → 0 < m + n
plus_pos m n h = omega (arith, h)

scale : N ≡ 2 ^ 994 * 2 ^ 80
unfolding N
scale = pow-add 2 994 80

module _ (K C j : ℕ) (τb : Bounds) (less : C < K) (good : T (powered K C j τb).good) (x : Float) (τ : Exact) (t : Tracks τb x τ) where
  abbrev W' : ℕ
  W' = W K C j τb

  abbrev Y' : ℕ
  Y' = Y K C j τb

  abbrev D' : ℕ
  D' = D K C j τb

  abbrev least : ℕ
  least = b K C j τb

  abbrev most : ℕ
  most = a K C j τb

  passed : (n : ℕ) → T (item (tests K C j τb) n)
  passed n = test (tests K C j τb) n (and_r τb.good _ good)

  none : τb.M ≡ 0
  none = eqb→eq τb.M 0 (passed 0)

  room : (τb.E + 2 ^ 994) * (W' + 1) ≤ τb.L
  room = leb→le ((τb.E + 2 ^ 994) * (W' + 1)) τb.L (passed 3)

  large : 0 < τb.L
  large = lt_of_lt_of_le (mul-pos (plus_pos τb.E (2 ^ 994) (pow_pos 994)) (plus_pos W' 1 (lit< tt))) room

  pub x-positive : T (positive x)
  x-positive = positive_of x τ t none large

  pub x-units : Positive x
  x-units = positive-units x x-positive t.double

  pub tracks-half : (k : Fraction) → IsRoot k τ → (r : Float) → T (positive r) → T (fits binary64 r) → (over r * (K - C)) ^ 2 * N ^ j < over x ^ j * (N * K) ^ 2 → over x ^ j * (N * K) ^ 2 < (over r * (K + C)) ^ 2 * N ^ j
      → Tracks (powered K C j τb) r (of (k to_the j))
  unfolding ◌⊞◌ opposite
  tracks-half k is-root r some double higher lower =
      let R : ℕ = over r in
      let X : ℕ = over x in
      let H : ℕ = (powered K C j τb).H in
      let x-low : τb.L ≤ X = omega (arith, t.low, none) in
      let x-high : X ≤ τb.H = omega (arith, t.high, x-units.none-under) in
      let R-high : R ≤ H =
      range-high N K C j R X N_pos less higher lower (2 ^ 20) most H τb.H (lit< tt) x-high (leb→le (τb.H * (2 ^ 20) ^ 2) (most ^ 2 * N) (passed 2)) (thin (most ^ j * (N * K)) ((K - C) * (2 ^ 20) ^ j) (mul-pos (omega (arith, less)) (one-le-pow j (2 ^ 20) (lit< tt)))) in
      let R-low : (powered K C j τb).L ≤ R =
      range-low N K C j R X N_pos less higher lower (2 ^ 20) least _ τb.L (lit< tt) x-low (leb→le (least ^ 2 * N) (τb.L * (2 ^ 20) ^ 2) (passed 1)) (div-mul-le_self (least ^ j * (N * K)) ((K + C) * (2 ^ 20) ^ j)) in
      let tracked-above : X * τ.under + τ.minus * N ≤ τ.plus * N + τb.E * τ.under = le_trans t.not_above (le_of_eq (ap (λ (u : ℕ). u * τ.under + τ.plus * N + τb.E * τ.under) x-units.none-under ∙ omega arith)) in
      let tracked-below : τ.plus * N ≤ X * τ.under + τ.minus * N + τb.E * τ.under = le_trans (omega arith) t.not_below in
      let near-above = square_above N (2 ^ 994) (2 ^ 80) X τ.plus τ.minus τ.under τb.E (k.over ^ 2) (k.under ^ 2) (pow_pos 80) t.some scale tracked-above is-root.not_below in
      let near-below = square-below N (2 ^ 994) (2 ^ 80) X τ.plus τ.minus τ.under τb.E (k.over ^ 2) (k.under ^ 2) (pow_pos 80) t.some scale tracked-below is-root.not_above in
      positive-near (2 ^ 70) D' (powered K C j τb).L H r (k to_the j) (lit< tt) (one-le-pow j k.under is-root.proper) some double R-low R-high
      (apart_from N K C j R X N_pos less higher lower k.over k.under (τb.E + 2 ^ 994) τb.L W' Y' (2 ^ 70) D' is-root.proper (ltb→lt 0 W' (passed 7)) (plus_pos (2 * W' / j - 2) 1 (lit< tt)) x-low near-above near-below room
      (leb→le ((W' + 1) ^ j * Y' ^ 2) (W' ^ j * (Y' + 1) ^ 2) (passed 4)) (leb→le (2 ^ 70 * (K * (Y' + 1))) (2 ^ 70 * ((K - C) * Y') + D' * (K * (Y' + 1))) (passed 5)) (leb→le (2 ^ 70 * ((K + C) * (Y' + 1))) (2 ^ 70 * (K * Y') + D' * (K * Y')) (passed 6)))

-- ---- `power` at 60 places, for j halves up to 16
abbrev pub half_power : ℕ → Bounds → Bounds
half_power = powered (2 ^ 60) 147

module _ (j : ℕ) (τb : Bounds) (small : j * 2 ^ 57 ≤ 8 * 2 ^ 58) (good : T (half_power j τb).good) (x : Float) (τ : Exact) (t : Tracks τb x τ) (k : Fraction) (is-root : IsRoot k τ) where
  abbrev r : Float
  r = power 60 (halves j) x

  pub tracks-power : Normal r → Tracks (half_power j τb) r (of (k to_the j))
  tracks-power normal =
      let some : T (positive x) = x-positive (2 ^ 60) 147 j τb (lit< tt) good x τ t in
      let x-is : Positive x = x-units (2 ^ 60) 147 j τb (lit< tt) good x τ t in
      let r-is : Positive r = positive-units r normal.0 (power-fits 60 _ x) in
      let w : InBounds 147 60 r (2 ^ 58) (exact_value x to_the (j * 2 ^ 57)) = power-within 60 8 (halves j) (lit≤ tt) (lit≤ tt) (lit≤ tt) small x t.double some normal in
      tracks-half (2 ^ 60) 147 j τb (lit< tt) good x τ t k is-root r normal.0 (power-fits 60 _ x)
      (units-above (num r) (den r) (over r) (num x) (den x) (over x) N j N_pos r-is.is-over x-is.is-over (2 ^ 60 - 147) (2 ^ 60) (unraised (num r * (2 ^ 60 - 147)) (den x) (num x) (den r * 2 ^ 60) 2 j j 2 (2 ^ 57) w.low))
      (units-below (num r) (den r) (over r) (num x) (den x) (over x) N j N_pos r-is.is-over x-is.is-over (2 ^ 60 + 147) (2 ^ 60) (unraised (num x) (den r * 2 ^ 60) (num r * (2 ^ 60 + 147)) (den x) j 2 2 j (2 ^ 57) w.high))
