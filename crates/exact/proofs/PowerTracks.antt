-- A power with a constant exponent, of a double that tracks a number above zero, tracks every fraction that stands for the exact power. Assumes nothing.
use Rattle.exact.proofs.Kit.{◌≡◌, refl, subst, Bool, false, List, [], ◌∷◌, ℕ, ◌+◌, ◌-◌, ◌*◌, ◌/◌, ◌^◌, ◌≤◌, ◌<◌, zero-le, le_refl, le_trans, lt_of_le_of_lt, le_of_eq, le_of_lt, mul-pos, mul_comm, mul-le-mul_right, mul-le-mul_left, le_of_mul-le-mul_right, arith, pos, T, leb, ltb, eqb, leb→le, ltb→lt, eqb→eq, lit<, lit≤, pow_pos, Float, fin, binary64, fits, le, num, den, den_pos, positive, own_value, value_pos, over, under, le-trans-double, Fraction, ◌is_at_most◌, ◌to_the◌, exact_value, Exponent, power, power-rises, power-fits, ◌times◌, inverse, less, more, Normal, InBounds, Exact, number, Between, of, positive_part, IsPower}
use Rattle.exact.proofs.PowerNear.{power-within}
use Rattle.exact.proofs.Rounded.{N}
use Rattle.exact.proofs.Tracks.{Bounds, Tracks}
use Rattle.exact.proofs.Ranges.{ranged, ends, tracks-between}
use Rattle.exact.proofs.Relative.{Apart, apart_of}
use Rattle.exact.proofs.Tests.{all, item, test}
use Rattle.exact.proofs.Above.{Positive, positive-units, positive_of, normal-of}
use Rattle.exact.proofs.PositiveNear.{positive-near}
use Rattle.exact.proofs.Exists.{above_zero, power-of}
use Rattle.exact.proofs.Sides.{tracks-at_most, tracks-at_least}
use Rattle.exact.proofs.PowerUnits.{from-units, from_units', to-units, to_units', base_above, base-below}
use Rattle.exact.proofs.Fractions.{next, part_of-power, times-assoc, no_power}
use Rattle.exact.proofs.RaisedNear.{slack, at_most_lem, at_least}

-- an exponent as it is computed, M / 2^58, and as it is meant, Q, which is i / j at most; the first is at most `whole`
pub record Power : Type 0 where
  pub M : ℕ
  pub Q : Exact
  pub i : ℕ
  pub j : ℕ
  pub whole : ℕ

abbrev pub exponent_of : Power → Exponent
exponent_of s = record { negative = false; magnitude = s.M }

-- the base lies between lo and hi, where it is within a factor of 1 + c / 16 of 1, and is wrong by `error` units of 2^-60 at most; the power lies between bottom and top
pub record Window : Type 0 where
  pub c : ℕ
  pub lo : Float
  pub hi : Float
  pub error : ℕ
  pub bottom : Float
  pub top : Float

abbrev pub base_bounds : Window → Bounds
base_bounds w = ranged w.lo w.hi (w.error * 2 ^ 1014)

-- the two powers that are computed
pub record PowerEnds (s : Power) (w : Window) : Type 0 where
  pub least : T (le w.bottom (power 60 (exponent_of s) w.lo))
  pub most : T (le (power 60 (exponent_of s) w.hi) w.top)

-- ---- what the power is wrong by: C units of 2^-60 by its own rounding, one part in m since the exponent is, one part in Y since the base is, by one in W
abbrev C : Power → ℕ
C s = 128 + (3 + 2 * s.whole)

abbrev scale : Power → ℕ
scale s = s.Q.under * 2 ^ 58

-- the exponents are 1 / k apart at most
abbrev k : Power → ℕ
k s = let a = s.M * s.Q.under in let b = s.Q.plus * 2 ^ 58 in scale s / ((a - b) + (b - a))

abbrev m : Power → Window → ℕ
m s w = 16 * k s / w.c

abbrev W : Window → ℕ
W w = over w.lo / (w.error * 2 ^ 1014) - 1

abbrev Y : Power → Window → ℕ
Y s w = W w * s.j / s.i - 1

-- the four sides of the comparison with the exact power, and the parts of 2^80 that it is wrong by
abbrev α : Power → Window → ℕ
α s w = (2 ^ 60 - C s) * (2 ^ 80 * (Y s w * m s w))

abbrev β : Power → Window → ℕ
β s w = 2 ^ 60 * ((2 ^ 80 + 1) * ((Y s w + 1) * (m s w + 1)))

abbrev γ : Power → Window → ℕ
γ s w = (2 ^ 80 - 1) * (2 ^ 60 * (Y s w * m s w))

abbrev δ : Power → Window → ℕ
δ s w = 2 ^ 80 * ((2 ^ 60 + C s) * ((Y s w + 1) * (m s w + 1)))

abbrev D : Power → Window → ℕ
D s w = 2 ^ 80 * (δ s w - γ s w) / γ s w + 1

abbrev tests : Power → Window → List Bool
tests s w =
    -- 0 to 7: the exponents
    eqb s.Q.minus 0 ∷ ltb 0 s.Q.under ∷ ltb 0 s.j ∷ leb (s.Q.plus * s.j) (s.i * s.Q.under) ∷ leb s.M (s.whole * 2 ^ 58) ∷ leb s.whole 36
    ∷ leb (s.M * s.Q.under * k s) (s.Q.plus * 2 ^ 58 * k s + scale s) ∷ leb (s.Q.plus * 2 ^ 58 * k s) (s.M * s.Q.under * k s + scale s)
    -- 8 to 11: how far the base is from 1
    ∷ ltb 0 (m s w) ∷ leb (m s w * w.c) (16 * k s) ∷ leb (over w.hi * 16) ((16 + w.c) * N) ∷ leb (16 * N) (over w.lo * (16 + w.c))
    -- 12 to 16: the ends
    ∷ le (fin false 0 (pos 0)) w.lo ∷ all (ends w.lo w.hi) ∷ all (ends w.bottom w.top) ∷ eqb (under w.bottom) 0 ∷ leb (2 ^ 52) (over w.bottom)
    -- 17 to 21: the base
    ∷ eqb (under w.lo) 0 ∷ ltb (w.error * 2 ^ 1014) (over w.lo) ∷ ltb 0 (W w) ∷ ltb 0 (Y s w) ∷ leb (w.error * 2 ^ 1014 * (W w + 1)) (over w.lo)
    -- 22 to 24: the power
    ∷ leb ((W w + 1) ^ s.i * Y s w ^ s.j) ((Y s w + 1) ^ s.j * W w ^ s.i) ∷ leb (2 ^ 80 * β s w) (2 ^ 80 * α s w + D s w * β s w) ∷ leb (2 ^ 80 * δ s w) (2 ^ 80 * γ s w + D s w * γ s w) ∷ []

abbrev pub power_bounds : Power → Window → Bounds
power_bounds s w =
    record {
      L = over w.bottom;
      M = 0;
      H = over w.top;
      J = 0;
      E = D s w * over w.top / 2 ^ 80 + 1;
      good = all (tests s w);
    }

-- there are such fractions
pub power-exists : (s : Power) (w : Window) → T (power_bounds s w).good → (x : Float) (X : Exact) → Tracks (base_bounds w) x X → (r : Fraction) × IsPower (positive_part X) s.Q r
power-exists s w passed x X t =
    let apart : X.minus < X.plus = above_zero x X t (eqb→eq (under w.lo) 0 (test (tests s w) 17 passed)) (ltb→lt (w.error * 2 ^ 1014) (over w.lo) (test (tests s w) 18 passed)) in
    power-of (positive_part X) s.Q (omega (arith, apart)) t.some (ltb→lt 0 s.Q.under (test (tests s w) 1 passed))

module _ (s : Power) (w : Window) (good : T (power_bounds s w).good) (computed : PowerEnds s w) (x : Float) (X : Exact) (t : Tracks (base_bounds w) x X) (R : Fraction) (is-power : IsPower (positive_part X) s.Q R) where
  passed : (n : ℕ) → T (item (tests s w) n)
  passed n = test (tests s w) n good

  abbrev r : Float
  r = power 60 (exponent_of s) x

  abbrev E : ℕ
  E = w.error * 2 ^ 1014

  none_below : under w.lo ≡ 0
  none_below = eqb→eq (under w.lo) 0 (passed 17)

  clear : E < over w.lo
  clear = ltb→lt E (over w.lo) (passed 18)

  W₀ : 0 < W w
  W₀ = ltb→lt 0 (W w) (passed 19)

  Y₀ : 0 < Y s w
  Y₀ = ltb→lt 0 (Y s w) (passed 20)

  m₀ : 0 < m s w
  m₀ = ltb→lt 0 (m s w) (passed 8)

  U₀ : 0 < s.Q.under
  U₀ = ltb→lt 0 s.Q.under (passed 1)

  -- ---- the base
  x-positive : T (positive x)
  x-positive = positive_of x X t none_below (lt_of_le_of_lt zero-le clear)

  x-units : Positive x
  x-units = positive-units x x-positive t.double

  abbrev x-is : num x * N ≡ over x * den x
  x-is = x-units.is-over

  x₀ : 0 < num x
  x₀ = value_pos x (num x) (den x) x-positive (den_pos x) (own_value x x-positive)

  x-least : over w.lo ≤ over x
  x-least = omega (arith, t.low, none_below)

  x-most : over x ≤ over w.hi
  x-most = omega (arith, t.high, x-units.none-under)

  abbrev lo-fits : T (fits binary64 w.lo)
  lo-fits = test (ends w.lo w.hi) 2 (passed 13)

  abbrev hi-fits : T (fits binary64 w.hi)
  hi-fits = test (ends w.lo w.hi) 3 (passed 13)

  x-low : T (le w.lo x)
  x-low = tracks-at_least x X t w.lo (test (ends w.lo w.hi) 0 (passed 13)) lo-fits (le_refl (over w.lo + under w.lo))

  x-high : T (le x w.hi)
  x-high = tracks-at_most x X t w.hi (test (ends w.lo w.hi) 1 (passed 13)) hi-fits (le_refl (over w.hi + under w.hi))

  abbrev bottom-fits : T (fits binary64 w.bottom)
  bottom-fits = test (ends w.bottom w.top) 2 (passed 14)

  abbrev top-fits : T (fits binary64 w.top)
  top-fits = test (ends w.bottom w.top) 3 (passed 14)

  -- ---- the power between its ends
  r-fits : T (fits binary64 r)
  r-fits = power-fits 60 (exponent_of s) x

  r-between : Between w.bottom w.top r
  unfolding fits
  r-between =
      let rises = power-rises 60 (exponent_of s) refl in
      let lo-up : T (le (fin false 0 (pos 0)) w.lo) = passed 12 in
      record {
        double = r-fits;
        low = le-trans-double w.bottom (power 60 (exponent_of s) w.lo) r bottom-fits (power-fits 60 (exponent_of s) w.lo) r-fits computed.least (rises w.lo x lo-fits t.double lo-up x-low);
        high = le-trans-double r (power 60 (exponent_of s) w.hi) w.top r-fits (power-fits 60 (exponent_of s) w.hi) top-fits (rises x w.hi t.double hi-fits (le-trans-double (fin false 0 (pos 0)) w.lo x tt lo-fits t.double lo-up x-low) x-high) computed.most;
      }

  r-tracks : Tracks (ranged w.bottom w.top 0) r (number r)
  r-tracks = tracks-between w.bottom w.top r (passed 14) r-between

  bottom-plus : under w.bottom ≡ 0
  bottom-plus = eqb→eq (under w.bottom) 0 (passed 15)

  r-normal : Normal r
  r-normal = normal-of r (number r) r-tracks bottom-plus (leb→le (2 ^ 52) (over w.bottom) (passed 16))

  r-units : Positive r
  r-units = positive-units r r-normal.0 r-fits

  near : InBounds (C s) 60 r (2 ^ 58) (exact_value x to_the s.M)
  near = power-within 60 s.whole (exponent_of s) (lit≤ tt) (lit≤ tt) (leb→le s.whole 36 (passed 5)) (leb→le s.M (s.whole * 2 ^ 58) (passed 4)) x t.double x-positive r-normal

  -- ---- the exact power
  apart : X.minus < X.plus
  apart = above_zero x X t none_below clear

  exact-low : ((R times less 1 80) to_the s.Q.under) is_at_most (positive_part X to_the s.Q.plus)
  exact-low = subst (λ (z : Fraction). ((R times less 1 80) to_the s.Q.under) is_at_most z) (no_power (positive_part X) s.Q.plus s.Q.minus (eqb→eq s.Q.minus 0 (passed 0))) is-power.low

  exact-high : (positive_part X to_the s.Q.plus) is_at_most ((R times more 1 80) to_the s.Q.under)
  exact-high = subst (λ (z : Fraction). z is_at_most ((R times more 1 80) to_the s.Q.under)) (no_power (positive_part X) s.Q.plus s.Q.minus (eqb→eq s.Q.minus 0 (passed 0))) is-power.high

  -- ---- near the exact one
  room : E * (W w + 1) ≤ over x
  room = le_trans (leb→le (E * (W w + 1)) (over w.lo) (passed 21)) x-least

  base-high : exact_value x is_at_most (positive_part X times next (W w))
  base-high =
      from-units (num x) (den x) (over x) x-is (X.under * W w) ((X.plus - X.minus) * (W w + 1))
      (base_above (over x) E (W w) X.plus X.minus X.under (under x) x-units.none-under apart room t.not_above)

  base-low : positive_part X is_at_most (exact_value x times next (W w))
  base-low =
      le_trans (le_of_eq (turn (X.plus - X.minus) (den x) (W w)))
      (le_trans (from_units' (num x) (den x) (over x) x-is ((W w + 1) * X.under) ((X.plus - X.minus) * W w)
      (base-below (over x) E (W w) X.plus X.minus X.under (under x) x-units.none-under apart room t.not_below))
      (le_of_eq (turn' (num x) (W w + 1) X.under)))
    where
      turn : (g d w : ℕ) → g * (d * w) ≡ g * w * d
      turn g d w = omega arith

      turn' : (n w u : ℕ) → n * (w * u) ≡ n * w * u
      turn' n w u = omega arith

  part : (next (W w) to_the s.Q.plus) is_at_most (next (Y s w) to_the s.Q.under)
  part =
      part_of-power (W w) (Y s w) s.i s.j s.Q.plus s.Q.under W₀ Y₀ (ltb→lt 0 s.j (passed 2)) (leb→le (s.Q.plus * s.j) (s.i * s.Q.under) (passed 3))
      (leb→le ((W w + 1) ^ s.i * Y s w ^ s.j) ((Y s w + 1) ^ s.j * W w ^ s.i) (passed 22))

  -- 16 * k is at least m * c, so 1 + c / 16 is at most 1 + k / m
  widest : (p q : ℕ) → p * 16 ≤ q * (16 + w.c) → p * m s w ≤ q * (m s w + k s)
  widest p q h = go p q (m s w) (k s) w.c h (leb→le (m s w * w.c) (16 * k s) (passed 9))
    where
      go : (p q m k c : ℕ) → p * 16 ≤ q * (16 + c) → m * c ≤ 16 * k → p * m ≤ q * (m + k)
      go p q m k c h i = le_of_mul-le-mul_right {k = 16} (omega (arith, mul-le-mul_right m h, mul-le-mul_left q i)) (lit< tt)

  x-at_most : exact_value x is_at_most record { over = m s w + k s; under = m s w }
  x-at_most =
      let few : num x * 16 ≤ (16 + w.c) * den x = from-units (num x) (den x) (over x) x-is 16 (16 + w.c) (le_trans (mul-le-mul_right 16 x-most) (leb→le (over w.hi * 16) ((16 + w.c) * N) (passed 10))) in
      le_trans (widest (num x) (den x) (le_trans few (le_of_eq (mul_comm (16 + w.c) (den x))))) (le_of_eq (mul_comm (den x) (m s w + k s)))

  x-at_least : inverse (exact_value x) is_at_most record { over = m s w + k s; under = m s w }
  x-at_least =
      let few : 16 * den x ≤ num x * (16 + w.c) = from_units' (num x) (den x) (over x) x-is (16 + w.c) 16 (le_trans (leb→le (16 * N) (over w.lo * (16 + w.c)) (passed 11)) (mul-le-mul_right (16 + w.c) x-least)) in
      le_trans (widest (den x) (num x) (le_trans (le_of_eq (mul_comm (den x) 16)) few)) (le_of_eq (mul_comm (num x) (m s w + k s)))

  exponents-high : s.M * s.Q.under * k s ≤ s.Q.plus * 2 ^ 58 * k s + scale s
  exponents-high = leb→le (s.M * s.Q.under * k s) (s.Q.plus * 2 ^ 58 * k s + scale s) (passed 6)

  exponents-low : s.Q.plus * 2 ^ 58 * k s ≤ s.M * s.Q.under * k s + scale s
  exponents-low = leb→le (s.Q.plus * 2 ^ 58 * k s) (s.M * s.Q.under * k s + scale s) (passed 7)

  power-high : (exact_value r times less (C s) 60) is_at_most (R times (more 1 80 times slack (Y s w) (m s w)))
  power-high =
      subst (λ (z : Fraction). (exact_value r times less (C s) 60) is_at_most z) (times-assoc R (more 1 80) (slack (Y s w) (m s w)))
      (at_most_lem (2 ^ 58) s.M s.Q.plus s.Q.under (m s w) (k s) (W w) (Y s w) (lit< tt) U₀ m₀ W₀ Y₀ part exponents-high exponents-low (exact_value x) (positive_part X) x₀ (den_pos x) t.some x-at_most x-at_least
      (exact_value r times less (C s) 60) (R times more 1 80) (mul-pos is-power.proper (pow_pos 80)) (le_of_lt near.low) base-high exact-high)

  power-low : (R times less 1 80) is_at_most (exact_value r times (more (C s) 60 times slack (Y s w) (m s w)))
  power-low =
      subst (λ (z : Fraction). (R times less 1 80) is_at_most z) (times-assoc (exact_value r) (more (C s) 60) (slack (Y s w) (m s w)))
      (at_least (2 ^ 58) s.M s.Q.plus s.Q.under (m s w) (k s) (W w) (Y s w) (lit< tt) U₀ m₀ W₀ Y₀ part exponents-high exponents-low (exact_value x) (positive_part X) x₀ (den_pos x) t.some x-at_most x-at_least
      (exact_value r times more (C s) 60) (R times less 1 80) (mul-pos (den_pos r) (pow_pos 60)) (le_of_lt near.high) base-low exact-low)

  -- ---- in units
  parts : Apart (2 ^ 80) (D s w) (over r * R.under) (R.over * N)
  parts =
      apart_of (2 ^ 80) (D s w) (over r * R.under) (R.over * N) (α s w) (β s w) (γ s w) (δ s w) (mul-pos (lit< tt) (mul-pos (lit< tt) (mul-pos (more_pos (Y s w)) (more_pos (m s w))))) (mul-pos (lit< tt) (mul-pos (lit< tt) (mul-pos Y₀ m₀)))
      (to-units (num r) (den r) (over r) r-units.is-over (den_pos r) (2 ^ 60 - C s) (2 ^ 60) R.over R.under (2 ^ 80 * (Y s w * m s w)) ((2 ^ 80 + 1) * ((Y s w + 1) * (m s w + 1))) power-high)
      (to_units' (num r) (den r) (over r) r-units.is-over (den_pos r) ((2 ^ 60 + C s) * ((Y s w + 1) * (m s w + 1))) (2 ^ 60 * (Y s w * m s w)) R.over R.under (2 ^ 80) (2 ^ 80 - 1) power-low)
      (leb→le (2 ^ 80 * β s w) (2 ^ 80 * α s w + D s w * β s w) (passed 23)) (leb→le (2 ^ 80 * δ s w) (2 ^ 80 * γ s w + D s w * γ s w) (passed 24))
    where
      more_pos : (n : ℕ) → 0 < n + 1
      more_pos n = omega arith

  pub tracks-constant-power : Tracks (power_bounds s w) r (of R)
  tracks-constant-power =
      positive-near (2 ^ 80) (D s w) (over w.bottom) (over w.top) r R (lit< tt) is-power.proper r-normal.0 r-fits
      (omega (arith, r-tracks.low, bottom-plus)) (omega (arith, r-tracks.high, r-units.none-under)) parts
