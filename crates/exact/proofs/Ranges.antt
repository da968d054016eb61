-- Into the analysis and out of it: a double between two others tracks the number that it is, what tracks a number closely is near it, and bounds may be widened.
-- Assumes nothing.
use Rattle.exact.proofs.Kit.{◌≡◌, ap, Bool, true, false, List, [], ◌∷◌, ℕ, ◌+◌, ◌*◌, ◌^◌, ◌≤◌, ◌<◌, le_trans, le_of_eq, mul_assoc, mul-le-mul_right, mul-le-mul_left, le_of_mul-le-mul_right, arith, T, leb, leb→le, Float, nan, inf, fin, binary64, down, fits, le, down_pos, finite, units_of, above, beneath, at_most_lem, units-exact, count_of-le, over, under, Small, small-between, Exact, ◌⊞◌, opposite, ◌⊠◌, number, IsNear, Between}
use Rattle.exact.proofs.Rounded.{N, N_pos}
use Rattle.exact.proofs.Tracks.{Bounds, Tracks}
use Rattle.exact.proofs.Tests.{all, test}

-- ---- from a double's bounds, and from its distance
module _ (a b d P Q K o u w E : ℕ) (over-is : a * N ≡ o * d) (under-is : b * N ≡ u * d) where
  read_off : E * w ≤ N → o * K + Q * N ≤ u * K + P * N + E * K → (a * K + Q * d) * w ≤ (b * K + P * d) * w + d * K
  read_off fine h =
      le_of_mul-le-mul_right {k = N}
      (le_trans (le_of_eq (omega (arith, ap (λ (x : ℕ). x * (K * w)) over-is))) (le_trans (mul-le-mul_right (d * w) h)
      (le_trans (le_of_eq (omega (arith, ap (λ (x : ℕ). x * (K * w)) under-is))) (le_trans (widen (b * N * (K * w) + P * d * w * N) (mul-le-mul_left (d * K) fine)) (le_of_eq (omega arith))))))
      N_pos
    where
      widen : {a b : ℕ} (c : ℕ) → a ≤ b → c + a ≤ c + b
      widen c h = omega (arith, h)

none : (a b : ℕ) → 0 * a ≡ 0 * b
none a b = omega arith

-- the number of a double, by its counts
pub number_is : (x : Float) → T (finite x) → T (fits binary64 x) → (0 < (number x).under) × ((number x).plus * N ≡ over x * (number x).under) × ((number x).minus * N ≡ under x * (number x).under)
unfolding number N above beneath
number_is nan h f = absurd h
number_is (inf s) h f = absurd h
number_is (fin false m e) h f = (down_pos e, units-exact false m e f, none (2 ^ 1074) (down e))
number_is (fin true m e) h f = (down_pos e, none (2 ^ 1074) (down e), units-exact true m e f)

pub near_of : (k : ℕ) {b : Bounds} (x : Float) (X : Exact) → b.E * 2 ^ k ≤ N → Tracks b x X → IsNear k x X
unfolding ◌⊞◌ opposite
near_of k {b} x X fine t =
    let n = number_is x t.is_finite t.double in
    record {
      is_finite = t.is_finite;
      proper = t.some;
      not_above = read_off (number x).plus (number x).minus (number x).under X.plus X.minus X.under (over x) (under x) (2 ^ k) b.E n.1 n.2 fine t.not_above;
      not_below = read_off (number x).minus (number x).plus (number x).under X.minus X.plus X.under (under x) (over x) (2 ^ k) b.E n.2 n.1 fine t.not_below;
    }

-- between two finite doubles
abbrev pub ranged : Float → Float → ℕ → Bounds
ranged lo hi E = record { L = over lo; M = under lo; H = over hi; J = under hi; E = E; good = true }

pub sides-of-le : (x y : Float) → T (finite x) → T (finite y) → T (fits binary64 x) → T (fits binary64 y) → T (le x y) → over x + under y ≤ over y + under x
sides-of-le nan y h k f g l = absurd h
sides-of-le (inf s) y h k f g l = absurd h
sides-of-le (fin s m e) nan h k f g l = absurd k
sides-of-le (fin s m e) (inf t) h k f g l = absurd k
sides-of-le (fin s m e) (fin t n d) h k f g l = omega (arith, at_most_lem s t (units_of (fin s m e)) (units_of (fin t n d)) (count_of-le s t m n e d f g l))

module _ (lo hi x : Float) (finite-lo : T (finite lo)) (finite-hi : T (finite hi)) (fits-lo : T (fits binary64 lo)) (fits-hi : T (fits binary64 hi)) (r : Between lo hi x) where
  pub within : Small (units_of lo + units_of hi) x
  within =
      small-between lo x hi r.double (record { is_finite = finite-lo; double = fits-lo; size = omega arith }) (record { is_finite = finite-hi; double = fits-hi; size = omega arith }) r.low r.high

  pub tracks-itself : Tracks (ranged lo hi 0) x (number x)
  tracks-itself =
      let s = within in
      let n = number_is x s.is_finite r.double in
      record {
        some = n.0;
        is_finite = s.is_finite;
        double = r.double;
        low = omega (arith, sides-of-le lo x finite-lo s.is_finite fits-lo r.double r.low);
        high = omega (arith, sides-of-le x hi s.is_finite finite-hi r.double fits-hi r.high);
        not_above = omega (arith, n.1, n.2);
        not_below = omega (arith, n.1, n.2);
      }

abbrev pub ends : Float → Float → List Bool
ends lo hi = finite lo ∷ finite hi ∷ fits binary64 lo ∷ fits binary64 hi ∷ []

pub tracks-between : (lo hi x : Float) → T (all (ends lo hi)) → Between lo hi x → Tracks (ranged lo hi 0) x (number x)
tracks-between lo hi x h r = tracks-itself lo hi x (test (ends lo hi) 0 h) (test (ends lo hi) 1 h) (test (ends lo hi) 2 h) (test (ends lo hi) 3 h) r

-- ---- within wider bounds
abbrev pub wider : Bounds → Bounds → List Bool
wider a b = leb (b.L + a.M) (a.L + b.M) ∷ leb (a.H + b.J) (b.H + a.J) ∷ leb a.E b.E ∷ []

pub widen : {a b : Bounds} (x : Float) (X : Exact) → T (all (wider a b)) → Tracks a x X → Tracks b x X
widen {a} {b} x X h t =
    let low = leb→le (b.L + a.M) (a.L + b.M) (test (wider a b) 0 h) in
    let high = leb→le (a.H + b.J) (b.H + a.J) (test (wider a b) 1 h) in
    let more : a.E * X.under ≤ b.E * X.under = mul-le-mul_right X.under (leb→le a.E b.E (test (wider a b) 2 h)) in
    record {
      some = t.some;
      is_finite = t.is_finite;
      double = t.double;
      low = omega (arith, t.low, low);
      high = omega (arith, t.high, high);
      not_above = omega (arith, t.not_above, more);
      not_below = omega (arith, t.not_below, more);
    }

-- ---- a number of the same value
pub tracks_same : {b : Bounds} (x : Float) (X Y : Exact) → 0 < Y.under → X.plus * Y.under + Y.minus * X.under ≡ Y.plus * X.under + X.minus * Y.under → Tracks b x X → Tracks b x Y
tracks_same {b} x X Y some same t =
    record {
      some = some;
      is_finite = t.is_finite;
      double = t.double;
      low = t.low;
      high = t.high;
      not_above = turned (over x) (under x) X.plus X.minus X.under Y.plus Y.minus Y.under b.E t.some same t.not_above;
      not_below = turned (under x) (over x) X.minus X.plus X.under Y.minus Y.plus Y.under b.E t.some (omega (arith, same)) t.not_below;
    }
  where
    turned : (o u P Q K P' Q' K' E : ℕ) → 0 < K → P * K' + Q' * K ≡ P' * K + Q * K' → o * K + Q * N ≤ u * K + P * N + E * K → o * K' + Q' * N ≤ u * K' + P' * N + E * K'
    turned o u P Q K P' Q' K' E K₀ same h = le_of_mul-le-mul_right {k = K} (omega (arith, mul-le-mul_right K' h, ap (λ (z : ℕ). z * N) same)) K₀

pub times-assoc : (X Y Z : Exact) → X ⊠ Y ⊠ Z ≡ X ⊠ (Y ⊠ Z)
unfolding ◌⊠◌
times-assoc X Y Z =
    exact (go X.plus X.minus Y.plus Y.minus Z.plus Z.minus) (go X.plus X.minus Y.plus Y.minus Z.minus Z.plus) (mul_assoc X.under Y.under Z.under)
  where
    exact : {a b c p q r : ℕ} → a ≡ p → b ≡ q → c ≡ r → ◌≡◌ {A = Exact} (record { plus = a; minus = b; under = c }) (record { plus = p; minus = q; under = r })
    exact e f g = cc

    go : (a b c d e f : ℕ) → (a * c + b * d) * e + (a * d + b * c) * f ≡ a * (c * e + d * f) + b * (c * f + d * e)
    go a b c d e f = omega arith
