-- A positive double that is near a fraction as a part of itself tracks it. Assumes nothing.
use Rattle.exact.proofs.Kit.{◌≡◌, ap, ◌∙◌, Bool, ℕ, ◌+◌, ◌*◌, ◌/◌, ◌^◌, ◌≤◌, ◌<◌, le_of_eq, mul-le-mul_right, le_of_mul-le-mul_right, lt-div-mul-add, arith, T, Float, binary64, fits, positive, positive-finite, over, under, Fraction, Exact, ◌⊞◌, opposite, number, IsNearly, of}
use Rattle.exact.proofs.Rounded.{N, N_pos}
use Rattle.exact.proofs.Tracks.{Tracks}
use Rattle.exact.proofs.Ranges.{number_is}
use Rattle.exact.proofs.Relative.{Apart, apart-units}
use Rattle.exact.proofs.Above.{Positive, positive-units}

pub thin : (a b : ℕ) → 0 < b → a ≤ (a / b + 1) * b
thin a b b₀ = omega (arith, lt-div-mul-add {a = a} b₀)

-- by a part D / F, and of H units at most
module _ (F D L H : ℕ) (r : Float) (R : Fraction) (F₀ : 0 < F) (proper : 0 < R.under) (some : T (positive r)) (double : T (fits binary64 r)) (bottom : L ≤ over r) (top : over r ≤ H) (apart : Apart F D (over r * R.under) (R.over * N)) where
  pub positive-near : {good : Bool} → Tracks (record { L = L; M = 0; H = H; J = 0; E = D * H / F + 1; good = good }) r (of R)
  positive-near =
      let units : Positive r = positive-units r some double in
      let both = apart-units F D (over r) R.under (R.over * N) (D * H / F + 1) H F₀ top (thin (D * H) F F₀) apart in
      record {
        some = proper;
        is_finite = positive-finite r some;
        double = double;
        low = omega (arith, units.none-under, bottom);
        high = omega (arith, top);
        not_above = above_of (over r) (under r) R.under R.over (D * H / F + 1) both.0;
        not_below = below_of (over r) (under r) R.under R.over (D * H / F + 1) units.none-under both.1;
      }
    where
      above_of : (R v H G E : ℕ) → R * H ≤ G * N + E * H → R * H + 0 * N ≤ v * H + G * N + E * H
      above_of R v H G E h = omega (arith, h)

      below_of : (R v H G E : ℕ) → v ≡ 0 → G * N ≤ R * H + E * H → v * H + G * N ≤ R * H + 0 * N + E * H
      below_of R v H G E e h = omega (arith, h, ap (λ (x : ℕ). x * H) e)

-- and what is near a number above zero as a part of itself, one in F, is nearly the number
module _ (k : ℕ) (x : Float) (X : Exact) (some : T (positive x)) (double : T (fits binary64 x)) (proper : 0 < X.under) (above_zero : X.minus ≡ 0) (apart : Apart (2 ^ k) 1 (over x * X.under) (X.plus * N)) where
  pub nearly-of : IsNearly k x X
  unfolding ◌⊞◌ opposite
  nearly-of =
      let n = number_is x (positive-finite x some) double in
      record {
        is_finite = positive-finite x some;
        proper = proper;
        not_above = up (2 ^ k) (number x).plus (number x).minus (number x).under (over x) X.plus X.minus X.under n.1 above_zero apart.not_above;
        not_below = down (2 ^ k) (number x).plus (number x).minus (number x).under (over x) (under x) X.plus X.minus X.under n.1 n.2 (positive-units x some double).none-under apart.not_below;
      }
    where
      none : (b v u : ℕ) → v ≡ 0 → b * N ≡ v * u → b ≡ 0
      none b v u e f = nothing b (le_of_mul-le-mul_right {m = b} {n = 0} {k = N} (le_of_eq (f ∙ ap (λ (x : ℕ). x * u) e ∙ omega arith)) N_pos)
        where
          nothing : (b : ℕ) → b ≤ 0 → b ≡ 0
          nothing b h = omega (arith, h)

      up : (F a b u o P Q K : ℕ) → a * N ≡ o * u → Q ≡ 0 → F * (o * K) ≤ F * (P * N) + 1 * (o * K) → (a * K + Q * u) * F ≤ (b * K + P * u) * F + a * K
      up F a b u o P Q K e z h = le_of_mul-le-mul_right {k = N} (omega (arith, mul-le-mul_right u h, ap (λ (x : ℕ). x * (K * F)) e, ap (λ (x : ℕ). x * K) e, ap (λ (x : ℕ). x * (u * F * N)) z)) N_pos

      down : (F a b u o v P Q K : ℕ) → a * N ≡ o * u → b * N ≡ v * u → v ≡ 0 → F * (P * N) ≤ F * (o * K) + 1 * (o * K) → (b * K + P * u) * F ≤ (a * K + Q * u) * F + a * K
      down F a b u o v P Q K e f z h = le_of_mul-le-mul_right {k = N} (omega (arith, mul-le-mul_right u h, ap (λ (x : ℕ). x * (K * F)) e, ap (λ (x : ℕ). x * K) e, ap (λ (x : ℕ). x * (K * F * N)) (none b v u z f))) N_pos
