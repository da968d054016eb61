-- `sqrt` is correctly rounded: of a positive finite double it gives the `NearestRoot`. With N and d of proofs/RootDigits the root is that of N in steps
-- of 2 ^ (d + 484) units, and it is 2 ^ 52 steps at least, where the doubles are whole numbers of steps. Assumes nothing.
use Rattle.arithmetic.proofs.Kit.{◌≡◌, refl, sym, ap, ◌∙◌, subst, inl, inr, Bool, true, false, not, cond, ℕ, suc, ◌+◌, ◌-◌, ◌*◌, ◌^◌, ◌≤◌, ◌<◌, le_trans, le_of_eq, lt_of_lt_of_le, mul_assoc, mul_right_comm, mul-pos, mul-le-mul_left, mul-lt-mul_of_pos_right, arith, ℤ, T, leb, leb→le, nleb→lt, lit<, lit≤, pow-add, pow_pos, pow_mono, Float, nan, fin, binary64, up, down, minus, fits, size-le, HasValue, down_pos, round-fits, round_same, positive}
use lib.Ieee.Digits.{minus_val}
use lib.Ieee.Positive.{positive_of_value}
use Rattle.roots.proofs.Root.{four-pow}
use Rattle.arithmetic.specs.Nearest.{units_of, nearest_scaled}
use Rattle.antilog.specs.Sqrt.{nearest_root, sqrt_of_units, sqrt, twice_midpoint_squared, twice_root_squared}
use Rattle.arithmetic.proofs.Parts.{units_of-value}
use Rattle.arithmetic.proofs.Units.{Short, split-power, one-higher, units-short, units-below, units_pos, units-kept}
use Rattle.antilog.proofs.NearestWhole.{Nearest, Placed, nearest_root_lem, nearest-at_least, nearest-at_most, lower_is_farther_lem, higher_is_farther_lem}
use Rattle.antilog.proofs.RootDigits.{digits_of, moved, moved-below, moved-above, moved-exact}

-- r is a double above 0, and every other double that is finite and not negative is farther from the root of x than r is: the point half way
-- between it and r is on its own side of the root. That point is never the root itself, so there is no tie.
pub record NearestRoot (x r : Float) : Type 0 where
  pub is_double : T (fits binary64 r)
  pub is_positive : T (positive r)
  pub lower_is_farther : (n : ℕ) (e : ℤ) → T (fits binary64 (fin false n e)) → units_of (fin false n e) < units_of r → twice_midpoint_squared (fin false n e) r < twice_root_squared x
  pub higher_is_farther : (n : ℕ) (e : ℤ) → T (fits binary64 (fin false n e)) → units_of r < units_of (fin false n e) → twice_root_squared x < twice_midpoint_squared (fin false n e) r

-- r is a whole number of steps of so many units: the one nearest to the root of another, which in steps is the root of X units
pub record InSteps (X : ℕ) (r : Float) : Type 0 where
  pub whole : ℕ
  pub root : ℕ
  pub step : ℕ
  pub some : 0 < step
  pub is_near_lem : Nearest whole root
  pub least : 2 ^ 52 ≤ root
  pub counted : units_of r ≡ root * step
  pub squared : X * 2 ^ 1074 ≡ whole * (step * step)

-- a double is a whole number of 2 ^ j units, or fewer than 2 ^ 52 of them
placed : (X j : ℕ) → Short X → Placed (2 ^ 52) (2 ^ j) X
placed X j (c, k, short, e) = go (leb j k) (leb→le j k) (nleb→lt j k)
  where
    go : (b : Bool) → (T b → j ≤ k) → (T (not b) → k < j) → Placed (2 ^ 52) (2 ^ j) X
    go true l g = inr (c * 2 ^ (k - j), e ∙ split-power c k j (l tt))
    go false l g =
        inl (subst (λ (x : ℕ). x < 2 ^ 52 * 2 ^ j) (sym e) (lt_of_lt_of_le (mul-lt-mul_of_pos_right short (pow_pos k)) (le_trans (le_of_eq (one-higher k)) (mul-le-mul_left (2 ^ 52) (pow_mono (g tt))))))

-- q * 2 ^ (d - 590) is a double, of q * 2 ^ (d + 484) units
root-value : (q d : ℕ) → q ≤ 2 ^ 53 → d ≤ 1049 → HasValue (nearest_scaled q (minus d 590)) false (q * 2 ^ (d + 484)) (2 ^ 1074)
root-value q d h k =
    let e = minus d 590 in
    let same : q * up e * 2 ^ 1074 ≡ q * 2 ^ (d + 484) * down e =
    sym (mul_assoc (q * up e) (2 ^ 590) (2 ^ 484)) ∙ ap (λ (x : ℕ). x * 2 ^ 484) (minus_val q d 590) ∙ mul_right_comm (q * 2 ^ d) (down e) (2 ^ 484) ∙ ap (λ (x : ℕ). x * down e) (mul_assoc q (2 ^ d) (2 ^ 484) ∙ ap (λ (x : ℕ). q * x) (sym (pow-add 2 d 484))) in
    subst (λ (x : Float). HasValue x false (q * 2 ^ (d + 484)) (2 ^ 1074)) (sym (round_same binary64 false (q * up e) (down e) (q * 2 ^ (d + 484)) (2 ^ 1074) (down_pos e) (pow_pos 1074) same))
    (units-kept q (d + 484) h (omega arith))

-- The root of N in steps of p * w units is the root of X in units; b and v are the powers of two in `root-squared`.
squares : (X N b v p w : ℕ) → X * b ≡ N * (p * p) → b * (w * w) ≡ v → X * v ≡ N * (p * w * (p * w))
squares X N b v p w e f = omega (arith, ap (λ (x : ℕ). x * (w * w)) e, ap (λ (x : ℕ). X * x) f)

root-squared : (X N d : ℕ) → X * 4 ^ 53 ≡ N * 4 ^ d → X * 2 ^ 1074 ≡ N * (2 ^ (d + 484) * 2 ^ (d + 484))
root-squared X N d e = rw (pow-add 2 d 484) (squares X N (4 ^ 53) (2 ^ 1074) (2 ^ d) (2 ^ 484) (e ∙ ap (λ (x : ℕ). N * x) (four-pow d)) refl)

pub sqrt-of-finite : (s : Bool) (m : ℕ) (e : ℤ) → sqrt (fin s (suc m) e) ≡ cond s nan (sqrt_of_units (units_of (fin s (suc m) e)))
unfolding sqrt
sqrt-of-finite true m e = refl
sqrt-of-finite false m e = refl

module _ (m : ℕ) (e : ℤ) (double : T (fits binary64 (fin false (suc m) e))) where
  abbrev x : Float
  x = fin false (suc m) e

  abbrev X : ℕ
  X = units_of x

  abbrev d : ℕ
  d = digits_of X

  abbrev N : ℕ
  N = moved X

  abbrev q : ℕ
  q = nearest_root N

  abbrev u : ℕ
  u = 2 ^ (d + 484)

  above : 2 ^ 52 * 2 ^ 52 ≤ N
  above = moved-above X (units_pos false m e double)

  near : Nearest N q
  near = nearest_root_lem N (le_trans (lit≤ tt) above)

  root-units : HasValue (sqrt_of_units X) false (q * u) (2 ^ 1074)
  root-units = root-value q d (nearest-at_most N q (2 ^ 53) near (moved-below X)) (omega (arith, size-le X 2098 (units-below false m e double)))

  squared : X * 2 ^ 1074 ≡ N * (u * u)
  squared = root-squared X N d (moved-exact X (units-short false (suc m) e double))

  squared-twice : 4 * X * 2 ^ 1074 ≡ 4 * N * (u * u)
  squared-twice = mul_assoc 4 X (2 ^ 1074) ∙ ap (λ (y : ℕ). 4 * y) squared ∙ sym (mul_assoc 4 N (u * u))

  counted : units_of (sqrt_of_units X) ≡ q * u
  counted = units_of-value (sqrt_of_units X) false (q * u) root-units

  least : 2 ^ 52 ≤ q
  least = nearest-at_least N q (2 ^ 52) near above

  pub sqrt_in_steps : InSteps X (sqrt x)
  sqrt_in_steps = record { whole = N; root = q; step = u; some = pow_pos (d + 484); is_near_lem = near; least = least; counted = ap units_of (sqrt-of-finite false m e) ∙ counted; squared = squared }

  place : (n : ℕ) (e' : ℤ) → T (fits binary64 (fin false n e')) → Placed (2 ^ 52) u (units_of (fin false n e'))
  place n e' z = placed (units_of (fin false n e')) (d + 484) (units-short false n e' z)

  pub sqrt-nearest : NearestRoot x (sqrt x)
  sqrt-nearest =
      rw (sqrt-of-finite false m e)
      (record {
        is_double = round-fits binary64 false (q * up (minus d 590)) (down (minus d 590));
        is_positive = positive_of_value (sqrt_of_units X) (q * u) (2 ^ 1074) root-units (mul-pos (lt_of_lt_of_le (lit< tt) least) (pow_pos (d + 484)));
        lower_is_farther = λ n e' z h. rw (squared-twice, counted) (lower_is_farther_lem N q (2 ^ 52) u (pow_pos (d + 484)) near above (units_of (fin false n e')) (place n e' z) (rw counted at h));
        higher_is_farther = λ n e' z h. rw (squared-twice, counted) (higher_is_farther_lem N q (2 ^ 52) u (pow_pos (d + 484)) near above (units_of (fin false n e')) (place n e' z) (rw counted at h));
      })
