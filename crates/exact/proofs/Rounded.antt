-- One rounded operation on two finite doubles lies within a step of the exact result. Numbers are counts of units of 2 ^ -1074. Assumes nothing.
use Rattle.exact.proofs.Kit.{◌≡◌, ap, ap₂, Bool, true, false, ℕ, suc, ◌+◌, ◌-◌, ◌*◌, ◌^◌, ◌≤◌, ◌<◌, le_trans, le_of_eq, lt_of_lt_of_le, mul-pos, arith, ℤ, T, eqb·suc-zero, pow-add, pow_pos, pow_mono, Float, fin, binary64, up, down, size, round, add, mul, div, fits, size-lt, up_pos, down_pos, round_same, units_of, above, beneath, units-exact, over, under}
use lib.Ieee.{unlike}
use Rattle.arithmetic.proofs.Sums.{sum_is, add-counts}
use Rattle.arithmetic.proofs.Products.{unlike_plus}
use Rattle.arithmetic.proofs.Near.{Step, Near, round-near}

-- 1 in units
unfoldable pub N : ℕ
N = 2 ^ 1074

pub N_pos : 0 < N
unfolding N
N_pos = pow_pos 1074

-- the step of the doubles of D units at most
abbrev pub step_of : ℕ → ℕ
step_of D = 2 ^ (size D - 53)

pub fine_enough : (D : ℕ) → D < 2 ^ 53 * step_of D
fine_enough D = lt_of_lt_of_le (size-lt D) (le_trans (pow_mono {i = size D} {j = 53 + (size D - 53)} (omega arith)) (le_of_eq (pow-add 2 53 (size D - 53))))

like_signs : (s t : Bool) (a b : ℕ) → above (unlike s t) (a * b) ≡ above s a * above t b + beneath s a * beneath t b
unfolding above beneath
like_signs false false a b = omega arith
like_signs false true a b = omega arith
like_signs true false a b = omega arith
like_signs true true a b = omega arith

unlike_signs : (s t : Bool) (a b : ℕ) → beneath (unlike s t) (a * b) ≡ above s a * beneath t b + beneath s a * above t b
unfolding above beneath
unlike_signs false false a b = omega arith
unlike_signs false true a b = omega arith
unlike_signs true false a b = omega arith
unlike_signs true true a b = omega arith

module _ (s t : Bool) (m n : ℕ) (e d : ℤ) (f : T (fits binary64 (fin s m e))) (g : T (fits binary64 (fin t n d))) (U : ℕ) (step : Step U) where
  abbrev x : Float
  x = fin s m e

  abbrev y : Float
  y = fin t n d

  size-at_most : (r : Bool) (k p q D : ℕ) → above r k + q ≡ beneath r k + p → p ≤ q + D → q ≤ p + D → k ≤ D
  unfolding above beneath
  size-at_most false k p q D h i j = omega (arith, h, i)
  size-at_most true k p q D h i j = omega (arith, h, j)

  pub add-rounded : (D : ℕ) → over x + over y ≤ under x + under y + D → under x + under y ≤ over x + over y + D → D < 2 ^ 53 * U → Near U 1 (over x + over y) (under x + under y) (add binary64 x y)
  add-rounded D high low small =
      let z = sum_is s t (units_of x) (units_of y) (2 ^ 1074) in
      let most : z.size ≤ D = size-at_most z.sign z.size (over x + over y) (under x + under y) D (omega (arith, z.balanced)) high low in
      let r = round-near z.sign z.size 1 U (omega arith) step (omega (arith, most, small)) in
      rw (add-counts s t m n e d f g) (rw z.rounded record { is_finite = r.is_finite; double = r.double; not_above = omega (arith, r.not_above, z.balanced); not_below = omega (arith, r.not_below, z.balanced) })

  same-sides : above (unlike s t) (units_of x * units_of y) ≡ over x * over y + under x * under y
  same-sides = like_signs s t (units_of x) (units_of y)

  other-sides : beneath (unlike s t) (units_of x * units_of y) ≡ over x * under y + under x * over y
  other-sides = unlike_signs s t (units_of x) (units_of y)

  products : (a b c k l h w : ℕ) → a * w ≡ c * h → b * w ≡ k * l → a * b * (w * w) ≡ c * k * (h * l)
  products a b c k l h w p q = omega (arith, ap₂ (λ (u v : ℕ). u * v) p q)

  pub mul-rounded : units_of x * units_of y < 2 ^ 53 * U * N → Near U N (over x * over y + under x * under y) (over x * under y + under x * over y) (mul binary64 x y)
  unfolding N mul
  mul-rounded small =
      let same : round binary64 (unlike s t) (m * up e * (n * up d)) (down e * down d) ≡ round binary64 (unlike s t) (units_of x * units_of y) (2 ^ 1074 * 2 ^ 1074) =
      round_same binary64 (unlike s t) (m * up e * (n * up d)) (down e * down d) (units_of x * units_of y) (2 ^ 1074 * 2 ^ 1074) (mul-pos (down_pos e) (down_pos d)) (mul-pos (pow_pos 1074) (pow_pos 1074))
      (products (m * up e) (n * up d) (units_of x) (units_of y) (down d) (down e) (2 ^ 1074) (units-exact s m e f) (units-exact t n d g)) in
      rw (same, ← same-sides, ← other-sides) (round-near (unlike s t) (units_of x * units_of y) (2 ^ 1074) U (pow_pos 1074) step small)

module _ (s : Bool) (m n : ℕ) (e d : ℤ) (f : T (fits binary64 (fin s m e))) (g : T (fits binary64 (fin false (suc n) d))) (U : ℕ) (step : Step U) where
  abbrev dividend : Float
  dividend = fin s m e

  abbrev by : Float
  by = fin false (suc n) d

  quotients : (a b c k l h w : ℕ) → a * w ≡ c * h → b * w ≡ k * l → a * l * (w * k) ≡ c * w * (b * h)
  quotients a b c k l h w p q = omega (arith, ap (λ (u : ℕ). u * (l * k)) p, ap (λ (u : ℕ). u * (c * h)) q)

  above-times : (s : Bool) (a k : ℕ) → (above s (a * k) ≡ above s a * k) × (beneath s (a * k) ≡ beneath s a * k)
  unfolding above beneath
  above-times false a k = (omega arith, omega arith)
  above-times true a k = (omega arith, omega arith)

  pub div-rounded : 0 < units_of by → units_of dividend * N < 2 ^ 53 * U * units_of by → Near U (units_of by) (over dividend * N) (under dividend * N) (div binary64 dividend by)
  unfolding N div
  div-rounded some small =
      let same : round binary64 s (m * up e * down d) (suc n * up d * down e) ≡ round binary64 s (units_of dividend * 2 ^ 1074) (2 ^ 1074 * units_of by) =
      round_same binary64 s (m * up e * down d) (suc n * up d * down e) (units_of dividend * 2 ^ 1074) (2 ^ 1074 * units_of by) (mul-pos (mul-pos (omega arith) (up_pos d)) (down_pos e)) (mul-pos (pow_pos 1074) some)
      (quotients (m * up e) (suc n * up d) (units_of dividend) (units_of by) (down d) (down e) (2 ^ 1074) (units-exact s m e f) (units-exact false (suc n) d g)) in
      rw (eqb·suc-zero n, unlike_plus s, same, ← (above-times s (units_of dividend) (2 ^ 1074)).0, ← (above-times s (units_of dividend) (2 ^ 1074)).1)
      (round-near s (units_of dividend * 2 ^ 1074) (units_of by) U some step small)
