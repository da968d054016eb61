-- A fraction that is rounded to a normal double lies within one part in 2^53 of that double. Assumes nothing.
use Rattle.exact.proofs.Kit.{◌≡◌, refl, sym, ap, ◌∙◌, subst, ℕ, suc, ◌+◌, ◌*◌, ◌/◌, ◌%◌, ◌^◌, ◌≤◌, ◌<◌, le_trans, le_of_eq, lt_of_not-le, suc-mul, mod-lt, div-add-mod', mul_comm, mul_left_comm, mul-pos, mul-one, mul-le-mul_right, mul-le-mul_left, le_of_mul-le-mul_right, le-div_iff_mul-le, dec_le, arith, false, T, pow_pos, pow-add, Float, binary64, round, size_reaches, HasValue, closest, kept, finite, num, den, den_pos, positive-finite, value→cross, Normal}
use lib.Ieee.Order.{drop}
use lib.Ieee.Scale.{grid, round_val, round_under}
use Rattle.arithmetic.proofs.Closest.{nearest-is, closest_at_least}

-- ---- the whole number closest to y / u is no further than half from it
module _ (y u : ℕ) (some : 0 < u) where
  abbrev q : ℕ
  q = y / u

  abbrev Half : ℕ → Type 0
  Half n = (2 * (n * u) ≤ 2 * y + u) × (2 * y ≤ 2 * (n * u) + u)

  parts : q * u + y % u ≡ y
  parts = div-add-mod' y u

  rest : y % u < u
  rest = mod-lt y some

  closest_half : Half (closest y u)
  closest_half = go (dec_le u (y % u * 2)) (dec_le (y % u * 2) u)
    where
      go : Dec (u ≤ y % u * 2) → Dec (y % u * 2 ≤ u) → Half (closest y u)
      go (no l) b =
          let below : y % u * 2 < u = lt_of_not-le l in
          subst Half (nearest-is q (y % u * 2) u q (λ h. refl) (λ h. omega arith) (λ h. omega arith)) (omega (arith, parts), omega (arith, parts))
      go (yes l) (no g) =
          let above : u < y % u * 2 = lt_of_not-le g in
          subst Half (nearest-is q (y % u * 2) u (suc q) (λ h. omega arith) (λ h. omega arith) (λ h. refl)) (omega (arith, parts, suc-mul q u), omega (arith, parts, rest, suc-mul q u))
      go (yes l) (yes g) =
          let one : q % 2 * u ≤ 1 * u = mul-le-mul_right u (omega arith) in
          subst Half (nearest-is q (y % u * 2) u (q + q % 2) (λ h. omega arith) (λ h. refl) (λ h. omega arith)) (omega (arith, parts), omega (arith, parts))

-- n / c units of 2 ^ -1074: the step of a normal double is at most one part in 2^52 of it
module _ (n c : ℕ) (C : 0 < c) (normal : 2 ^ 52 ≤ kept 53 n c * 2 ^ drop 53 n c) where
  abbrev k : ℕ
  k = drop 53 n c

  abbrev u : ℕ
  u = c * 2 ^ k

  all_digits : 2 ^ 52 ≤ kept 53 n c
  all_digits = go (dec_le 1 k)
    where
      go : Dec (1 ≤ k) → 2 ^ 52 ≤ kept 53 n c
      go (yes h) =
          let reached : 2 ^ (52 + k) ≤ n / c = size_reaches (n / c) (52 + k) (omega arith) in
          let whole : 2 ^ 52 * u ≤ n = le_trans (le_of_eq (mul_left_comm (2 ^ 52) c (2 ^ k) ∙ mul_comm c (2 ^ 52 * 2 ^ k) ∙ ap (λ (x : ℕ). x * c) (sym (pow-add 2 52 k)))) ((le-div_iff_mul-le C).0 reached) in
          closest_at_least n u (2 ^ 52) ((le-div_iff_mul-le (mul-pos C (pow_pos k))).1 whole)
      go (no h) = let none : k ≡ 0 = omega arith in le_trans normal (le_of_eq (ap (λ (j : ℕ). kept 53 n c * 2 ^ j) none ∙ mul-one (kept 53 n c)))

  abbrev whole : ℕ
  whole = kept 53 n c * 2 ^ k * c

  near-units : (2 ^ 53 * n ≤ 2 ^ 53 * whole + whole) × (2 ^ 53 * whole ≤ 2 ^ 53 * n + whole)
  near-units =
      let same : whole ≡ kept 53 n c * u = omega arith in
      let step : 2 ^ 52 * u ≤ kept 53 n c * u = mul-le-mul_right u all_digits in
      let half = closest_half n u (mul-pos C (pow_pos k)) in
      (omega (arith, half.0, half.1), omega (arith, half.0, half.1))

-- from units to the numbers themselves: P is 2 ^ 1074, and m / d = G / P is the double
module _ (P a c d m G : ℕ) (P₀ : 0 < P) (same : m * P ≡ G * d) where
  scaled : m * P * c ≡ G * d * c
  scaled = ap (λ (x : ℕ). x * c) same

  below_of : 2 ^ 53 * (a * P) ≤ 2 ^ 53 * (G * c) + G * c → 2 ^ 53 * (a * d) ≤ 2 ^ 53 * (m * c) + m * c
  below_of h = let times = mul-le-mul_right d h in le_of_mul-le-mul_right {k = P} (omega (arith, scaled, times)) P₀

  above_of : 2 ^ 53 * (G * c) ≤ 2 ^ 53 * (a * P) + G * c → 2 ^ 53 * (m * c) ≤ 2 ^ 53 * (a * d) + m * c
  above_of h = let times = mul-le-mul_right d h in le_of_mul-le-mul_right {k = P} (omega (arith, scaled, times)) P₀

-- 2 ^ -1022 ≤ m / d says that there are 2 ^ 52 units
units-least : (m d G P : ℕ) → 0 < d → m * (P * 2 ^ 52) ≡ G * d → 1 * d ≤ m * P → 2 ^ 52 ≤ G
units-least m d G P d₀ same h = le_of_mul-le-mul_right {k = d} (omega (arith, mul-le-mul_left (2 ^ 52) h)) d₀

pub rounded-near : (a c : ℕ) → 0 < c → (r : Float) → r ≡ round binary64 false a c → Normal r
    → (2 ^ 53 * (a * den r) ≤ 2 ^ 53 * (num r * c) + num r * c) × (2 ^ 53 * (num r * c) ≤ 2 ^ 53 * (a * den r) + num r * c)
rounded-near a c C r is normal =
    let G : ℕ = grid binary64 a c in
    let value-of : HasValue r false G (2 ^ 1074) = subst (λ (z : Float). HasValue z false G (2 ^ 1074)) (sym is) (round_val binary64 a c (round_under binary64 a c (subst (λ (z : Float). T (finite z)) is (positive-finite r normal.0)))) in
    let same : num r * 2 ^ 1074 ≡ G * den r = value→cross r G (2 ^ 1074) value-of in
    let near = near-units (a * 2 ^ 1074) c C (units-least (num r) (den r) G (2 ^ 1022) (den_pos r) same normal.1) in
    (below_of (2 ^ 1074) a c (den r) (num r) G (pow_pos 1074) same near.0, above_of (2 ^ 1074) a c (den r) (num r) G (pow_pos 1074) same near.1)
