-- The pressures of the National Weather Service's formula, 1013.25 hPa times a power: for bases from 1/2 to 2 that lie one part in 2^18 apart, the greater
-- base has the greater pressure. Assumes nothing.
use Rattle.density_order.proofs.Kit.{true, false, ℕ, zero, suc, ◌+◌, ◌*◌, ◌^◌, ◌≤◌, ℤ, pos, negsuc, T, lit<, lit≤, Float, nan, inf, fin, binary64, of_bits, div, fits, lt, le, positive, ◌⊗◌, power, count_of-le, le-trans-double, nws_reciprocal}
use lib.Ieee.Positive.{between}
use Rattle.arithmetic.specs.Nearest.{units_of}
use Rattle.arithmetic.proofs.Integers.{le-of_pos}
use Rattle.elementary.proofs.Rises.{power-fits}
use Rattle.arithmetic.proofs.Between.{products-apart}
use Rattle.elementary.proofs.PowersApart.{powers-parted}
use Rattle.atmosphere.specs.Station.{standard_pressure}

-- the exponent, about 5.2553, times 2^58
abbrev magnitude : ℕ
magnitude = 1514737845282376448

abbrev pub pressure_at : ℕ → Float → Float
pressure_at p x = standard_pressure ⊗ power p nws_reciprocal x

-- ---- the bases, from 1/2 to 2
abbrev half : Float
half = fin false 1 (negsuc 0)

abbrev two : Float
two = fin false 1 (pos 1)

positive-cases : (P : Float → Type 0) → ((m : ℕ) (e : ℤ) → P (fin false (suc m) e)) → (x : Float) → T (positive x) → P x
positive-cases P finite nan u = absurd u
positive-cases P finite (inf s) u = absurd u
positive-cases P finite (fin true m e) u = absurd u
positive-cases P finite (fin false zero e) u = absurd u
positive-cases P finite (fin false (suc m) e) u = finite m e

-- ---- the pressures
abbrev Apart : ℕ → Float → Float → Type 0
Apart p x y = T (fits binary64 x) → T (fits binary64 y) → T (le half x) → T (le y two) → units_of x * (2 ^ 18 + 1) ≤ units_of y * 2 ^ 18 → T (lt (pressure_at p x) (pressure_at p y))

apart : (p : ℕ) → 52 ≤ p → p ≤ 60 → (m n : ℕ) (e d : ℤ) → Apart p (fin false (suc m) e) (fin false (suc n) d)
unfolding of_bits div fits
apart p least most m n e d f g low high units =
    let u : Float = power p nws_reciprocal (fin false (suc m) e) in
    let v : Float = power p nws_reciprocal (fin false (suc n) d) in
    let low-units : 2 ^ 1073 ≤ units_of (fin false (suc m) e) = le-of_pos (count_of-le false false 1 (suc m) (negsuc 0) e tt f low) in
    let high-units : units_of (fin false (suc n) d) ≤ 2 ^ 1075 = le-of_pos (count_of-le false false (suc n) 1 d (pos 1) g tt high) in
    products-apart 4052 1 25 (lit≤ tt) (2 ^ 32) u v (power-fits p nws_reciprocal (fin false (suc m) e)) (power-fits p nws_reciprocal (fin false (suc n) d)) (lit< tt)
    (powers-parted p magnitude (record { least = lit≤ tt; most = lit≤ tt }) least most m n e d f g low-units high-units units)

-- x ≤ y is asked for, since `units_of` sees no sign, and no infinity
pub pressures-apart : (p : ℕ) → 52 ≤ p → p ≤ 60 → (x y : Float) → T (fits binary64 x) → T (fits binary64 y) → T (le (fin false 1 (negsuc 0)) x) → T (le x y) → T (le y (fin false 1 (pos 1)))
    → units_of x * (2 ^ 18 + 1) ≤ units_of y * 2 ^ 18 → T (lt (pressure_at p x) (pressure_at p y))
unfolding fits
pressures-apart p least most x y f g low order high units =
    positive-cases (λ x. Apart p x y) (λ m e. positive-cases (λ y. Apart p (fin false (suc m) e) y) (λ n d. apart p least most m n e d) y (between half y two tt tt (le-trans-double half x y tt f g low order) high))
    x (between half x two tt tt low (le-trans-double x y two f g tt order high)) f g low high units
