-- The numerators of readings are whole numbers below 2 ^ 53 in size, so that they are doubles exactly. Assumes nothing.
use Rattle.arithmetic.proofs.Kit.{Bool, true, false, cond, ℕ, zero, suc, ◌-◌, ◌*◌, ◌^◌, ◌≤◌, ◌<◌, zero-le, le_trans, lt_of_le_of_lt, mul-le-mul, arith, ltb, lit<, lit≤, ℤ, pos, negsuc}
use lib.IntN.{neg_ℤ, ◌*ℤ◌, ◌-ℤ◌}
use lib.Signed.{mag}
use Rattle.park_text.specs.declared.units.Unit.{Unit}
use Rattle.park_text.specs.declared.units.Unit.TheVariants.{Plain, Foot, Fahrenheit, Kelvin, Kilopascal, InchOfMercury}
use Rattle.park_text.specs.Units.{numerator_of}

size_of-minus : (k : ℕ) → mag (neg_ℤ (pos k)) ≤ k
size_of-minus zero = zero-le
size_of-minus (suc k) = omega arith

times-small : (z : ℤ) (t : ℕ) → mag z < 2147483648 → t ≤ 338639 → mag (z *ℤ pos t) < 2 ^ 53
times-small (pos n) t h few = let size : n ≤ 2147483648 = omega arith in lt_of_le_of_lt (mul-le-mul size few) (lit< tt)
times-small (negsuc n) t h few =
    let size : suc n ≤ 2147483648 = omega arith in lt_of_le_of_lt (le_trans (size_of-minus (suc n * t)) (mul-le-mul size few)) (lit< tt)

less-small : (z : ℤ) (l : ℕ) → mag z < 2147483648 → l ≤ 273150 → mag (z -ℤ pos l) < 2 ^ 53
less-small (pos n) zero h few = omega arith
less-small (pos n) (suc l) h few = go (ltb n (suc l))
  where
    go : (b : Bool) → mag (cond b (negsuc (suc l - suc n)) (pos (n - suc l))) < 2 ^ 53
    go true = omega arith
    go false = omega arith
less-small (negsuc n) zero h few = go (ltb 0 (suc n))
  where
    go : (b : Bool) → mag (cond b (negsuc (suc n - 1)) (pos (0 - suc n))) < 2 ^ 53
    go true = omega arith
    go false = omega arith
less-small (negsuc n) (suc l) h few = omega arith

pub numerator-small : (u : Unit) (z : ℤ) → mag z < 2147483648 → mag (numerator_of u z) < 2 ^ 53
numerator-small Plain z h = omega arith
numerator-small Foot z h = times-small z 3048 h (lit≤ tt)
numerator-small Fahrenheit z h = less-small z 32000 h (lit≤ tt)
numerator-small Kelvin z h = less-small z 273150 h (lit≤ tt)
numerator-small Kilopascal z h = omega arith
numerator-small InchOfMercury z h = times-small z 338639 h (lit≤ tt)
