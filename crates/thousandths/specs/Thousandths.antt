-- Document 02, "Thousandths for the new masts": "a signed count of thousandths in four bytes, two's complement", and "a count n means the double nearest
-- n / 1000". Definitions only.
use Rattle.std.specs.Prelude.{ℕ, suc, ◌+◌, ◌-◌, ◌*◌, ◌/◌, Bool, cond, ℤ, pos, negsuc, leb, eqb, Float, Option, Some, None}
use Rattle.std.proofs.Math.IntN.{sub_ℕ}
use Rattle.std.specs.Float.{nan, inf, fin, binary64}
use Rattle.std.specs.Float.Ieee.{up, down, to_bits}
use Rattle.arithmetic.specs.Nearest.{nearest_ratio}
use Rattle.arithmetic.specs.Whole.{signed}

-- ---- "four bytes, two's complement"
-- the signed 32-bit range, in which a count lies: -2147483648 to 2147483647. `negsuc n` is -(n + 1).
abbrev pub in_range : ℤ → Bool
in_range (pos n) = leb n 2147483647
in_range (negsuc n) = leb (suc n) 2147483648

-- the word w, below 2^32, stands for itself or for w - 2^32
unfoldable pub count_of : ℕ → ℤ
count_of w = cond (leb w 2147483647) (pos w) (sub_ℕ w 4294967296)

unfoldable pub twos_complement : ℤ → ℕ
twos_complement (pos n) = n
twos_complement (negsuc n) = 4294967296 - suc n

-- ---- "the double nearest n / 1000", ties to even; 0 is +0
unfoldable pub thousandths : ℤ → Float
thousandths n = nearest_ratio n 1000

-- ---- the count of a double
-- a / b to the nearest whole number, a half up
abbrev pub nearest_whole : ℕ → ℕ → ℕ
nearest_whole a b = (a * 2 + b) / (b * 2)

-- the count nearest to a double, which is m * 2 ^ e with a sign: the only one whose double it can be
unfoldable pub nearest_thousandth : Float → ℤ
nearest_thousandth nan = pos 0
nearest_thousandth (inf s) = pos 0
nearest_thousandth (fin s m e) = signed s (nearest_whole (m * up e * 1000) (down e))

-- the count n, if it is in range
unfoldable pub counted : ℤ → Option ℤ
counted n = cond (in_range n) (Some n) None

-- and if its double has the bit pattern b
unfoldable pub if_exact : ℕ → Option ℤ → Option ℤ
if_exact b (Some n) = cond (eqb (to_bits binary64 (thousandths n)) b) (Some n) None
if_exact b None = None

unfoldable pub count_for : Float → Option ℤ
count_for x = if_exact (to_bits binary64 x) (counted (nearest_thousandth x))
