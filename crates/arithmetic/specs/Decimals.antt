-- `decimal "287.0531"`, `decimal "-0.0065"`, `decimal "3.14e-8"`: the double nearest to a decimal as the documents write it, ties to even, and NaN for any
-- other text. It is the logic's own `round` of the decimal, as proofs/Decimals shows, written so that it computes to a bit pattern wherever it stands.
-- Definitions only.
use Rattle.std.specs.Prelude.{ℕ, zero, suc, ◌+◌, ◌-◌, ◌*◌, ◌/◌, ◌%◌, ◌^◌, min, Bool, true, false, cond, ◌&&◌, ◌==◌, from_bits, nat_le, nat_lt, Float}
use Prim.Native.Nat.{compare}
use Prim.Native.Char.{Char, code}
use Prim.Native.String.{String, [], ◌∷◌}
use Rattle.std.specs.Float.{nan, binary64}
use Rattle.std.specs.Float.Ieee.{nearest}

-- ---- the text: a minus or none, digits, then, or not, a point and digits, then, or not, an `e` and digits, which may have a minus
-- What is read so far: the digits as one number n, how many of them stand after the point, d, and the power of ten after an `e`, 10^k, or 10^-k
-- where s is true. At the start and after a point, an `e` or its minus a digit is due.
pub data Reading : Type 0 where
  start : Reading
  whole : ℕ → Reading
  point : ℕ → Reading
  decimals : ℕ → ℕ → Reading
  power : ℕ → ℕ → Reading
  minus : ℕ → ℕ → Reading
  scaled : ℕ → ℕ → Bool → ℕ → Reading
  no_number : Reading

abbrev is : Char → Char → Bool
is c d = code c == code d

abbrev is_numeral : Char → Bool
is_numeral c = nat_le (code "0") (code c) && nat_le (code c) (code "9")

-- n with the digit c written after it
abbrev then : ℕ → Char → ℕ
then n c = n * 10 + (code c - code "0")

abbrev next : Reading → Char → Reading
next start c = cond (is_numeral c) (whole (then 0 c)) no_number
next (whole n) c = cond (is_numeral c) (whole (then n c)) (cond (is c ".") (point n) (cond (is c "e") (power n 0) no_number))
next (point n) c = cond (is_numeral c) (decimals (then n c) 1) no_number
next (decimals n d) c = cond (is_numeral c) (decimals (then n c) (suc d)) (cond (is c "e") (power n d) no_number)
next (power n d) c = cond (is_numeral c) (scaled n d false (then 0 c)) (cond (is c "-") (minus n d) no_number)
next (minus n d) c = cond (is_numeral c) (scaled n d true (then 0 c)) no_number
next (scaled n d s k) c = cond (is_numeral c) (scaled n d s (then k c)) no_number
next no_number c = no_number

abbrev read : Reading → String → Reading
read r [] = r
read r (c ∷ t) = read (next r c) t

-- the fraction that a text stands for, if it stands for one
pub record Ratio : Type 0 where
  pub is_number : Bool
  pub negative : Bool
  pub numerator : ℕ
  pub denominator : ℕ

abbrev ratio : Bool → ℕ → ℕ → Ratio
ratio s n d = record { is_number = true; negative = s; numerator = n; denominator = d }

abbrev no_fraction : Ratio
no_fraction = record { is_number = false; negative = false; numerator = 0; denominator = 1 }

abbrev fraction_of : Bool → Reading → Ratio
fraction_of s start = no_fraction
fraction_of s (whole n) = ratio s n 1
fraction_of s (point n) = no_fraction
fraction_of s (decimals n d) = ratio s n (10 ^ d)
fraction_of s (power n d) = no_fraction
fraction_of s (minus n d) = no_fraction
fraction_of s (scaled n d false k) = ratio s (n * 10 ^ k) (10 ^ d)
fraction_of s (scaled n d true k) = ratio s n (10 ^ (d + k))
fraction_of s no_number = no_fraction

abbrev pub fraction : String → Ratio
fraction [] = no_fraction
fraction (c ∷ t) = let below = is c "-" in fraction_of below (read start (cond below t (c ∷ t)))

-- ---- the double
-- how many binary digits an n below 2 ^ (2 ^ k) has
abbrev pub binary_digits : ℕ → ℕ → ℕ
binary_digits zero n = n
binary_digits (suc k) n = let s = cond (nat_lt n (2 ^ (2 ^ k))) 0 (2 ^ k) in s + binary_digits k (n / 2 ^ s)

-- num / den, in units of the smallest double, keeps its 53 leading digits and drops k; the exponent's field of the bit pattern counts those
abbrev pub pattern : ℕ → ℕ → ℕ
pattern num den =
    let n = num * 2 ^ 1074 in
    let k = binary_digits 12 (n / den) - 53 in
    let u = den * 2 ^ k in
    min (k * 2 ^ 52 + nearest (n / u) (compare (n % u * 2) u)) (2047 * 2 ^ 52)

abbrev pub nearest_to : Ratio → Float
nearest_to f = cond f.is_number (from_bits binary64 (cond f.negative (2 ^ 63) 0 + pattern f.numerator f.denominator)) nan

abbrev pub decimal : String → Float
decimal t = nearest_to (fraction t)

-- ---- three that every crate uses
abbrev pub nought : Float
nought = decimal "0"

abbrev pub one : Float
one = decimal "1"

abbrev pub hundred : Float
hundred = decimal "100"
