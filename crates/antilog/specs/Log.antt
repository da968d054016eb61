-- Document 01, "Log word", with any number of places for its 52. Definitions only.
use Rattle.std.specs.Prelude.{ℕ, zero, suc, ◌+◌, ◌-◌, ◌*◌, ◌/◌, ◌^◌, true, false, cond, ℤ, pos, ◌+ℤ◌, ◌*ℤ◌, leb, Float, Option, Some, None}
use Rattle.std.specs.Float.{nan, inf, fin}
use Rattle.std.specs.Float.Ieee.{size, minus}
use Rattle.arithmetic.specs.declared.word.Word.{Word}
use Rattle.arithmetic.specs.Whole.{as_word}
use Rattle.arithmetic.specs.Nearest.{units_of}

-- Q = floor(M * M / 2^62)
abbrev pub squared : ℕ → ℕ
squared M = M * M / 2 ^ 62

-- the next bit is 1 if Q ≥ 2^63, else 0
abbrev pub bit_of : ℕ → ℕ
bit_of Q = cond (leb (2 ^ 63) Q) 1 0

-- and M = floor(Q / 2), else M = Q
abbrev pub normalised : ℕ → ℕ
normalised Q = cond (leb (2 ^ 63) Q) (Q / 2) Q

-- the bits of so many places, first highest
unfoldable pub log_bits : ℕ → ℕ → ℕ
log_bits zero M = 0
log_bits (suc places) M = let Q = squared M in bit_of Q * 2 ^ places + log_bits places (normalised Q)

-- A positive finite x, of n units of 2 ^ -1074, is m * 2^e with 1 ≤ m < 2: its highest binary digit is worth 2 ^ (size n - 1) units.
abbrev pub exponent_of : ℕ → ℤ
exponent_of n = minus (size n - 1) 1074

-- M = m * 2^62
abbrev pub mantissa_of : ℕ → ℕ
mantissa_of n = n * 2 ^ 62 / 2 ^ (size n - 1)

-- e * 2^places plus bits
abbrev pub word_with : (places n bits : ℕ) → ℤ
word_with places n bits = exponent_of n *ℤ pos (2 ^ places) +ℤ pos bits

-- L, with the bits of its mantissa
unfoldable pub word_of_units : ℕ → ℕ → ℤ
unfolding log_bits size
word_of_units places n = word_with places n (log_bits places (mantissa_of n))

abbrev pub log_word : ℕ → Float → ℤ
log_word places x = word_of_units places (units_of x)

-- what `log_word` answers: the word of a positive finite double
unfoldable pub logarithm : ℕ → Float → Option Word
unfolding word_of_units
logarithm places nan = None
logarithm places (inf s) = None
logarithm places (fin s zero e) = None
logarithm places (fin true (suc m) e) = None
logarithm places (fin false (suc m) e) = Some (as_word places (log_word places (fin false (suc m) e)))
