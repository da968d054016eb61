-- Document 01's sample records and the text of each answer. Definitions only.
use Rattle.std.specs.Prelude.{ℕ, zero, suc, ◌/◌, ◌%◌, ◌^◌, List, [], ◌∷◌, ◌++◌, Float}
use Rattle.std.specs.Float.{binary64}
use Rattle.std.specs.Float.Ieee.{to_bits}

-- ---- bytes
-- the last k bytes of n, the highest first
abbrev pub big_endian : ℕ → ℕ → List ℕ
big_endian zero n = []
big_endian (suc k) n = (n / 256 ^ k % 256) ∷ big_endian k n

-- a field: tag, length, a double
abbrev pub double_field : ℕ → Float → List ℕ
double_field tag x = big_endian 1 tag ++ big_endian 2 8 ++ big_endian 8 (to_bits binary64 x)
