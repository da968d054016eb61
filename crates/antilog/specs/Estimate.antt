-- 2 to the power of a binary fraction, nearly: what `estimate` computes. proofs/Near says how near that is. Definitions only.
use mathlib.Core.List.{List, [], ◌∷◌, map, flat_map}
use Rattle.std.specs.Prelude.{ℕ, zero, suc, ◌+◌, ◌-◌, ◌*◌, ◌/◌, ◌%◌, ◌^◌, get_or}
use Rattle.roots.specs.Root.{root}

-- ---- the powers of 2 that it multiplies by

-- 2^128 times 2 to the power 1 / 2 ^ p: the root of 2 is taken p times, each cut to a whole number
unfoldable pub root_of_two : ℕ → ℕ
unfolding root
root_of_two zero = 2 ^ 129
root_of_two (suc p) = root (root_of_two p * 2 ^ 128)

-- what the i-th power of base / 2^128 exceeds 1 by, in units of 2 ^ -s and cut to a whole number
unfoldable pub excess_of : (base s i : ℕ) → ℕ
excess_of base s i = base ^ i * 2 ^ s / 2 ^ (128 * i) - 2 ^ s

-- row j has that of 2 to the power i / 16 ^ (j + 1), for i from 0 to 15, in units of 2^-(64 + 4 j)
unfoldable pub excess_row : ℕ → List ℕ
unfolding root_of_two excess_of
excess_row j = map (excess_of (root_of_two (4 * j + 4)) (64 + 4 * j)) (0 ∷ 1 ∷ 2 ∷ 3 ∷ 4 ∷ 5 ∷ 6 ∷ 7 ∷ 8 ∷ 9 ∷ 10 ∷ 11 ∷ 12 ∷ 13 ∷ 14 ∷ 15 ∷ [])

unfoldable pub excess_table : List ℕ
unfolding excess_row
excess_table = flat_map excess_row (0 ∷ 1 ∷ 2 ∷ 3 ∷ 4 ∷ 5 ∷ 6 ∷ 7 ∷ [])

-- each of the last 28 bits has the excess of 2 to the power 1 / 2^60, in units of 2^-96
unfoldable pub last_excess : ℕ
unfolding root_of_two excess_of
last_excess = excess_of (root_of_two 60) 96 1

-- ---- the estimate

-- the entry of digit j of f, which has fifteen of four bits, highest first
abbrev pub entry_of : (j f : ℕ) → ℕ
entry_of j f = get_or excess_table (16 * j + f / 2 ^ (56 - 4 * j) % 16) 0

-- two excesses, x in units of 2^-(64 + k) and y in units a sixteenth of these, joined to that of the product, nearly
abbrev pub joined : (x y k : ℕ) → ℕ
joined x y k = x + y / 16 + x * y / 2 ^ (68 + k)

-- what 2 to the power of f's last bits, from digit j on, exceeds 1 by, in units of 2^-(64 + 4 j): n digits, and the bits that are left. The last
-- are joined first, so that what each join cuts off is cut by the next.
unfoldable pub excess_from : (n j f : ℕ) → ℕ
unfolding excess_table last_excess
excess_from zero j f = f % 2 ^ 28 * last_excess
excess_from (suc n) j f = joined (entry_of j f) (excess_from n (suc j) f) (4 * j)

-- 2^63 times 2 to the power f / 2^60
unfoldable pub estimate : ℕ → ℕ
unfolding excess_from
estimate f = 2 ^ 63 + excess_from 8 0 f / 2

-- a times 2 to the power n / 2^60, nearly, for an n of 28 bits
unfoldable pub moved : (a n : ℕ) → ℕ
unfolding last_excess
moved a n = a + a * (n * last_excess) / 2 ^ 96
