-- The floor of the square root of a natural number, by its digits to the base 4. Definitions only.
use Rattle.std.specs.Prelude.{ℕ, zero, suc, ◌*◌, ◌/◌, cond, nat_le}
use Rattle.std.specs.Float.Ieee.{size}

-- The greatest r with r * r ≤ n, for an n below 4 ^ k. The root of n / 4, doubled, is the root of n or one less.
unfoldable pub root_in : ℕ → ℕ → ℕ
root_in zero n = zero
root_in (suc k) n = let s = 2 * root_in k (n / 4) in cond (nat_le (suc s * suc s) n) (suc s) s

-- n has `size n` binary digits, so it is below 4 ^ size n
unfoldable pub root : ℕ → ℕ
unfolding root_in size
root n = root_in (size n) n
