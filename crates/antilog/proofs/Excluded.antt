-- A number that is none of the first k is at least k: what the default arm of a `match` knows. Assumes nothing.
use Rattle.arithmetic.proofs.Kit.{◌≡◌, ℕ, zero, suc, ◌≤◌, arith}

unfoldable pub NoneOfFirst : ℕ → ℕ → Type 0
NoneOfFirst zero n = Unit
NoneOfFirst (suc k) n = NoneOfFirst k n × (n ≡ k → ⊥)

pub excluded : (k n : ℕ) → NoneOfFirst k n → k ≤ n
unfolding NoneOfFirst
excluded zero n none = omega arith
excluded (suc k) n none = omega (arith, excluded k n none.0, none.1)
