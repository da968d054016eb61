-- The tables that the quick root starts from: their entries are numbered from 256 to 1,023. Definitions only.
use Rattle.std.specs.Prelude.{ℕ, zero, suc, ◌-◌, ◌*◌, ◌/◌, ◌^◌, List, [], ◌∷◌}
use Rattle.roots.specs.Root.{root}

-- the values of f at k numbers from n on
unfoldable pub values : (f : ℕ → ℕ) (n k : ℕ) → List ℕ
values f n zero = []
values f n (suc k) = f n ∷ values f (suc n) k

-- the greatest whole number whose square is at most n * 2 ^ 20
unfoldable pub entry : ℕ → ℕ
entry n = root (n * 2 ^ 20)

unfoldable pub root_table : List ℕ
root_table = values entry 256 768

unfoldable pub reciprocal_table : List ℕ
reciprocal_table = values (λ (n : ℕ). (2 ^ 46 - 1) / entry n) 256 768
