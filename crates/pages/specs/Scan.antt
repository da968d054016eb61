-- Bytes looked for. Definitions only.
use Rattle.std.specs.Prelude.{ℕ, suc, Bool, true, false, List, [], ◌∷◌, take, drop, eqb}

-- the bytes from one position up to another
abbrev pub slice : ℕ → ℕ → List ℕ → List ℕ
slice from to s = drop from (take to s)

-- the place of the first d, and how many bytes there are where none is d
unfoldable pub index_after : Bool → ℕ → ℕ
index_after true n = 0
index_after false n = suc n

unfoldable pub index_of : ℕ → List ℕ → ℕ
index_of d [] = 0
index_of d (b ∷ s) = index_after (eqb b d) (index_of d s)
