-- Where the code finds a byte that it looks for from a position on. Assumes nothing.
use Rattle.arithmetic.proofs.Kit.{◌≡◌, ap, ◌∙◌, List, ℕ, ◌+◌, length, drop, take-length}
use Rattle.pages.specs.Scan.{index_of, slice}

pub found : (d : ℕ) (s : List ℕ) (from : ℕ) {r : ℕ} → r ≡ from + index_of d (slice from (length s) s) → r ≡ from + index_of d (drop from s)
found d s from e = e ∙ ap (λ (l : List ℕ). from + index_of d (drop from l)) (take-length s)
