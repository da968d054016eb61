-- What is kept of a buffer of input for the next turn: the bytes from `taken` up to `all`, 4,098 of them at most. Definitions only.
use Rattle.std.specs.Prelude.{ℕ, ◌+◌, ◌-◌, min, List, length, get_or}
use Rattle.pages.specs.Pages.{up_to}

unfoldable pub kept_of : List ℕ → ℕ → ℕ → List ℕ
kept_of buffer taken all = up_to (λ i. get_or buffer (taken + i) 0) (min (min all (length buffer) - taken) 4098)
