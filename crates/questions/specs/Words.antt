-- The words of a line: what stands between its blanks, 32. A line without a blank is one word. And a word's place among names. Definitions only.
use Rattle.std.specs.Prelude.{ℕ, suc, Bool, true, false, cond, List, [], ◌∷◌, eqb}
use Rattle.pages.specs.Characters.{same}

-- words with a byte before them: a blank ends a word of no bytes
abbrev pub before_part : Bool → ℕ → List (List ℕ) → List (List ℕ)
before_part true b ws = [] ∷ ws
before_part false b [] = (b ∷ []) ∷ []
before_part false b (w ∷ ws) = (b ∷ w) ∷ ws

unfoldable pub line_parts : List ℕ → List (List ℕ)
line_parts [] = [] ∷ []
line_parts (b ∷ s) = before_part (eqb b 32) b (line_parts s)

-- ---- names
-- the place of a name in a list, and the list's length where it is not there
abbrev pub place_in : List (List ℕ) → List ℕ → ℕ
place_in [] w = 0
place_in (n ∷ ns) w = cond (same w n) 0 (suc (place_in ns w))
