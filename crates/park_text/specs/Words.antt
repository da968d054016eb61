-- The words of a text. A text is the list of its bytes. Definitions only.
use Rattle.std.specs.Prelude.{ℕ, Bool, true, false, List, [], ◌∷◌, eqb}
use Rattle.park_text.specs.declared.words.Words.{Words}

-- ---- the words of a text: each is ended by a newline, 10, the last one with or without it
-- words with a byte before them: a newline ends a word of no bytes
abbrev pub before : Bool → ℕ → List (List ℕ) → List (List ℕ)
before true b ws = [] ∷ ws
before false b [] = (b ∷ []) ∷ []
before false b (w ∷ ws) = (b ∷ w) ∷ ws

unfoldable pub arguments : List ℕ → List (List ℕ)
arguments [] = []
arguments (b ∷ s) = before (eqb b 10) b (arguments s)

-- the words that are left of a text
abbrev pub words_left : Words → List (List ℕ)
words_left words = arguments words.rest.now
