-- A word as three numbers, and a logarithm as a word that may be missing. Definitions only.
use Rattle.std.specs.Prelude.{ℕ, Bool, true, false, Option, Some, None}
use Rattle.arithmetic.specs.declared.word.Word.{Word}

abbrev pub word_of_numbers : Bool → ℕ → ℕ → Word
word_of_numbers s k f = record { negative = s; whole = k; part = f }

abbrev pub is_defined : Option Word → Bool
is_defined (Some w) = true
is_defined None = false

-- the word, or o where there is none
abbrev pub word_or : Word → Option Word → Word
word_or o (Some w) = w
word_or o None = o
