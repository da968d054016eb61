-- What may be relied on of notes: a line is printed exactly if a row with it holds, and nothing else is. Definitions only.
use Rattle.std.specs.Prelude.{ℕ, ◌≡◌, true, cond}
use mathlib.Core.List.{List, [], ◌∷◌, ◌++◌, Memᴰ}
use Rattle.notes.specs.Words.{Note, printed}

-- the lines of the rows that hold, one by one
abbrev pub lines : List Note → List (List ℕ)
lines [] = []
lines (n ∷ rest) = cond n.holds (n.line ∷ []) [] ++ lines rest

abbrev pub joined : List (List ℕ) → List ℕ
joined [] = []
joined (l ∷ rest) = l ++ joined rest

-- a row with this line holds
pub record Holds (ns : List Note) (l : List ℕ) : Type 0 where
  pub row : Note
  pub among : Memᴰ row ns
  pub holds : row.holds ≡ true
  pub said : row.line ≡ l

pub record ExactlyPrinted (ns : List Note) : Type 0 where
  pub text : printed ns ≡ joined (lines ns)
  pub because : (l : List ℕ) → Memᴰ l (lines ns) → Holds ns l
  pub wherever : (l : List ℕ) → Holds ns l → Memᴰ l (lines ns)
