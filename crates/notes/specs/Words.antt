-- A note of a report: a line, and the test by which it is printed. And the words of lines. Definitions only.
use Rattle.std.specs.Prelude.{ℕ, Bool, cond, List, [], ◌∷◌, ◌++◌, Float}
use Prim.Native.String.{String}
use Rattle.arithmetic.specs.Ascii.{ascii}
use Rattle.decimals.specs.Shown.{shown}

-- ---- notes
pub record Note : Type 0 where
  pub holds : Bool
  pub line : List ℕ

abbrev pub note : Bool → List ℕ → Note
note b l = record { holds = b; line = l }

-- a text where a test holds, and nothing where it does not
abbrev pub when : Bool → List ℕ → List ℕ
when b text = cond b text []

-- the lines of the notes that hold, in their order
abbrev pub printed : List Note → List ℕ
printed [] = []
printed (n ∷ rest) = when n.holds n.line ++ printed rest

-- ---- words
-- a figure between words
abbrev pub figured : String → ℕ → Float → String → List ℕ
figured before k x after = ascii before ++ shown k x ++ ascii after
