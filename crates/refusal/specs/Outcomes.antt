-- An outcome: what is accepted, or the number of a refusal with the values that it hands out. A row is a check of document 01's table; of a list of rows the
-- first that holds refuses. Definitions only.
use Rattle.std.specs.Prelude.{ℕ, Bool, cond, List, [], ◌∷◌, Float, Err, Ok, Result}
use Rattle.refusal.specs.declared.Refusal.{Refusal}
use Rattle.refusal.specs.Refusals.{number_of, values_of}

pub data Outcome (A : Type 0) : Type 0 where
  accepted : A → Outcome A
  refused : ℕ → List Float → Outcome A

-- the outcome of a cause of the code's
abbrev pub refusal : {A : Type 0} → Refusal → Outcome A
refusal c = refused (number_of c) (values_of c)

-- what each case of the code's answers stands for, whatever they hold
abbrev pub outcome : {A : Type 0} → Result A Refusal → Outcome A
outcome (Ok x) = accepted x
outcome (Err c) = refusal c

-- what comes after an outcome: a refusal is the last word
infixr 20 ◌⟫◌
abbrev pub ◌⟫◌ : {A B : Type 0} → Outcome A → (A → Outcome B) → Outcome B
accepted x ⟫ next = next x
refused number values ⟫ next = refused number values

-- ---- rows
pub record Row : Type 0 where
  pub holds : Bool
  pub number : ℕ
  pub values : List Float

abbrev pub row : Bool → ℕ → List Float → Row
row b n vs = record { holds = b; number = n; values = vs }

-- the first row that holds refuses, and where none does it is the outcome after them
infixr 15 ◌then◌
abbrev pub ◌then◌ : {A : Type 0} → List Row → Outcome A → Outcome A
[] then o = o
(r ∷ rows) then o = cond r.holds (refused r.number r.values) (rows then o)

-- the order of the checks: the numbers of the rows, one after the other
abbrev pub numbers : List Row → List ℕ
numbers [] = []
numbers (r ∷ rows) = r.number ∷ numbers rows

-- ---- the rows that a check of the code's tries: it passes where none holds
abbrev pub passed : List Row → Outcome (Unit {0})
passed rows = rows then accepted tt
