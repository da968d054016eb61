-- The 800 changes in their order, document 02, and the first of some that gives another class. Definitions only.
use Rattle.trim.specs.declared.changes.Turn.{Turn}
use Rattle.std.specs.Prelude.{ℕ, zero, suc, List, [], ◌∷◌, ◌++◌, None, Option, Some}
use Rattle.trim.specs.declared.changes.Quantity.TheVariants.{Temperature, MeasuredPressure}
use Rattle.trim.specs.declared.changes.Direction.TheVariants.{Up, Down}
use Rattle.trim.specs.declared.changes.Change.{Change}
use Rattle.trim.specs.declared.changes.Start.{Start}
use Rattle.trim.specs.Changes.{change, tried}

-- ---- the 800 changes in their order: k rising, temperature before pressure, up before down
abbrev pub changes_of : ℕ → List Change
changes_of k = change Temperature Up k ∷ change Temperature Down k ∷ change MeasuredPressure Up k ∷ change MeasuredPressure Down k ∷ []

-- those of n counts from k on
unfoldable pub changes_from : ℕ → ℕ → List Change
changes_from zero k = []
changes_from (suc n) k = changes_of k ++ changes_from n (suc k)

unfoldable pub changes : List Change
changes = changes_from 200 1

-- ---- the first of some changes that gives another class
abbrev pub or_else : (Option Turn) → (Option Turn) → (Option Turn)
or_else (Some t) later = Some t
or_else None later = later

unfoldable pub first_of : Start → List Change → (Option Turn)
first_of s [] = None
first_of s (x ∷ xs) = or_else (tried s x) (first_of s xs)
