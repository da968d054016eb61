-- "Each number has exactly its cause": what it means of an outcome that it is caused by rows. Definitions only.
use Rattle.std.specs.Prelude.{ℕ, ◌≡◌, true, false, List, [], ◌∷◌, ◌++◌, Float}
use Rattle.refusal.specs.Outcomes.{Outcome, accepted, refused, Row}

abbrev pub NoneHolds : List Row → Type 0
NoneHolds [] = Unit {0}
NoneHolds (r ∷ rows) = (r.holds ≡ false) × NoneHolds rows

-- a row with this number and these values holds, and no row that is checked before it does
pub record FirstHolds (rows : List Row) (number : ℕ) (values : List Float) : Type 0 where
  pub earlier : List Row
  pub here : Row
  pub later : List Row
  pub all : rows ≡ earlier ++ here ∷ later
  pub none : NoneHolds earlier
  pub holds : here.holds ≡ true
  pub numbered : here.number ≡ number
  pub valued : here.values ≡ values

-- a number is answered, with its row's values, exactly when its row is the first that holds, and x is accepted exactly when none holds
pub record ExactlyCaused {A : Type 0} (rows : List Row) (x : A) (o : Outcome A) : Type 0 where
  pub refused_because : {number : ℕ} {values : List Float} → o ≡ refused number values → FirstHolds rows number values
  pub refused_where : {number : ℕ} {values : List Float} → FirstHolds rows number values → o ≡ refused number values
  pub accepted_because : {y : A} → o ≡ accepted y → NoneHolds rows × (x ≡ y)
  pub accepted_where : NoneHolds rows → o ≡ accepted x
