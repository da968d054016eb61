-- What is proved of trim classes and of the search for the next one beyond their contracts, as types. The page of promises says it in full. Assumes nothing.
use Rattle.std.specs.Prelude.{None, Some}
use Rattle.trim.proofs.Kit.{ℕ, ◌+◌, ◌<◌, ◌≡◌, false, not, ◌||◌, List, [], ◌∷◌, ◌++◌, Float, ◌⊎◌, accepted, Row, row, refused, None, Readings, temperature, measured_pressure, readings, read_record, entry_of, is_some, Figures, record_rows, judged, judge, Quantity, Temperature, MeasuredPressure, Up, Down, Turn, Start, change, Next, next_trim_class, place, FirstToGive, NoneGives, Asks, next_for}
use Rattle.refusal.specs.Causes.{ExactlyCaused}

abbrev pub NoChange : List ℕ → Start → Type 0
NoChange bytes s = next_trim_class bytes ≡ accepted (record { class = s.class; turn = None })

-- ---- every other record is refused
pub record ClassAnswered (bytes : List ℕ) (n : Next) : Type 0 where
  pub start : Start
  pub asks : Asks bytes start
  pub class : n.class ≡ start.class

pub record Refusals (bytes : List ℕ) : Type 0 where
  pub own : (number : ℕ) (values : List Float) → judge bytes ≡ refused number values → next_trim_class bytes ≡ refused number values
  pub no_reading : (r : Readings) (f : Figures) → read_record false bytes ≡ accepted r → judged r ≡ accepted f
      → (entry_of r temperature ≡ None) ⊎ (entry_of r measured_pressure ≡ None) → next_trim_class bytes ≡ refused 22 []
  pub else_answered : (n : Next) → next_trim_class bytes ≡ accepted n → ClassAnswered bytes n

pub record InTheirOrder : Type 0 where
  pub up-before-down : (q : Quantity) (k : ℕ) → place (change q Up k) < place (change q Down k)
  pub temperature-first : (k : ℕ) → place (change Temperature Down k) < place (change MeasuredPressure Up k)
  pub smaller_first : (k : ℕ) → place (change MeasuredPressure Down k) < place (change Temperature Up (k + 1))

pub record Searched (bytes : List ℕ) (s : Start) : Type 0 where
  pub turns : (t : Turn) → next_trim_class bytes ≡ accepted (record { class = s.class; turn = Some t }) → FirstToGive s t.change t.class
  pub none-because : NoChange bytes s → NoneGives s
  pub none_where : NoneGives s → NoChange bytes s

-- ---- each number has exactly its cause: those of the record, then 22
abbrev pub trim_rows : List ℕ → List Row
trim_rows bytes =
    let r = readings bytes in
    record_rows false bytes ++ row (not (is_some (entry_of r temperature)) || not (is_some (entry_of r measured_pressure))) 22 [] ∷ []

abbrev pub Caused : List ℕ → Type 0
Caused bytes = ExactlyCaused (trim_rows bytes) (next_for bytes) (next_trim_class bytes)

-- ---- the class is the count of the limits at or below the density
