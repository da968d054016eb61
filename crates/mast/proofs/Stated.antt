-- What is proved of the judge beyond its contracts, as types. The page of promises says it in full. Assumes nothing.
use Rattle.mast.proofs.Kit.{◌≡◌, true, Bool, false, ℕ, ◌<◌, ◌≢◌, List, [], ◌∷◌, ◌++◌, flat_map, Float, lt, length, accepted, numbers, Option, None, Some, Readings, meanings, humidity, density_altitude, size_of, entry_of, Figures, resolved, reading_rows, record_rows, judge_by, judge, read_rows, readings, read_record, has, figures_of, places, one, decimal}
use Rattle.arithmetic.specs.Doubles.{is_finite}
use Rattle.refusal.specs.Causes.{ExactlyCaused}
use Rattle.fields.specs.Tags.{tags}
use Rattle.humid_air.specs.Humidity.{mole_fraction_celsius}

-- ---- dry air
-- there is never more vapour than air at the humidity h, whatever t in °C and p in hPa are, NaN and the infinities too
abbrev NeverTooMuchVapor : Float → Type 0
NeverTooMuchVapor h = (t p : Float) → lt one (mole_fraction_celsius places t p h) ≡ false

pub record Dry : Type 0 where
  pub zero : NeverTooMuchVapor (decimal "0")
  pub minus-zero : NeverTooMuchVapor (decimal "-0")

-- "any tag order": two fields f and g that follow each other, after whole fields s and before any t, may change places
abbrev pub AnyOrder : Type 0
AnyOrder = (s f g t : List ℕ) (r q : Readings) → read_record false s ≡ accepted r → length f ≡ size_of f → length g ≡ size_of g
    → read_record false (s ++ (f ++ (g ++ t))) ≡ accepted q
    → judge (s ++ (g ++ (f ++ t))) ≡ judge (s ++ (f ++ (g ++ t)))

-- ---- readings are judged by their entries alone, and the entries of those that are accepted are finite
abbrev pub SameEntries : Readings → Readings → Type 0
SameEntries r q = (m : ℕ) → m < meanings → entry_of r m ≡ entry_of q m

abbrev pub FiniteEntry : Option Float → Type 0
FiniteEntry None = Unit {0}
FiniteEntry (Some x) = is_finite x ≡ true

-- ---- humidity leaves altitude, temperature and pressure
abbrev pub DifferOnlyInHumidity : Readings → Readings → Type 0
DifferOnlyInHumidity r q = (m : ℕ) → m ≢ humidity → entry_of r m ≡ entry_of q m

pub record SameStation (f g : Figures) : Type 0 where
  pub altitudes : f.altitude_m ≡ g.altitude_m
  pub temperatures : f.temperature_c ≡ g.temperature_c
  pub pressures : f.pressure_hpa ≡ g.pressure_hpa

-- ---- each number has exactly its cause: the rows of the record's fields, one after the other, and then those of its readings
abbrev pub Caused : Bool → List ℕ → Type 0
Caused strict s = ExactlyCaused (record_rows strict s) (figures_of (resolved (readings s))) (judge_by strict s)

-- ---- the order of the checks
pub record OrderOfChecks : Type 0 where
  -- of each field: cut header, 6, 7, cut data, 8, and to the strict reader 19
  pub fields : (strict : Bool) (s : List ℕ) → numbers (read_rows strict s) ≡ flat_map (λ _. 5 ∷ 6 ∷ 7 ∷ 5 ∷ 8 ∷ 19 ∷ []) (tags s)
  -- of readings without 06, all others present: 9, 10, then the values of 01, 02, 03, 04, 05 and 07, then 14 and 15
  pub without_06 : (r : Readings) → has r density_altitude ≡ false → ((m : ℕ) → m < meanings → m ≢ density_altitude → has r m ≡ true)
      → numbers (reading_rows r) ≡ 9 ∷ 10 ∷ 11 ∷ 2 ∷ 3 ∷ 11 ∷ 12 ∷ 11 ∷ 12 ∷ 11 ∷ 13 ∷ 11 ∷ 12 ∷ 14 ∷ 15 ∷ []
  -- with 06, all present: 9, the inverse's 1 to 4, then those of 05, then 14 and 15
  pub with_06 : (r : Readings) → ((m : ℕ) → m < meanings → has r m ≡ true) → numbers (reading_rows r) ≡ 9 ∷ 1 ∷ 2 ∷ 3 ∷ 4 ∷ 11 ∷ 13 ∷ 14 ∷ 15 ∷ []
