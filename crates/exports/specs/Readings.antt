-- A reading as two arguments, and what is handed out of the air and of a plausible pressure. Definitions only.
use Rattle.std.specs.Prelude.{Bool, true, false, cond, List, [], ◌∷◌, Float}
use Rattle.atmosphere.specs.declared.layers.StandardAir.{StandardAir}
use Rattle.atmosphere.specs.declared.given.Reading.{Reading}
use Rattle.atmosphere.specs.declared.given.Reading.TheVariants.{Given, FromLayer}
use Rattle.atmosphere.specs.declared.plausibility.StationPressurePlausibility.{StationPressurePlausibility}
use Rattle.air.specs.declared.conditions.Air.{Air}
use Rattle.refusal.specs.Outcomes.{Outcome, accepted, refused}

-- ---- a reading, as whether it is given and its value
abbrev pub reading : Bool → Float → Reading
reading given x = cond given (Given x) FromLayer

abbrev pub is_given : Reading → Bool
is_given (Given x) = true
is_given FromLayer = false

-- ---- what is handed out, in the order of the structs
abbrev pub standard_values : StandardAir → List Float
standard_values a = a.temperature_k ∷ a.pressure_pa ∷ []

abbrev pub air_values : Air → List Float
air_values a = a.density_kg_m3 ∷ a.speed_of_sound_mps ∷ []

abbrev pub plausibility_values : StationPressurePlausibility → List Float
plausibility_values j = j.icao_standard_pa ∷ j.«ratio» ∷ []

-- the lent bool: an array that is too short leaves it as it was
abbrev pub implausible_or : Bool → Outcome StationPressurePlausibility → Bool
implausible_or before (accepted j) = j.«implausible»
implausible_or before (refused n vs) = before
