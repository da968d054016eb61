-- Demand 3: what engineers may rely on between density altitudes. Figures and inputs compare as numbers, -0 equal to +0. Definitions only.
use Rattle.std.specs.Prelude.{◌^◌, ℤ, pos, ◌+ℤ◌, T, ◌≤ℤ◌, Float}
use Rattle.std.specs.Float.{nan, inf, fin}
use Rattle.std.specs.Float.Ieee.{lt, le}
use Rattle.arithmetic.specs.Decimals.{decimal}
use Rattle.arithmetic.specs.Whole.{signed}
use Rattle.arithmetic.specs.Nearest.{units_of}
use Rattle.atmosphere.specs.declared.given.Reading.{Reading}
use Rattle.atmosphere.specs.declared.given.Reading.TheVariants.{Given, FromLayer}
use Rattle.refusal.specs.declared.inverse.Station.{Station}
use Rattle.refusal.specs.Outcomes.{Outcome, accepted, refused}

-- ---- an answer
-- accepted: the three figures, none of the refusals 1 to 4
abbrev pub Accepted : Outcome Station → Type 0
Accepted (accepted s) = Unit {0}
Accepted (refused number values) = ⊥

-- its figures; a refusal has none, and NaN is not in order with anything
abbrev pub altitude_found : Outcome Station → Float
altitude_found (accepted s) = s.altitude_m
altitude_found (refused number values) = nan

abbrev pub pressure_found : Outcome Station → Float
pressure_found (accepted s) = s.pressure_hpa
pressure_found (refused number values) = nan

abbrev pub temperature_found : Outcome Station → Float
temperature_found (accepted s) = s.temperature_c
temperature_found (refused number values) = nan

-- ---- a figure, from one answer to another
abbrev pub NeverFalls : (Outcome Station → Float) → Outcome Station → Outcome Station → Type 0
NeverFalls figure from to = T (le (figure from) (figure to))

abbrev pub NeverRises : (Outcome Station → Float) → Outcome Station → Outcome Station → Type 0
NeverRises figure from to = T (le (figure to) (figure from))

abbrev pub StrictlyRises : (Outcome Station → Float) → Outcome Station → Outcome Station → Type 0
StrictlyRises figure from to = T (lt (figure from) (figure to))

abbrev pub StrictlyFalls : (Outcome Station → Float) → Outcome Station → Outcome Station → Type 0
StrictlyFalls figure from to = T (lt (figure to) (figure from))

-- ---- the temperature, one for all three calls
abbrev pub NoneGiven : Reading → Type 0
NoneGiven (Given t) = ⊥
NoneGiven FromLayer = Unit {0}

-- none, or one from -40 to 50 °C
abbrev pub Temperate : Reading → Type 0
Temperate (Given t) = T (le (decimal "-40") t) × T (le t (decimal "50"))
Temperate FromLayer = Unit {0}

-- ---- density altitudes
-- from -500 to 3,000 m
pub record InRange (d : Float) : Type 0 where
  pub bottom : T (le (decimal "-500") d)
  pub top : T (le d (decimal "3000"))

-- a finite double as an exact whole number of 2 ^ -1074 m
abbrev pub exactly : Float → ℤ
exactly nan = pos 0
exactly (inf s) = pos 0
exactly (fin s m e) = signed s (units_of (fin s m e))

-- the exact difference is at least 1 m
abbrev pub OneMetreApart : Float → Float → Type 0
OneMetreApart d₁ d₂ = (exactly d₁ +ℤ pos (2 ^ 1074)) ≤ℤ exactly d₂

-- ---- the demand, on the answers at d₁ ≤ d ≤ d₂, a₁ and a₂ being accepted
pub record InOrder (t : Reading) (from to : Outcome Station) : Type 0 where
  pub altitudes : NeverFalls altitude_found from to
  pub pressures : NeverRises pressure_found from to
  pub temperatures : NoneGiven t → NeverRises temperature_found from to

pub record Strictly (from to : Outcome Station) : Type 0 where
  pub altitudes : StrictlyRises altitude_found from to
  pub pressures : StrictlyFalls pressure_found from to

pub record Demand₃ (t : Reading) (d₁ d₂ : Float) (a₁ a a₂ : Outcome Station) : Type 0 where
  pub accepted : Accepted a
  pub lower : InOrder t a₁ a
  pub upper : InOrder t a a₂
  pub strictly : InRange d₁ → InRange d₂ → OneMetreApart d₁ d₂ → Temperate t → Strictly a₁ a₂

-- ---- what follows for two density altitudes: where both are accepted, the figures are in order, and, by the numbers of the demand, from -500 to 3,000 m and
-- at least 1 m apart the higher one has the greater altitude and the lower pressure
pub record TwoInOrder (t : Reading) (d₁ d₂ : Float) (a₁ a₂ : Outcome Station) : Type 0 where
  pub never : T (le d₁ d₂) → Accepted a₁ → Accepted a₂ → InOrder t a₁ a₂
  pub strictly : T (le (decimal "-500") d₁) → T (le d₁ d₂) → T (le d₂ (decimal "3000")) → OneMetreApart d₁ d₂ → Temperate t → Accepted a₁ → Accepted a₂
      → T (lt (altitude_found a₁) (altitude_found a₂)) × T (lt (pressure_found a₂) (pressure_found a₁))
