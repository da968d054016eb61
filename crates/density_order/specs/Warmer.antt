-- Request K8, warmer means lower: what engineers may rely on when they slide the temperature at a fixed density altitude, and of the FAA's rule when they slide
-- it at a fixed pressure. Figures and inputs compare as numbers, -0 equal to +0; accepted means what it means in demand 3. Definitions only.
use Rattle.std.specs.Prelude.{T, Float}
use Rattle.std.specs.Float.Ieee.{le}
use Rattle.arithmetic.specs.Decimals.{nought}
use Rattle.arithmetic.specs.Doubles.{is_finite}
use Rattle.refusal.specs.declared.inverse.Station.{Station}
use Rattle.refusal.specs.Outcomes.{Outcome}
use Rattle.density_order.specs.Order.{Accepted, altitude_found, pressure_found, NeverFalls, NeverRises}

-- ---- from the answer at a temperature to that at a warmer one: the resolved altitude never rises, and the pressure never falls
pub record Lower (from to : Outcome Station) : Type 0 where
  pub altitudes : NeverRises altitude_found from to
  pub pressures : NeverFalls pressure_found from to

-- the answers at one density altitude with the given temperatures t₁ ≤ t ≤ t₂: if a₁ and a₂ are accepted, a is accepted and they are in order
pub record InBetween (a₁ a a₂ : Outcome Station) : Type 0 where
  pub accepted : Accepted a
  pub colder : Lower a₁ a
  pub warmer : Lower a a₂

abbrev pub WarmerMeansLower : Float → Float → Float → Outcome Station → Outcome Station → Outcome Station → Type 0
WarmerMeansLower t₁ t t₂ a₁ a a₂ = T (le t₁ t) → T (le t t₂) → Accepted a₁ → Accepted a₂ → InBetween a₁ a a₂

-- ---- the FAA's density altitudes d₁ and d₂ at a finite pressure of at least 0 and finite temperatures t₁ ≤ t₂: they never fall
abbrev pub FaaNeverFalls : Float → Float → Float → Float → Float → Type 0
FaaNeverFalls p t₁ t₂ d₁ d₂ = T (is_finite p) → T (le nought p) → T (is_finite t₁) → T (is_finite t₂) → T (le t₁ t₂) → T (le d₁ d₂)
