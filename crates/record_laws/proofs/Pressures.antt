-- The pressure of readings that are accepted, document 02, K3: 07 as it came, whatever the altitude, and 03 by its band. What excludes them is absent, since
-- nothing clashes. Assumes nothing.
use Rattle.std.specs.Prelude.{None, Option, Some}
use Rattle.record_laws.proofs.Kit.{◌≡◌, refl, sym, ap, ◌∙◌, Bool, true, false, ◌&&◌, ◌||◌, true≢false, Float, accepted, exactly, Readings, is_some, entry_of, value_or_zero, altitude, temperature, station_pressure, qnh, humidity, density_altitude, measured_pressure, Figures, figures_with, figures_of, reading_rows, resolved_by, resolved, judged, neither}
use mathlib.Core.Bool.{or-true}
use Rattle.refusal.specs.Causes.{NoneHolds}
use Rattle.atmosphere.specs.declared.given.Reading.{Reading}
use Rattle.atmosphere.specs.declared.given.Reading.TheVariants.{Given}
use Rattle.atmosphere.specs.Station as station
use Rattle.mast.specs.Checks.{has, is_clash}
use Rattle.station.specs.declared.resolved.Resolved.{Resolved}
use Rattle.station.specs.Resolved.{unmeasured_pressure, measured_or, resolved_temperature, resolved_pressure, ordinary}
use Rattle.mast.proofs.Dry.{absent}

-- ---- what is accepted: no row holds, and the figures are those of what is resolved
pub of-accepted : (r : Readings) {f : Figures} → judged r ≡ accepted f → NoneHolds (reading_rows r) × (figures_of (resolved r) ≡ f)
unfolding judged
of-accepted r e = (exactly (figures_of (resolved r)) (reading_rows r)).accepted_because e

-- ---- no clash
neither_with : (before a b : Bool) → (before || (a && b)) ≡ false → b ≡ true → a ≡ false
neither_with true a b h k = absurd (true≢false h)
neither_with false true b h k = absurd (true≢false (sym k ∙ h))
neither_with false false b h k = refl

module _ (r : Readings) (apart : is_clash r ≡ false) where
  without_06 : (has r altitude || has r station_pressure || has r qnh || has r measured_pressure) ≡ true → entry_of r density_altitude ≡ None
  without_06 other =
      absent (entry_of r density_altitude) (neither_with ((has r station_pressure && has r qnh) || (has r measured_pressure && (has r station_pressure || has r qnh))) (has r density_altitude) _ apart other)

  without_07 : has r station_pressure ≡ true → entry_of r measured_pressure ≡ None
  without_07 there =
      let pressures = (has r station_pressure && has r qnh) || (has r measured_pressure && (has r station_pressure || has r qnh)) in
      absent (entry_of r measured_pressure) (neither_with (has r station_pressure && has r qnh) (has r measured_pressure) (has r station_pressure || has r qnh) (neither pressures _ apart).0 (ap (λ (b : Bool). b || has r qnh) there))

-- ---- the figures of readings without 06, of the altitude's entry a
module _ (r : Readings) (a : Option Float) {f : Figures} (at : entry_of r altitude ≡ a) (e : judged r ≡ accepted f) where
  abbrev with_pressure : Reading → Resolved
  with_pressure x = let h = value_or_zero a in record { altitude_m = h; temperature = resolved_temperature (entry_of r temperature) h; pressure = x; humidity_percent = value_or_zero (entry_of r humidity) }

  apart : is_clash r ≡ false
  apart = (of-accepted r e).0.0

  ordinary-figures : {m s : Option Float} → entry_of r density_altitude ≡ None → entry_of r measured_pressure ≡ m → entry_of r station_pressure ≡ s
      → f ≡ figures_of (with_pressure (resolved_pressure (measured_or m (unmeasured_pressure s (entry_of r qnh))) (value_or_zero a)))
  unfolding ordinary
  ordinary-figures no06 is07 is03 =
      let way : figures_of (resolved r) ≡ figures_of (ordinary r) = λ i. figures_of (resolved_by r (no06 i)) in
      sym (of-accepted r e).1
      ∙ way
      ∙ λ i. figures_of (record {
        altitude_m = value_or_zero (at i);
        temperature = resolved_temperature (entry_of r temperature) (value_or_zero (at i));
        pressure = resolved_pressure (measured_or (is07 i) (unmeasured_pressure (is03 i) (entry_of r qnh))) (value_or_zero (at i));
        humidity_percent = value_or_zero (entry_of r humidity);
      })

  pub measured_used : (p : Float) → entry_of r measured_pressure ≡ Some p → f ≡ figures_of (with_pressure (Given p))
  measured_used p is07 =
      let others = has r altitude || has r station_pressure || has r qnh in
      ordinary-figures (without_06 r apart (ap (λ (x : Option Float). others || is_some x) is07 ∙ or-true others)) is07 refl

  pub measured_shown : (p : Float) → entry_of r measured_pressure ≡ Some p → f.pressure_hpa ≡ p
  unfolding figures_with
  measured_shown p is07 = ap (λ (g : Figures). g.pressure_hpa) (measured_used p is07)

  pub banded : (p : Float) → entry_of r station_pressure ≡ Some p → f ≡ figures_of (with_pressure (station.resolved_station_pressure p (value_or_zero a)))
  banded p is03 =
      let there : has r station_pressure ≡ true = ap is_some is03 in
      let other : (has r altitude || has r station_pressure || has r qnh || has r measured_pressure) ≡ true =
      ap (λ (b : Bool). has r altitude || b || has r qnh || has r measured_pressure) there ∙ ap (λ (b : Bool). b || has r qnh || has r measured_pressure) (or-true (has r altitude)) in
      ordinary-figures (without_06 r apart other) (without_07 r apart there) is03
