-- Readings that differ only in humidity are shown as one station: nothing before the air looks at the humidity. Assumes nothing.
use Rattle.mast.proofs.Kit.{◌≡◌, ap, ap₂, subst, subst₂, arith, Float, places, accepted, exactly, Reading, resolve, Option, None, Some, Readings, altitude, temperature, station_pressure, qnh, density_altitude, measured_pressure, entry_of, Figures, Resolved, unmeasured_pressure, measured_or, pressure_of, resolved_temperature, resolved_pressure, given_temperature, ordinary, value_or_zero, shown_celsius, shown_hectopascals, figures_with, figures_of, reading_rows, resolved_by, resolved, judged}
use Rattle.atmosphere.specs.declared.given.Reading.TheVariants.{Given}
use Rattle.mast.proofs.Stated.{DifferOnlyInHumidity, SameStation}

-- ---- what is resolved, but for the humidity
record SameResolved (a b : Resolved) : Type 0 where
  altitudes : a.altitude_m ≡ b.altitude_m
  temperatures : a.temperature ≡ b.temperature
  pressures : a.pressure ≡ b.pressure

module _ (r q : Readings) (same : DifferOnlyInHumidity r q) where
  same-pressure : pressure_of r ≡ pressure_of q
  same-pressure = ap₂ measured_or (same measured_pressure (λ e. omega arith)) (ap₂ unmeasured_pressure (same station_pressure (λ e. omega arith)) (same qnh (λ e. omega arith)))

  same-ordinary : SameResolved (ordinary r) (ordinary q)
  unfolding ordinary
  same-ordinary =
      let h = ap value_or_zero (same altitude (λ e. omega arith)) in
      record { altitudes = h; temperatures = ap₂ resolved_temperature (same temperature (λ e. omega arith)) h; pressures = ap₂ resolved_pressure same-pressure h }

  by_way : (e : Option Float) → SameResolved (resolved_by r e) (resolved_by q e)
  by_way None = same-ordinary
  by_way (Some d) =
      let given = ap given_temperature (same temperature (λ e. omega arith)) in
      record {
        altitudes = ap (λ (t : Reading). (resolve places d t).altitude_m) given;
        temperatures = ap (λ (t : Reading). Given (resolve places d t).temperature_c) given;
        pressures = ap (λ (t : Reading). Given (resolve places d t).pressure_hpa) given;
      }

  same-resolved : SameResolved (resolved r) (resolved q)
  same-resolved = subst (λ (e : Option Float). SameResolved (resolved r) (resolved_by q e)) (same density_altitude (λ e. omega arith)) (by_way (entry_of r density_altitude))

-- ---- the first three figures are those of what is resolved
same-station : (a b : Resolved) → SameResolved a b → SameStation (figures_of a) (figures_of b)
unfolding figures_with
same-station a b s = record { altitudes = s.altitudes; temperatures = ap₂ shown_celsius s.temperatures s.altitudes; pressures = ap₂ shown_hectopascals s.pressures s.altitudes }

accepted-figures : (r : Readings) {f : Figures} → judged r ≡ accepted f → figures_of (resolved r) ≡ f
unfolding judged
accepted-figures r e = ((exactly (figures_of (resolved r)) (reading_rows r)).accepted_because e).1

pub humidity_leaves_the-station : (r q : Readings) → DifferOnlyInHumidity r q → (f g : Figures) → judged r ≡ accepted f → judged q ≡ accepted g
    → SameStation f g
humidity_leaves_the-station r q same f g e h =
    subst₂ SameStation (accepted-figures r e) (accepted-figures q h) (same-station (resolved r) (resolved q) (same-resolved r q same))
