-- The altitudes of an accepted record are near, and so are a temperature and a pressure from the layer or from a QNH. Assumes nothing.
use Rattle.std.specs.Prelude.{None, Option, Some, is_some}
use Rattle.near.proofs.Kit.{◌≡◌, refl, sym, subst, Bool, true, false, ◌&&◌, ◌||◌, true≢false, lit≤, Float, places, Readings, Reading, Given, FromLayer, celsius, hectopascals, shown_temperature, shown_pressure, figures_with, figures_of, resolved_by, resolved, judged, ◌⊟◌, ◌÷◌, the, number, IsNear, Between, no_further, Figures, accepted, InScope, kelvin, Saturation, decimal}
use Rattle.record.specs.Entries.{entry_of, value_or_zero}
use Rattle.fields.specs.Fields.{altitude, station_pressure, qnh, density_altitude, measured_pressure}
use Rattle.mast.specs.Checks.{has, is_clash}
use Rattle.atmosphere.specs.Station.{reduced_qnh}
use Rattle.station.specs.Resolved.{unmeasured_pressure, measured_or, resolved_pressure, ordinary}
use Rattle.record_laws.proofs.Pressures.{of-accepted}
use Rattle.near.specs.Troposphere as troposphere
use Rattle.near.specs.Qnh as reduction
use Rattle.near.proofs.StandardNear.{near, Low}
use Rattle.near.proofs.QnhNear.{reduced-near}
use Rattle.near.proofs.PressureAltitudeNear.{metres-near}
use Rattle.near.proofs.DensityAltitudeNear.{altitude-near}
use Rattle.near.specs.PressureAltitude as pressure_altitude
use Rattle.near.specs.DensityAltitude as density_altitude

-- ---- a QNH is the only pressure of what is accepted, and it is reduced at the altitude
only-qnh : (s m d : Option Float) (a : Bool) → ((is_some s && true) || (is_some m && (is_some s || true)) || (is_some d && (a || is_some s || true || is_some m))) ≡ false → (s ≡ None) × (m ≡ None) × (d ≡ None)
only-qnh (Some p) m d a h = absurd (true≢false h)
only-qnh None (Some p) d a h = absurd (true≢false h)
only-qnh None None (Some p) true h = absurd (true≢false h)
only-qnh None None (Some p) false h = absurd (true≢false h)
only-qnh None None None a h = (refl, refl, refl)

qnh-reduced : (r : Readings) → is_clash r ≡ false → (q : Float) → entry_of r qnh ≡ Some q → (resolved r).pressure ≡ Given (reduced_qnh places q (resolved r).altitude_m)
unfolding ordinary
qnh-reduced r apart q is04 =
    let S : Option Float = entry_of r station_pressure in
    let M : Option Float = entry_of r measured_pressure in
    let D : Option Float = entry_of r density_altitude in
    let alone = only-qnh S M D (has r altitude) (subst (λ (x : Option Float). ((is_some S && is_some x) || (is_some M && (is_some S || is_some x)) || (is_some D && (has r altitude || is_some S || is_some x || is_some M))) ≡ false) is04 apart) in
    subst (λ (d : Option Float). (resolved_by r d).pressure ≡ Given (reduced_qnh places q (resolved_by r d).altitude_m)) (sym alone.2)
    (λ i. resolved_pressure (measured_or (alone.1 i) (unmeasured_pressure (alone.0 i) (is04 i))) (value_or_zero (entry_of r altitude)))

pub record RecordNear (r : Readings) (f : Figures) : Type 0 where
  -- a temperature from the layer, in °C
  pub layer_temperature_lem : (resolved r).temperature ≡ FromLayer → Low f.altitude_m → IsNear 42 f.temperature_c (troposphere.exact_temperature (number f.altitude_m) ⊟ the "273.15")
  -- a pressure from the layer, in hPa
  pub layer_pressure_lem : (resolved r).pressure ≡ FromLayer → Low f.altitude_m → (p : troposphere.PressureRatio (number f.altitude_m)) → IsNear 37 f.pressure_hpa (troposphere.exact_pressure p ÷ the "100")
  -- a pressure reduced from the QNH of field 04, in hPa
  pub qnh-pressure : (q : Float) → entry_of r qnh ≡ Some q → Between (decimal "500") (decimal "1100") q → Between (decimal "-500") (decimal "5000") f.altitude_m
      → (p : reduction.Reduction (number q) (number f.altitude_m)) → IsNear 37 f.pressure_hpa (reduction.station_hpa p)
  -- in m
  pub pressure_altitude_lem : Between (decimal "500") (decimal "1100") f.pressure_hpa → (p : pressure_altitude.RaisedPressure (number f.pressure_hpa)) → IsNear 36 f.pressure_altitude_m (pressure_altitude.exact_nws_altitude p)
  -- in m
  pub density_altitude_lem : let t = f.temperature_c in let p = f.pressure_hpa in let h = (resolved r).humidity_percent in InScope t p h → (s : Saturation (kelvin t)) (x : density_altitude.RaisedDensity (density_altitude.exact_air_density t p h s))
      → IsNear 30 f.density_matched_altitude_m (density_altitude.matched_altitude x)

-- ---- the figures of what is resolved
resolved-near : (r : Readings) → is_clash r ≡ false → RecordNear r (figures_of (resolved r))
unfolding figures_with
resolved-near r apart =
    let a = resolved r in
    let h = a.altitude_m in
    record {
      layer_temperature_lem = λ e low. no_further _ 42 _ _ (lit≤ tt) (subst (λ (t : Reading). IsNear 42 (celsius 60 h t) (troposphere.exact_temperature (number h) ⊟ the "273.15")) (sym e) (near h low).celsius-near);
      layer_pressure_lem = λ e low p. no_further _ 37 _ _ (lit≤ tt) (subst (λ (q : Reading). IsNear 37 (hectopascals 60 h q) (troposphere.exact_pressure p ÷ the "100")) (sym e) ((near h low).hectopascals-near p));
      qnh-pressure = λ q is04 q-range h-range p. no_further _ 37 _ _ (lit≤ tt) (subst (λ (z : Reading). IsNear 37 (hectopascals 60 h z) (reduction.station_hpa p)) (sym (qnh-reduced r apart q is04)) (reduced-near q h q-range h-range p));
      pressure_altitude_lem = λ range p. no_further _ 36 _ _ (lit≤ tt) (metres-near (shown_pressure a) range p);
      density_altitude_lem = λ range s x. no_further _ 30 _ _ (lit≤ tt) (altitude-near (shown_temperature a) (shown_pressure a) a.humidity_percent range s x);
    }

pub records-near : (r : Readings) (f : Figures) → judged r ≡ accepted f → RecordNear r f
records-near r f e = subst (RecordNear r) (of-accepted r e).1 (resolved-near r (of-accepted r e).0.0)
