-- The numbers of readings end at 15, and so those of a record at 19. Assumes nothing.
use Rattle.mast.proofs.Kit.{◌≡◌, Bool, List, ◌++◌, ℕ, ◌≤◌, arith, Float, refused, Row, Never, never_both, never-refused, exactly, places, Reading, temperature_rows, station_rows, Option, None, Some, Readings, entry_of, altitude, temperature, station_pressure, qnh, humidity, density_altitude, measured_pressure, read_rows, readings, finite_rows, pressure_rows, humidity_rows, present, value_rows, Resolved, given_temperature, figures_of, air_rows, way_rows, resolved, reading_rows, judge_by, record_rows}
use Rattle.atmosphere.specs.declared.given.Reading.TheVariants.{Given, FromLayer}
use Rattle.record.proofs.Numbers.{fields-never}
use Rattle.mast.proofs.Causes.{caused}

module _ (k : ℕ) (h : 16 ≤ k) where
  given : (rows : Float → List Row) → ((x : Float) → Never k (rows x)) → (e : Option Float) → Never k (present rows e)
  given rows never None = tt
  given rows never (Some x) = never x

  finite-never : (x : Float) → Never k (finite_rows x)
  finite-never x = ((λ e. absurd (omega arith)), tt)

  temperature-never : (t : Float) → Never k (temperature_rows t)
  temperature-never t = ((λ e. absurd (omega arith)), ((λ e. absurd (omega arith)), tt))

  pressure-never : (p : Float) → Never k (pressure_rows p)
  pressure-never p = ((λ e. absurd (omega arith)), ((λ e. absurd (omega arith)), tt))

  humidity-never : (u : Float) → Never k (humidity_rows u)
  humidity-never u = ((λ e. absurd (omega arith)), ((λ e. absurd (omega arith)), tt))

  station-never : (d : Float) (t : Reading) → Never k (station_rows places d t)
  station-never d (Given t) = ((λ e. absurd (omega arith)), ((λ e. absurd (omega arith)), ((λ e. absurd (omega arith)), ((λ e. absurd (omega arith)), tt))))
  station-never d FromLayer = ((λ e. absurd (omega arith)), ((λ e. absurd (omega arith)), tt))

  air-never : (a : Resolved) → Never k (air_rows a)
  air-never a = ((λ e. absurd (omega arith)), ((λ e. absurd (omega arith)), tt))

  values-never : (r : Readings) → Never k (value_rows r)
  values-never r =
      let rows₁ = present finite_rows (entry_of r altitude) in
      let rows₂ = present temperature_rows (entry_of r temperature) in
      let rows₃ = present pressure_rows (entry_of r station_pressure) in
      let rows₄ = present pressure_rows (entry_of r qnh) in
      let rows₅ = present humidity_rows (entry_of r humidity) in
      let rows₇ = present pressure_rows (entry_of r measured_pressure) in
      let pressures = given pressure_rows pressure-never in
      let two = never_both k rows₁ rows₂ (given finite_rows finite-never (entry_of r altitude)) (given temperature_rows temperature-never (entry_of r temperature)) in
      let three = never_both k (rows₁ ++ rows₂) rows₃ two (pressures (entry_of r station_pressure)) in
      let four = never_both k (rows₁ ++ rows₂ ++ rows₃) rows₄ three (pressures (entry_of r qnh)) in
      let five = never_both k (rows₁ ++ rows₂ ++ rows₃ ++ rows₄) rows₅ four (given humidity_rows humidity-never (entry_of r humidity)) in
      never_both k (rows₁ ++ rows₂ ++ rows₃ ++ rows₄ ++ rows₅) rows₇ five (pressures (entry_of r measured_pressure))

  way_never : (r : Readings) (e : Option Float) → Never k (way_rows r e)
  way_never r (Some d) =
      let t = given_temperature (entry_of r temperature) in
      never_both k (station_rows places d t) (present humidity_rows (entry_of r humidity)) (station-never d t) (given humidity_rows humidity-never (entry_of r humidity))
  way_never r None = ((λ e. absurd (omega arith)), values-never r)

  pub readings-never : (r : Readings) → Never k (reading_rows r)
  readings-never r =
      ((λ e. absurd (omega arith)), never_both k (way_rows r (entry_of r density_altitude)) (air_rows (resolved r)) (way_never r (entry_of r density_altitude)) (air-never (resolved r)))

pub record_never : (k : ℕ) → 20 ≤ k → (strict : Bool) (s : List ℕ) {values : List Float} → judge_by strict s ≡ refused k values → ⊥
record_never k h strict s e =
    let rows = record_rows strict s in
    let f = figures_of (resolved (readings s)) in
    never-refused k f rows (never_both k (read_rows strict s) (reading_rows (readings s)) (fields-never k h strict s) (readings-never k (omega arith) (readings s)))
    ((exactly f rows).refused_where ((caused strict s).refused_because e))
