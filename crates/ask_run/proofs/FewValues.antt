-- No refusal of a record or of a density altitude hands out more than two values. Assumes nothing.
use Rattle.std.specs.Prelude.{None, Option, Some}
use Rattle.arithmetic.proofs.Kit.{Bool, true, false, cond, List, [], ◌∷◌, ◌++◌, ℕ, ◌≤◌, lit≤, Float, length}
use Rattle.arithmetic.specs.Places.{places}
use Rattle.refusal.specs.Outcomes.{Outcome, accepted, refused, ◌⟫◌, Row, ◌then◌}
use Rattle.fields.specs.Fields.{tag_of, field, head_rows, heads, altitude, temperature, station_pressure, qnh, humidity, density_altitude, measured_pressure}
use Rattle.record.specs.declared.entries.Readings.{Readings}
use Rattle.record.specs.Entries.{no_readings, entry_of}
use Rattle.record.specs.Readings.{order_rows, noted, rows_of, read_rows, readings, read_record}
use Rattle.atmosphere.specs.declared.given.Reading.{Reading}
use Rattle.atmosphere.specs.declared.given.Reading.TheVariants.{Given, FromLayer}
use Rattle.density_altitude.specs.Inverse.{temperature_rows, station_rows, station}
use Rattle.station.specs.Resolved.{given_temperature}
use Rattle.mast.specs.Checks.{finite_rows, pressure_rows, humidity_rows, present, value_rows}
use Rattle.mast.specs.Judge.{air_rows, way_rows, resolved, reading_rows, judged, judge_by}

-- ---- rows, and what they refuse with
abbrev FewRows : List Row → Type 0
FewRows [] = Unit {0}
FewRows (r ∷ rows) = (length r.values ≤ 2) × FewRows rows

abbrev pub Few : {A : Type 0} → Outcome A → Type 0
Few (accepted x) = Unit {0}
Few (refused number values) = length values ≤ 2

both : (first second : List Row) → FewRows first → FewRows second → FewRows (first ++ second)
both [] second h g = g
both (r ∷ rows) second h g = (h.0, both rows second h.1 g)

one : {A : Type 0} (b : Bool) (r : Row) (o : Outcome A) → length r.values ≤ 2 → Few o → Few (cond b (refused r.number r.values) o)
one true r o h g = h
one false r o h g = g

by_rows : {A : Type 0} (rows : List Row) (o : Outcome A) → FewRows rows → Few o → Few (rows then o)
by_rows [] o h g = g
by_rows (r ∷ rows) o h g = one r.holds r (rows then o) h.0 (by_rows rows o h.1 g)

-- ---- the rows of values
finite-few : (x : Float) → FewRows (finite_rows x)
finite-few x = (lit≤ tt, tt)

temperature-few : (t : Float) → FewRows (temperature_rows t)
temperature-few t = (lit≤ tt, (lit≤ tt, tt))

pressure-few : (p : Float) → FewRows (pressure_rows p)
pressure-few p = (lit≤ tt, (lit≤ tt, tt))

humidity-few : (h : Float) → FewRows (humidity_rows h)
humidity-few h = (lit≤ tt, (lit≤ tt, tt))

present-few : (rows : Float → List Row) → ((x : Float) → FewRows (rows x)) → (e : (Option Float)) → FewRows (present rows e)
present-few rows h None = tt
present-few rows h (Some x) = h x

values-few : (r : Readings) → FewRows (value_rows r)
values-few r =
    let a = present finite_rows (entry_of r altitude) in
    let t = present temperature_rows (entry_of r temperature) in
    let s = present pressure_rows (entry_of r station_pressure) in
    let q = present pressure_rows (entry_of r qnh) in
    let u = present humidity_rows (entry_of r humidity) in
    let p = present pressure_rows (entry_of r measured_pressure) in
    both (a ++ t ++ s ++ q ++ u) p
    (both (a ++ t ++ s ++ q) u
    (both (a ++ t ++ s) q
    (both (a ++ t) s
    (both a t (present-few finite_rows finite-few (entry_of r altitude)) (present-few temperature_rows temperature-few (entry_of r temperature)))
    (present-few pressure_rows pressure-few (entry_of r station_pressure)))
    (present-few pressure_rows pressure-few (entry_of r qnh)))
    (present-few humidity_rows humidity-few (entry_of r humidity)))
    (present-few pressure_rows pressure-few (entry_of r measured_pressure))

-- ---- a density altitude
rows_few : (d : Float) (t : Reading) → FewRows (station_rows places d t)
rows_few d (Given t) = (lit≤ tt, (lit≤ tt, (lit≤ tt, (lit≤ tt, tt))))
rows_few d FromLayer = (lit≤ tt, (lit≤ tt, tt))

pub station-few : (d : Float) (t : Reading) → Few (station places d t)
unfolding station
station-few d t = by_rows (station_rows places d t) (accepted _) (rows_few d t) tt

-- ---- a record
way_few : (r : Readings) (e : (Option Float)) → FewRows (way_rows r e)
way_few r (Some d) =
    let t = given_temperature (entry_of r temperature) in
    both (station_rows places d t) (present humidity_rows (entry_of r humidity)) (rows_few d t) (present-few humidity_rows humidity-few (entry_of r humidity))
way_few r None = (lit≤ tt, values-few r)

judged-few : (r : Readings) → Few (judged r)
unfolding judged
judged-few r =
    let way = way_rows r (entry_of r density_altitude) in
    by_rows (reading_rows r) (accepted _) (lit≤ tt, both way (air_rows (resolved r)) (way_few r (entry_of r density_altitude)) (lit≤ tt, (lit≤ tt, tt))) tt

read-few : (strict : Bool) (r : Readings) (last : ℕ) (fields : List (List ℕ)) → FewRows (rows_of strict r last fields)
unfolding head_rows
read-few strict r last [] = tt
read-few strict r last (s ∷ rest) =
    both (head_rows s ++ order_rows strict r last (field s)) (rows_of strict (noted r (field s)) (tag_of s) rest)
    (lit≤ tt, (lit≤ tt, (lit≤ tt, (lit≤ tt, (lit≤ tt, (lit≤ tt, tt))))))
    (read-few strict (noted r (field s)) (tag_of s) rest)

pub judge-few : (strict : Bool) (s : List ℕ) → Few (judge_by strict s)
judge-few strict s = go (read_record strict s) (by_rows (read_rows strict s) (accepted (readings s)) (read-few strict no_readings 0 (heads s)) tt)
  where
    go : (o : Outcome Readings) → Few o → Few (o ⟫ judged)
    go (accepted r) h = judged-few r
    go (refused number values) h = h
