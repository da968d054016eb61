-- Readings are judged by their entries alone, and those that are accepted hold finite values. Assumes nothing.
use Rattle.mast.proofs.Kit.{◌≡◌, refl, sym, ap, ap₂, subst, ◌∙◌, Bool, true, false, not, ◌&&◌, ◌||◌, true≢false, List, [], ◌∷◌, ◌++◌, ℕ, zero, suc, ◌<◌, arith, not-false, Float, places, accepted, Row, row, ◌then◌, exactly, none_before, none_after, temperature_rows, station_rows, Option, None, Some, Readings, meanings, altitude, temperature, station_pressure, qnh, humidity, density_altitude, measured_pressure, entry_of, is_some, Resolved, has, is_clash, finite_rows, pressure_rows, humidity_rows, present, value_rows, ordinary, given_temperature, figures_of, air_rows, way_rows, resolved_by, resolved, reading_rows, judged, Figures}
use Rattle.arithmetic.specs.Doubles.{is_finite}
use Rattle.refusal.specs.Causes.{NoneHolds}
use Rattle.mast.proofs.Stated.{SameEntries, FiniteEntry}

-- ---- by their entries alone
module _ (r q : Readings) (same : SameEntries r q) where
  same-clash : is_clash r ≡ is_clash q
  same-clash = rw (same altitude (omega arith), same station_pressure (omega arith), same qnh (omega arith), same density_altitude (omega arith), same measured_pressure (omega arith))

  same_way : (e : Option Float) → way_rows r e ≡ way_rows q e
  same_way (Some d) = rw (same temperature (omega arith), same humidity (omega arith))
  same_way None =
      rw (same altitude (omega arith), same temperature (omega arith), same station_pressure (omega arith), same qnh (omega arith), same humidity (omega arith), same measured_pressure (omega arith))

  same-resolved : (e : Option Float) → resolved_by r e ≡ resolved_by q e
  unfolding ordinary
  same-resolved (Some d) = rw (same temperature (omega arith), same humidity (omega arith))
  same-resolved None =
      rw (same altitude (omega arith), same temperature (omega arith), same station_pressure (omega arith), same qnh (omega arith), same humidity (omega arith), same measured_pressure (omega arith))

  all-resolved : resolved r ≡ resolved q
  all-resolved = same-resolved (entry_of r density_altitude) ∙ ap (resolved_by q) (same density_altitude (omega arith))

  all-rows : reading_rows r ≡ reading_rows q
  all-rows =
      let way = same_way (entry_of r density_altitude) ∙ ap (way_rows q) (same density_altitude (omega arith)) in
      ap₂ (λ (b : Bool) (rows : List Row). row b 9 [] ∷ rows) same-clash (ap₂ (λ (xs ys : List Row). xs ++ ys) way (ap air_rows all-resolved))

pub judged-by_entries : (r q : Readings) → SameEntries r q → judged r ≡ judged q
unfolding judged
judged-by_entries r q same = ap₂ (λ (rows : List Row) (a : Resolved). rows then accepted (figures_of a)) (all-rows r q same) (all-resolved r q same)

-- ---- finite values
-- rows that begin with a test whether x is finite
abbrev TestsFinite : (Float → List Row) → Type 0
TestsFinite rows = (x : Float) → NoneHolds (rows x) → not (is_finite x) ≡ false

finite_where : (rows : Float → List Row) → TestsFinite rows → (e : Option Float) → NoneHolds (present rows e) → FiniteEntry e
finite_where rows test None h = tt
finite_where rows test (Some x) h = not-false (is_finite x) (test x h)

finite-absent : (e : Option Float) → is_some e ≡ false → FiniteEntry e
finite-absent None h = tt
finite-absent (Some x) h = absurd (true≢false h)

pub neither : (a b : Bool) → (a || b) ≡ false → (a ≡ false) × (b ≡ false)
neither true b h = absurd (true≢false h)
neither false b h = (refl, h)

-- ---- without 06 by the values' own tests
module _ (r : Readings) (none : NoneHolds (value_rows r)) (without : entry_of r density_altitude ≡ None) where
  abbrev to_02 : List Row
  to_02 = present finite_rows (entry_of r altitude) ++ present temperature_rows (entry_of r temperature)

  abbrev to_04 : List Row
  to_04 = to_02 ++ present pressure_rows (entry_of r station_pressure) ++ present pressure_rows (entry_of r qnh)

  abbrev to_05 : List Row
  to_05 = to_04 ++ present humidity_rows (entry_of r humidity)

  none_05 : NoneHolds to_05
  none_05 = none_before to_05 (present pressure_rows (entry_of r measured_pressure)) none

  none_04 : NoneHolds to_04
  none_04 = none_before to_04 (present humidity_rows (entry_of r humidity)) none_05

  none_03 : NoneHolds (to_02 ++ present pressure_rows (entry_of r station_pressure))
  none_03 = none_before (to_02 ++ present pressure_rows (entry_of r station_pressure)) (present pressure_rows (entry_of r qnh)) none_04

  none_02 : NoneHolds to_02
  none_02 = none_before to_02 (present pressure_rows (entry_of r station_pressure)) none_03

  ordinary-finite : (m : ℕ) → m < meanings → FiniteEntry (entry_of r m)
  ordinary-finite zero h = finite_where finite_rows (λ x n. n.0) (entry_of r altitude) (none_before (present finite_rows (entry_of r altitude)) (present temperature_rows (entry_of r temperature)) none_02)
  ordinary-finite (suc zero) h =
      finite_where temperature_rows (λ x n. n.0) (entry_of r temperature) (none_after (present finite_rows (entry_of r altitude)) (present temperature_rows (entry_of r temperature)) none_02)
  ordinary-finite (suc (suc zero)) h = finite_where pressure_rows (λ x n. n.0) (entry_of r station_pressure) (none_after to_02 (present pressure_rows (entry_of r station_pressure)) none_03)
  ordinary-finite (suc (suc (suc zero))) h =
      finite_where pressure_rows (λ x n. n.0) (entry_of r qnh) (none_after (to_02 ++ present pressure_rows (entry_of r station_pressure)) (present pressure_rows (entry_of r qnh)) none_04)
  ordinary-finite (suc (suc (suc (suc zero)))) h = finite_where humidity_rows (λ x n. n.0) (entry_of r humidity) (none_after to_04 (present humidity_rows (entry_of r humidity)) none_05)
  ordinary-finite (suc (suc (suc (suc (suc zero))))) h = subst FiniteEntry (sym without) tt
  ordinary-finite (suc (suc (suc (suc (suc (suc zero)))))) h = finite_where pressure_rows (λ x n. n.0) (entry_of r measured_pressure) (none_after to_05 (present pressure_rows (entry_of r measured_pressure)) none)
  ordinary-finite (suc (suc (suc (suc (suc (suc (suc m))))))) h = absurd (omega arith)

-- ---- with 06 by the inverse's tests and the humidity's; the others clash with it
module _ (r : Readings) (d : Float) (apart : is_clash r ≡ false) (none : NoneHolds (way_rows r (Some d))) (with06 : entry_of r density_altitude ≡ Some d) where
  others : (has r altitude || has r station_pressure || has r qnh || has r measured_pressure) ≡ false
  others =
      let pressures = (has r station_pressure && has r qnh) || (has r measured_pressure && (has r station_pressure || has r qnh)) in
      let there : has r density_altitude ≡ true = ap is_some with06 in
      simp there at (neither pressures (has r density_altitude && (has r altitude || has r station_pressure || has r qnh || has r measured_pressure)) apart).1

  up_to-qnh : (has r altitude || has r station_pressure || has r qnh) ≡ false
  up_to-qnh = (neither (has r altitude || has r station_pressure || has r qnh) (has r measured_pressure) others).0

  up_to-station : (has r altitude || has r station_pressure) ≡ false
  up_to-station = (neither (has r altitude || has r station_pressure) (has r qnh) up_to-qnh).0

  abbrev inverse-rows : Option Float → List Row
  inverse-rows t = station_rows places d (given_temperature t)

  none-inverse : NoneHolds (inverse-rows (entry_of r temperature))
  none-inverse = none_before (inverse-rows (entry_of r temperature)) (present humidity_rows (entry_of r humidity)) none

  given-finite : (t : Option Float) → NoneHolds (inverse-rows t) → FiniteEntry t
  given-finite None h = tt
  given-finite (Some t) h = not-false (is_finite t) h.1.0

  station-finite : (m : ℕ) → m < meanings → FiniteEntry (entry_of r m)
  station-finite zero h = finite-absent (entry_of r altitude) (neither (has r altitude) (has r station_pressure) up_to-station).0
  station-finite (suc zero) h = given-finite (entry_of r temperature) none-inverse
  station-finite (suc (suc zero)) h = finite-absent (entry_of r station_pressure) (neither (has r altitude) (has r station_pressure) up_to-station).1
  station-finite (suc (suc (suc zero))) h = finite-absent (entry_of r qnh) (neither (has r altitude || has r station_pressure) (has r qnh) up_to-qnh).1
  station-finite (suc (suc (suc (suc zero)))) h =
      finite_where humidity_rows (λ x n. n.0) (entry_of r humidity) (none_after (inverse-rows (entry_of r temperature)) (present humidity_rows (entry_of r humidity)) none)
  station-finite (suc (suc (suc (suc (suc zero))))) h = subst FiniteEntry (sym with06) (not-false (is_finite d) none-inverse.0)
  station-finite (suc (suc (suc (suc (suc (suc zero)))))) h =
      finite-absent (entry_of r measured_pressure) (neither (has r altitude || has r station_pressure || has r qnh) (has r measured_pressure) others).1
  station-finite (suc (suc (suc (suc (suc (suc (suc m))))))) h = absurd (omega arith)

by_way : (r : Readings) → is_clash r ≡ false → (e : Option Float) → entry_of r density_altitude ≡ e → NoneHolds (way_rows r e) → (m : ℕ) → m < meanings → FiniteEntry (entry_of r m)
by_way r apart None told none = ordinary-finite r none.1 told
by_way r apart (Some d) told none = station-finite r d apart none told

pub accepted-is_finite : (r : Readings) (f : Figures) → judged r ≡ accepted f → (m : ℕ) → m < meanings → FiniteEntry (entry_of r m)
unfolding judged
accepted-is_finite r f e =
    let none = ((exactly (figures_of (resolved r)) (reading_rows r)).accepted_because e).0 in
    let way = entry_of r density_altitude in
    by_way r none.0 way refl (none_before (way_rows r way) (air_rows (resolved r)) none.1)
