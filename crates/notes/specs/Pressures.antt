-- The notes on a pressure that does not belong to its altitude, and what else it may have been. Pressures in hPa, altitudes in m. Definitions only.
use Rattle.std.specs.Prelude.{ℕ, Bool, not, ◌&&◌, ◌||◌, cond, List, [], ◌∷◌, ◌++◌, Float, unwrap_or, is_some, is_none}
use Rattle.arithmetic.specs.Decimals.{decimal, nought, hundred}
use Rattle.arithmetic.specs.Operators.{◌⊗◌, ◌⊘◌}
use Rattle.arithmetic.specs.Places.{places}
use Rattle.refusal.specs.declared.judge.Figures.{Figures}
use Rattle.atmosphere.specs.declared.plausibility.StationPressurePlausibility.{StationPressurePlausibility}
use Rattle.atmosphere.specs.Plausibility.{plausibility}
use Rattle.atmosphere.specs.Station.{reduced_qnh}
use Rattle.notes.specs.declared.given.Given.{Given}
use Rattle.notes.specs.Given.{pressure_given}
use Rattle.notes.specs.Words.{Note, note, figured}

-- ---- `station_pressure_plausibility` of a pressure at an altitude
abbrev pub beside : Float → Float → StationPressurePlausibility
beside p h = plausibility places (hundred ⊗ p) h

unfoldable pub is_plausible : Float → Float → Bool
is_plausible p h = not (beside p h).implausible

-- ---- pressure-altitude: no density altitude, a pressure that is given, and what it resolves to is implausible
abbrev pub is_doubtful : Given → Bool → Bool
is_doubtful g implausible = is_none g.density_altitude_m && (is_some g.station_pressure_hpa || is_some g.qnh_hpa || is_some g.measured_pressure_hpa) && implausible

abbrev pub beside_line : Figures → StationPressurePlausibility → List ℕ
beside_line f found =
    figured "note: " 3 f.pressure_hpa " hPa is"
    ++ figured " " 3 found.ratio " times the standard pressure"
    ++ figured " at " 1 f.altitude_m " m"
    ++ figured ", " 3 (found.icao_standard_pa ⊘ hundred) " hPa: weather stays within 0.85 and 1.08\n"

-- ---- try-qnh, try-pressure
-- the pressure that is given, taken for a QNH
unfoldable pub reduced_given : Given → Float → Float
reduced_given g h = reduced_qnh places (pressure_given g) h

unfoldable pub meant_notes : Bool → Given → Figures → List Note
meant_notes doubtful g f =
    note (doubtful && (is_some g.station_pressure_hpa || is_some g.measured_pressure_hpa) && is_plausible (reduced_given g f.altitude_m) f.altitude_m)
    (figured "try: qnh=" 3 (pressure_given g) " if it is a QNH\n") ∷
    note (doubtful && is_some g.qnh_hpa && is_plausible (unwrap_or g.qnh_hpa nought) f.altitude_m)
    (figured "try: pressure=" 3 (unwrap_or g.qnh_hpa nought) " if it was measured at the station\n") ∷ []

-- ---- try-feet, try-kpa, try-inhg
-- a pressure, resolved as the one that is given is: a QNH is reduced
unfoldable pub resolved_as : Given → Float → Float → Float
resolved_as g p h = cond (is_some g.qnh_hpa) (reduced_qnh places p h) p

unfoldable pub unit_notes : Bool → Given → Figures → List Note
unit_notes doubtful g f =
    note (doubtful && is_plausible f.pressure_hpa (decimal "0.3048" ⊗ f.altitude_m))
    (figured "try: altitude=" 3 (unwrap_or g.altitude_m nought) "ft if the altitude is in feet\n") ∷
    note (doubtful && is_plausible (resolved_as g (decimal "10" ⊗ pressure_given g) f.altitude_m) f.altitude_m)
    (figured "try: " 3 (pressure_given g) "kPa if the pressure is in kPa\n") ∷
    note (doubtful && is_plausible (resolved_as g (decimal "33.8639" ⊗ pressure_given g) f.altitude_m) f.altitude_m)
    (figured "try: " 3 (pressure_given g) "inHg if the pressure is in inches of mercury\n") ∷ []

unfoldable pub notes_beside : Given → Figures → StationPressurePlausibility → List Note
notes_beside g f found =
    let doubtful = is_doubtful g found.implausible in
    note doubtful (beside_line f found) ∷ (meant_notes doubtful g f ++ unit_notes doubtful g f)

abbrev pub pressure_notes : Given → Figures → List Note
pressure_notes g f = notes_beside g f (beside f.pressure_hpa f.altitude_m)
