-- How long the notes of a report are at most. Assumes nothing.
use Rattle.std.specs.Prelude.{unwrap_or}
use Rattle.arithmetic.proofs.Kit.{◌≡◌, Bool, true, false, List, [], ◌∷◌, ◌++◌, ℕ, ◌+◌, ◌≤◌, arith, length, length-append}
use Rattle.refusal.specs.Outcomes.{Outcome, accepted, refused}
use Rattle.refusal.specs.declared.judge.Figures.{Figures}
use Rattle.record.specs.declared.entries.Readings.{Readings}
use Rattle.mast.specs.Judge.{air_outcome}
use Rattle.trim.specs.Classes.{trim_class}
use Rattle.pages.proofs.Short.{Within, number_short}
use Rattle.decimals.proofs.Places.{shown-short}
use Rattle.notes.specs.declared.given.Given.{Given}
use Rattle.notes.specs.Given.{given_by, pressure_given}
use Rattle.notes.specs.Words.{Note, when, printed}
use Rattle.notes.specs.Used.{as_given, air_text, default_line, temperature_default, pressure_default, absent_notes, used_notes}
use Rattle.notes.specs.Pressures.{beside, meant_notes, unit_notes, notes_beside, pressure_notes}
use Rattle.atmosphere.specs.declared.plausibility.StationPressurePlausibility.{StationPressurePlausibility}
use Rattle.notes.specs.Ranges.{feet_line, temperature_notes, altitude_notes, range_notes}
use Rattle.notes.specs.Doubts.{limit_of, fraction, at_limit, doubt_notes}
use Rattle.notes.specs.Notes.{notes_of, notes, note_lines}
use Rattle.arithmetic.specs.Decimals.{nought, hundred}
use Rattle.arithmetic.specs.Operators.{◌⊗◌, ◌⊘◌}

-- ---- all lines of some notes together
abbrev total : List Note → ℕ
total [] = 0
total (n ∷ rest) = length n.line + total rest

printed-short : (ns : List Note) → length (printed ns) ≤ total ns
printed-short [] = omega arith
printed-short (n ∷ rest) = go n.holds (printed-short rest)
  where
    go : (b : Bool) → length (printed rest) ≤ total rest → length (when b n.line ++ printed rest) ≤ length n.line + total rest
    go true h = omega (arith, length-append n.line (printed rest))
    go false h = omega arith

total-append : (ns ms : List Note) → total (ns ++ ms) ≡ total ns + total ms
total-append [] ms = omega arith
total-append (n ∷ ns) ms = omega (arith, total-append ns ms)

-- ---- words
air-short : (air : Outcome Figures) → length (air_text air) ≤ 45
air-short (accepted f) = simp length-append (omega (arith, shown-short 4 f.density_kg_m3, (number_short (trim_class f.density_kg_m3)).bound))
air-short (refused number values) = simp length-append (omega (arith, (number_short number).bound))

-- ---- the rows
used-short : (g : Given) (f : Figures) (air : Outcome Figures) → total (used_notes g f air) ≤ 650
unfolding used_notes temperature_default pressure_default default_line absent_notes
used-short g f air =
    simp length-append
    (omega (
      arith,
      air-short air,
      shown-short 3 (unwrap_or g.temperature_c nought),
      shown-short 3 f.temperature_c,
      shown-short 3 (unwrap_or g.station_pressure_hpa nought),
      shown-short 3 f.pressure_hpa,
    ))

beside-short : (g : Given) (f : Figures) (s : StationPressurePlausibility) → total (notes_beside g f s) ≤ 440
unfolding notes_beside meant_notes unit_notes
beside-short g f s =
    simp length-append
    (omega (
      arith,
      shown-short 3 f.pressure_hpa,
      shown-short 3 s.ratio,
      shown-short 1 f.altitude_m,
      shown-short 3 (s.icao_standard_pa ⊘ hundred),
      shown-short 3 (pressure_given g),
      shown-short 3 (unwrap_or g.qnh_hpa nought),
      shown-short 3 (unwrap_or g.altitude_m nought),
    ))

range-short : (g : Given) (f : Figures) → total (range_notes g f) ≤ 440
unfolding range_notes temperature_notes altitude_notes feet_line
range-short g f =
    simp length-append
    (omega (
      arith,
      shown-short 3 f.temperature_c,
      shown-short 3 (unwrap_or g.temperature_c nought),
      shown-short 1 f.altitude_m,
      shown-short 3 (unwrap_or g.altitude_m nought),
      shown-short 3 (unwrap_or g.density_altitude_m nought),
    ))

doubt_short : (g : Given) (f : Figures) (point : Bool) → total (doubt_notes g f point) ≤ 420
unfolding doubt_notes fraction at_limit
doubt_short g f point =
    let d = f.density_kg_m3 in
    simp length-append
    (omega (
      arith,
      shown-short 3 f.altitude_m,
      shown-short 3 (unwrap_or g.humidity_percent nought),
      shown-short 3 (hundred ⊗ unwrap_or g.humidity_percent nought),
      shown-short 4 (limit_of (trim_class d)),
      (number_short (trim_class d)).bound,
    ))

-- ---- all of them
pub notes-short : (point : Bool) (r : Readings) (f : Figures) → Within (note_lines point r f) 2000
unfolding note_lines notes
notes-short point r f =
    let g = given_by r in
    let o = air_outcome (as_given r) in
    let u = used_notes g f o in
    let p = pressure_notes g f in
    let q = range_notes g f in
    record {
      bound = omega (
        arith,
        printed-short (notes_of point g o f),
        total-append (u ++ p ++ q) (doubt_notes g f point),
        total-append (u ++ p) q,
        total-append u p,
        used-short g f o,
        beside-short g f (beside f.pressure_hpa f.altitude_m),
        range-short g f,
        doubt_short g f point,
      );
    }
