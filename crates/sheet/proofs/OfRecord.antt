-- A row of the sheet beside the record of the same air: temperature and pressure are given, so that a row is that of the record with 01, 02, 05 and 07
-- wherever 02 is no default, and no row looks at the altitude but to see that it is finite. Assumes nothing.
use Rattle.sheet.proofs.Kit.{◌≡◌, refl, sym, ap, ap₂, subst, ◌∙◌, ◌≢◌, Bool, true, false, not, ◌&&◌, ◌||◌, cond, List, [], ◌∷◌, ◌++◌, ℕ, zero, suc, ◌<◌, ne_eqb, not-false, T, ltb, eqb, Float, sub, lt, le, of_int, of_bits, is_true, is_false, and_l, and_r, Outcome, accepted, refused, ◌⟫◌, ◌then◌, then_append, then-none, then_next, Figures, air_rows, air_outcome, judged, row_text, figures_outcome, station_of_row, row_outcome, celsius_of_row, rows, sheet_input_rows, setting_sheet}
use mathlib.Core.Bool.{and-false}
use Rattle.arithmetic.specs.Decimals.{nought}
use Rattle.arithmetic.specs.Doubles.{abs_double, is_finite}
use Rattle.atmosphere.specs.declared.given.Reading.{Reading}
use Rattle.atmosphere.specs.declared.given.Reading.TheVariants.{Given, FromLayer}
use Rattle.atmosphere.specs.Station.{in_temperature_band, unless_default, resolved_station_temperature}
use Rattle.density_altitude.specs.Inverse.{absolute_zero, temperature_rows}
use Rattle.air.specs.Station.{atmosphere}
use Rattle.refusal.specs.Causes.{NoneHolds}
use Rattle.record.specs.declared.entries.Readings.{Readings}
use Rattle.record.specs.Entries.{no_readings, with_entry}
use Rattle.fields.specs.Fields.{altitude, temperature, humidity, measured_pressure}
use Rattle.mast.specs.Checks.{pressure_rows, humidity_rows, value_rows}
use Rattle.station.specs.declared.resolved.Resolved.{Resolved}
use Rattle.station.specs.Resolved.{ordinary}
use Rattle.station.specs.Figures.{figures_with, figures_of}
use Rattle.arithmetic.proofs.Every.{every, at}

-- ---- the altitude
module _ (h k p u : Float) (finite : is_finite h ≡ true) (also : is_finite k ≡ true) where
  pub same_row : (t : Float) → row_outcome h p u t ≡ row_outcome k p u t
  unfolding row_outcome air_outcome figures_outcome row_text figures_with atmosphere
  same_row t =
      then_next (air_rows (station_of_row h p u t)) (accepted (figures_of (station_of_row h p u t))) (figures_outcome t)
      ∙ rw (finite ∙ sym also)
      (sym (then_next (air_rows (station_of_row k p u t)) (accepted (figures_of (station_of_row k p u t))) (figures_outcome t)))

  same_rows : (n : ℕ) → rows h p u n ≡ rows k p u n
  unfolding rows
  same_rows zero = refl
  same_rows (suc n) =
      ap₂ (λ (o line : Outcome (List ℕ)). o ⟫ (λ x. line ⟫ (λ y. accepted (x ++ y)))) (same_rows n) (same_row (celsius_of_row n))

  pub any_altitude : (room : ℕ) → setting_sheet h p u room ≡ setting_sheet k p u room
  unfolding setting_sheet
  any_altitude room =
      let sheet : Float → Bool → Outcome (List ℕ) → Outcome (List ℕ) = λ x b o. cond (ltb room 1530) (refused 16 []) (cond b (refused 11 (x ∷ [])) ((pressure_rows p ++ humidity_rows u) then o)) in
      ap (λ (b : Bool). sheet h (not b) (rows h p u 51)) finite
      ∙ ap (sheet k false) (same_rows 51)
      ∙ ap (λ (b : Bool). sheet k (not b) (rows k p u 51)) (sym also)

-- ---- the record
abbrev readings_of : Float → Float → Float → Float → Readings
readings_of h p u t = with_entry (with_entry (with_entry (with_entry no_readings altitude h) temperature t) humidity u) measured_pressure p

of_record : (h p u t : Float) → NoneHolds (sheet_input_rows h p u) → NoneHolds (temperature_rows t) → resolved_station_temperature t h ≡ Given t → judged (readings_of h p u t) ≡ air_outcome (station_of_row h p u t)
unfolding judged ordinary air_outcome
of_record h p u t i w given =
    let r = readings_of h p u t in
    let none : NoneHolds (value_rows r) = (i.0, (w.0, (w.1.0, (i.1.1.1.0, (i.1.1.1.1.0, (i.1.0, (i.1.1.0, tt))))))) in
    let at : Reading → Resolved = λ x. record { altitude_m = h; temperature = x; pressure = Given p; humidity_percent = u } in
    then_append (value_rows r) (air_rows (ordinary r)) (accepted (figures_of (ordinary r)))
    ∙ then-none (value_rows r) none
    ∙ ap (λ (x : Reading). air_outcome (at x)) given

row_of_record : (h p u t : Float) → NoneHolds (sheet_input_rows h p u) → NoneHolds (temperature_rows t) → resolved_station_temperature t h ≡ Given t
    → row_outcome h p u t ≡ (judged (readings_of h p u t) ⟫ figures_outcome t)
unfolding row_outcome
row_of_record h p u t i w given = ap (λ (o : Outcome Figures). o ⟫ figures_outcome t) (sym (of_record h p u t i w given))

-- the temperatures of the sheet pass their checks, and all but 15 °C lie outside the default band
abbrev passes : ℕ → Bool
passes n = is_finite (celsius_of_row n) && not (le (celsius_of_row n) absolute_zero)

all_pass : T (every 51 passes)
unfolding le celsius_of_row of_int is_finite of_bits
all_pass = tt

abbrev outside : ℕ → Bool
outside n = eqb n 25 || not (in_temperature_band (celsius_of_row n))

all-outside : T (every 51 outside)
unfolding lt sub abs_double celsius_of_row of_int of_bits
all-outside = tt

passed : (n : ℕ) → n < 51 → NoneHolds (temperature_rows (celsius_of_row n))
passed n below =
    let t = celsius_of_row n in
    let both = at 51 passes all_pass n below in
    (ap not (is_true (is_finite t) (and_l (is_finite t) (not (le t absolute_zero)) both)), (is_false (le t absolute_zero) (and_r (is_finite t) (not (le t absolute_zero)) both), tt))

not_15 : (n : ℕ) → n < 51 → n ≢ 25 → in_temperature_band (celsius_of_row n) ≡ false
not_15 n below other =
    let band = in_temperature_band (celsius_of_row n) in
    is_false band (subst (λ (b : Bool). T (b || not band)) (ne_eqb n 25 other) (at 51 outside all-outside n below))

pub record_row : (h p u : Float) (n : ℕ) → n < 51 → n ≢ 25 → NoneHolds (sheet_input_rows h p u)
    → row_outcome h p u (celsius_of_row n) ≡ (judged (readings_of h p u (celsius_of_row n)) ⟫ figures_outcome (celsius_of_row n))
record_row h p u n below other i =
    row_of_record h p u (celsius_of_row n) i (passed n below) (ap (λ (b : Bool). unless_default b (celsius_of_row n) h) (not_15 n below other))

-- at sea level no temperature is a default
at-sea_level : (t : Float) → resolved_station_temperature t nought ≡ Given t
unfolding lt abs_double of_bits
at-sea_level t = ap (λ (b : Bool). cond b FromLayer (Given t)) (and-false (in_temperature_band t))

pub sea_level-row : (h p u : Float) (n : ℕ) → n < 51 → NoneHolds (sheet_input_rows h p u)
    → row_outcome h p u (celsius_of_row n) ≡ (judged (readings_of nought p u (celsius_of_row n)) ⟫ figures_outcome (celsius_of_row n))
unfolding is_finite of_bits
sea_level-row h p u n below i =
    same_row h nought p u (not-false (is_finite h) i.0) refl (celsius_of_row n)
    ∙ row_of_record nought p u (celsius_of_row n) (refl, i.1) (passed n below) (at-sea_level (celsius_of_row n))
