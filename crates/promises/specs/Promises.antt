-- What the customer is promised beyond what each function's contract says, in the order of their documents: a record for each part of them, and a field for each
-- promise, under the customer's words. `proofs/Promises` has the one value of all of it. Definitions only.
--
-- To read it: "(x : A) → .." is "for every x", "P → Q" is "if P then Q", "×" is "and", "⊎" is "or", "→ ⊥" is "never", and "≡" is "is the same as". "T (le x y)" says
-- that x is at most y, as numbers: -0 is +0, and NaN is in order with nothing; "lt" is "below". An outcome is `accepted` with what is answered, or `refused` with a
-- number and the values that it hands out. `judge s` is the answer to a record's bytes s, `judged r` that to its readings r, `entry_of r m` the reading of a meaning,
-- `station places d t` the answer to a density altitude d with a temperature t, `decimal "15.1"` the double nearest to 15.1. Every other name is defined in the
-- specs/ of the crate that its `use` line names.
use Rattle.std.specs.Prelude.{ℕ, ◌+◌, ◌-◌, ◌*◌, ◌/◌, ◌^◌, ◌≤◌, ◌<◌, ◌≡◌, ◌≢◌, ◌⊎◌, Bool, true, false, not, ◌||◌, cond, ℤ, pos, negsuc, ◌+ℤ◌, ◌*ℤ◌, ◌≤ℤ◌, T, ltb, Float, length, take, drop, get_or, replicate, Some, None, Ok, Err}
use mathlib.Core.List.{List, [], ◌++◌, Memᴰ, ◌∷◌, flat_map, map}
use Rattle.std.specs.Float.{nan, fin, binary64}
use Rattle.std.specs.Float.Ieee.{fits, is_nan, lt, le, round}
use Rattle.std.specs.Float.Ieee.Positive.{positive, num, den}
use Rattle.std.specs.Float.Ieee.Scale.{finite}
use Prim.Native.String.{String}
use Rattle.arithmetic.specs.Places.{places}
use Rattle.roots.specs.Root.{root}
use Rattle.roots.specs.Tables.{root_table}
use Rattle.roots.specs.Quick.{table_root, both_roots}
use Rattle.antilog.specs.Log.{log_word}
use Rattle.antilog.specs.Antilog.{antilog_root, antilog}
use Rattle.arithmetic.specs.Fractions.{Fraction, ◌is_at_most◌, ◌is_below◌, ◌to_the◌, two_to_the, exact_value}
use Rattle.elementary.specs.Exp.{exp}
use Rattle.thousandths.specs.Thousandths.{in_range, count_of, twos_complement, thousandths, count_for}
use Rattle.atmosphere.specs.declared.given.Reading.{Reading}
use Rattle.atmosphere.specs.declared.given.Reading.TheVariants.{Given, FromLayer}
use Rattle.atmosphere.specs.Layers.{layer_at, OnlyRange, highest_up_to, standard_air}
use Rattle.atmosphere.specs.Station.{reduced_qnh, resolved_station_pressure}
use Rattle.air.specs.Matched.{density_matched_altitude}
use Rattle.atmosphere.specs.Altitudes.{faa_density_altitude, pressure_altitude}
use Rattle.refusal.specs.Outcomes.{Outcome, accepted, refused, ◌then◌, ◌⟫◌, row, numbers}
use Rattle.refusal.specs.Causes.{ExactlyCaused, NoneHolds}
use Rattle.density_altitude.specs.Inverse.{resolve, station_rows, station}
use Rattle.density_order.specs.Order.{Accepted, altitude_found, pressure_found, temperature_found, InRange, OneMetreApart, Temperate}
use Rattle.density_order.specs.Rejected.{Rejected, RejectedByWarmth}
use Rattle.proved_cases.specs.Cases.{Hold, table_of, RefusesAlways}
use Rattle.record.specs.declared.entries.Readings.{Readings}
use Rattle.record.specs.Entries.{entry_of, no_readings, with_entry, value_or_zero}
use Rattle.fields.specs.Fields.{size_of, meanings, humidity, density_altitude}
use Rattle.fields.specs.Tags.{tags, Rising}
use Rattle.record.specs.Readings.{readings, read_record, read_rows}
use Rattle.refusal.specs.declared.inverse.Station.{Station}
use Rattle.refusal.specs.declared.judge.Figures.{Figures}
use Rattle.station.specs.Figures.{shown_celsius, shown_hectopascals, figures_of}
use Rattle.mast.specs.Judge.{resolved, reading_rows, record_rows, judged, judge_by, judge, judge_strictly, air_outcome}
use Rattle.mast.specs.Laws.{without}
use Rattle.mast.specs.Checks.{has}
use Rattle.sheet.specs.Row.{station_of_row as row_station, row_outcome, figures_outcome}
use Rattle.sheet.specs.Sheet.{celsius_of_row, rows, setting_sheet, sheet_input_rows}
use Rattle.sheet.specs.Laws.{HandedOut, lines_rows, lines_text, repeated}
use Rattle.writer.specs.Records.{record_of}
use Rattle.writer.specs.Laws.{AreBytes, AreHeld}
use Rattle.writer.specs.Conversion.{fields_of, converted, length_converted, count_rows, record_in, AllIn}
use Rattle.load_text.specs.SplitMix.{state_after, output}
use Rattle.load_text.specs.Counts.{load_counts, drawn}
use Rattle.load_text.specs.Records.{load_readings, load_record}
use Rattle.load_text.specs.Laws.{IsOfTheLoad}
use Rattle.station.specs.Resolved.{ordinary, resolved_temperature}
use Rattle.vote.specs.Vote.{by_mast, by_no_mast, accepted_readings, vote}
use Rattle.vote.specs.Laws.{Accepts, SameFields, middle_entry, in_how_many}
use Rattle.vote.specs.Fields.{voted, shared_rows}
use Rattle.trim.specs.declared.changes.Start.{Start}
use Rattle.trim.specs.Laws.{Asks, FirstToGive, NoneGives, place, next_for}
use Rattle.trim.specs.Search.{next_trim_class}
use Rattle.trim.specs.declared.search.Next.{Next}
use Rattle.trim.specs.declared.changes.Turn.{Turn}
use Rattle.trim.specs.declared.changes.Quantity.{Quantity}
use Rattle.trim.specs.declared.changes.Quantity.TheVariants.{Temperature, MeasuredPressure}
use Rattle.trim.specs.declared.changes.Direction.TheVariants.{Up, Down}
use Rattle.trim.specs.Changes.{change}
use Rattle.fields.specs.Fields as meaning
use Rattle.arithmetic.specs.Doubles.{is_finite, clamp_double}
use Rattle.arithmetic.specs.Nearest.{units_of}
use Rattle.antilog.specs.Sqrt.{sqrt, twice_root_squared, twice_midpoint_squared}
use Rattle.elementary.specs.Exponents.{exponents, exponent_at, Exponent, is_three}
use Rattle.elementary.specs.Power.{power_at, power}
use Rattle.exact.specs.FunctionsNear.{Normal, InBounds, raised, raised_by, e_below, e_above, LnWithin}
use Rattle.elementary.specs.Ln.{ln2, ln}
use Rattle.arithmetic.specs.Whole.{floor_div}
use Rattle.arithmetic.specs.Ascii.{ascii}
use Rattle.text.specs.Text.{answer_text}
use Rattle.text.specs.Samples.{big_endian, double_field}
use Rattle.decimals.specs.Decimal.{decimal_text}
use Rattle.report.specs.declared.Origin.TheVariants.{Record}
use Rattle.notes.specs.Notes.{notes, note_lines}
use Rattle.notes.specs.Laws as noted
use Rattle.report.specs.Report.{report_text}
use Rattle.decimals.specs.Typed.{typed}
use Rattle.decimals.specs.declared.typed.NotACount.TheVariants as not_a_count
use Rattle.arithmetic.specs.Decimals.{decimal, nought, hundred, fraction}
use Rattle.park_text.specs.Understood.{understand, value_of}
use Rattle.park_text.specs.Units.{reading_in}
use Rattle.park_text.specs.Laws.{Nearest, Typed}
use Rattle.park_text.specs.declared.units.Unit.{Unit as TypedUnit}
use Rattle.park_text.specs.declared.units.Unit.TheVariants.{Plain}
use Rattle.fields.specs.declared.fields.Value.TheVariants as value_as
use Rattle.park_text.specs.Word.{Says}
use Rattle.arithmetic.specs.Operators.{◌⊖◌, ◌⊘◌}
use Rattle.humid_air.specs.MoistAir.{ice_point, capped, air_density_at}
use Rattle.humid_air.specs.Humidity.{mole_fraction_celsius}
use Rattle.air.specs.Station.{kelvins, pascals, atmosphere}
use Rattle.report.specs.Fault.{reading_about}
use Rattle.writer.specs.Written.{length_written}
use Rattle.arithmetic.specs.Middle as three
use Rattle.trim.specs.Classes.{class_densities, class_of}
use Rattle.humid_air.specs.Saturation.{saturation_pressure}
use Rattle.exact.specs.Exact.{Exact, ◌⊟◌, ◌÷◌, ◌⊞◌, the, number, is_not_above}
use Rattle.exact.specs.Near.{IsNear, IsNearly, Between}
use Rattle.exact.specs.Powers.{of, IsRoot}
use Rattle.near.specs.Density.{exact_density}
use Rattle.near.specs.Saturation.{Saturation, exact_saturation as pressure_of}
use Rattle.near.specs.Sound.{squared_speed}
use Rattle.near.specs.Near.{kelvin, pascal, vapour, InScope}
use Rattle.near.specs.Paper.{IsPrinted, exact_count, FarFromEach}
use Rattle.near.specs.Troposphere as troposphere
use Rattle.near.specs.Qnh as reduction
use Rattle.near.specs.PressureAltitude as nws
use Rattle.near.specs.DensityAltitude as matched
use Rattle.exports.specs.Records.{array_readings, array_record}
use Rattle.exports.specs.Reads.{read_in}
use Rattle.exports.specs.Laws.{AreNumbers, NoneIsNan, written_of, ReadAs}

-- a double, and a reading that is one if it is given
abbrev pub IsDouble : Float → Type 0
IsDouble x = T (fits binary64 x)

abbrev pub IsRead : Reading → Type 0
IsRead (Given t) = IsDouble t
IsRead FromLayer = Unit {0}

-- ---- document 01
pub record Document01 : Type 0 where
  -- "◆ marks a proved case": the table of all of them
  pub cases : Hold (table_of (station places))
  -- "contracts reject .. refusal always"
  pub not_refused_always : (inverse : Float → Reading → Outcome Station) → RefusesAlways inverse → Hold (table_of inverse) → ⊥
  -- "each number has exactly its cause": of a record, to both readers, and of a density altitude
  pub record_caused : (strict : Bool) (s : List ℕ) → ExactlyCaused (record_rows strict s) (figures_of (resolved (readings s))) (judge_by strict s)
  pub inverse_caused : (d : Float) (t : Reading) → ExactlyCaused (station_rows places d t) (resolve places d t) (station places d t)
  -- what is said below of readings holds of a record that is accepted: its figures are those of its readings
  pub of_readings : (strict : Bool) (s : List ℕ) (f : Figures) → judge_by strict s ≡ accepted f → judged (readings s) ≡ accepted f
  -- the order of the checks, as the numbers in a line. "Order per field: cut header, 6, 7, cut data, 8", and to the strict reader 19
  pub field_order : (strict : Bool) (s : List ℕ) → numbers (read_rows strict s) ≡ flat_map (λ _. 5 ∷ 6 ∷ 7 ∷ 5 ∷ 8 ∷ 19 ∷ []) (tags s)
  -- "then 9, 10; then values field by field by rising tag, in each field not finite first .. then 14, 15", with every field but 06
  pub order_without_06 : (r : Readings) → has r density_altitude ≡ false → ((m : ℕ) → m < meanings → m ≢ density_altitude → has r m ≡ true)
      → numbers (reading_rows r) ≡ 9 ∷ 10 ∷ 11 ∷ 2 ∷ 3 ∷ 11 ∷ 12 ∷ 11 ∷ 12 ∷ 11 ∷ 13 ∷ 11 ∷ 12 ∷ 14 ∷ 15 ∷ []
  -- "with 06, its value (1), the temperature (2, 3), then 4", then humidity's 11 and 13, then 14 and 15, with every field
  pub order_with_06 : (r : Readings) → ((m : ℕ) → m < meanings → has r m ≡ true) → numbers (reading_rows r) ≡ 9 ∷ 1 ∷ 2 ∷ 3 ∷ 4 ∷ 11 ∷ 13 ∷ 14 ∷ 15 ∷ []
  -- "judged by its first 256 bytes"
  pub first_bytes : (s : List ℕ) → judge (take 256 s) ≡ judge s
  -- "any tag order": two fields f and g that follow each other, after whole fields s and before any t
  pub any_order : (s f g t : List ℕ) (r q : Readings) → read_record false s ≡ accepted r → length f ≡ size_of f → length g ≡ size_of g
      → read_record false (s ++ (f ++ (g ++ t))) ≡ accepted q → judge (s ++ (g ++ (f ++ t))) ≡ judge (s ++ (f ++ (g ++ t)))
  -- "order per field": a refusal 6, 7 or 8 stays whatever follows
  pub nothing_after : (number : ℕ) (values : List Float) → 6 ≤ number → number ≤ 8 → (s t : List ℕ) → judge s ≡ refused number values → judge (s ++ t) ≡ refused number values
  -- what the program prints: a cut record, "an empty record is 10", the first line of 01 with 0 m, and "at 1,000 °C and 50 percent, 1013.5 hPa, 0 m: 15"
  pub cut_record : answer_text (judge (big_endian 3 0x070008)) ≡ ascii "refused 5\n"
  pub empty_record : answer_text (judge []) ≡ ascii "refused 10\n"
  pub sea_level : take 59 (answer_text (judge (big_endian 11 0x0100080000000000000000))) ≡ ascii "station 0000000000000000 402E000000000000 408FAA0000000000\n"
  pub too_hot : answer_text (judge (double_field 1 (decimal "0") ++ double_field 2 (decimal "1000") ++ double_field 3 (decimal "1013.5") ++ double_field 5 (decimal "50"))) ≡ ascii "refused 15\n"
  -- "`sqrt` is correctly rounded, here too": of every other double, the point half way to it lies on its own side of the root
  pub sqrt_nearest_below : (x : Float) → IsDouble x → T (positive x) → (n : ℕ) (e : ℤ) → IsDouble (fin false n e) → units_of (fin false n e) < units_of (sqrt x)
      → twice_midpoint_squared (fin false n e) (sqrt x) < twice_root_squared x
  pub sqrt_nearest_above : (x : Float) → IsDouble x → T (positive x) → (n : ℕ) (e : ℤ) → IsDouble (fin false n e) → units_of (sqrt x) < units_of (fin false n e)
      → twice_root_squared x < twice_midpoint_squared (fin false n e) (sqrt x)
  -- "every exponent q is a constant of the source, and q × 2^58 is whole": the magnitude that stands in the table
  pub exponents_whole : (i : ℕ) → i < 27 → num (get_or exponents i nan) * 2 ^ 58 ≡ (exponent_at i).magnitude * den (get_or exponents i nan)
  -- "with both overrides given, two altitudes give the same pair", and the same fraction
  pub same_air : (altitude other t p h : Float) → atmosphere places altitude (Given t) (Given p) h ≡ atmosphere places other (Given t) (Given p) h
  -- "14 (not with 06)"
  pub not_14_with_06 : (r : Readings) → has r density_altitude ≡ true → has r humidity ≡ false → judged r ≡ (without 14 (reading_rows r) then accepted (figures_of (resolved r)))

-- ---- demand 3: "whichever doubles d1 ≤ d ≤ d2 are asked about as density altitudes, all three with one given temperature or all three with none"
pub record Asked (t : Reading) (d₁ d d₂ : Float) : Type 0 where
  pub given : IsRead t
  pub doubles : IsDouble d₁ × (IsDouble d × IsDouble d₂)
  pub from : T (le d₁ d)
  pub to : T (le d d₂)
  pub first : Accepted (station places d₁ t)
  pub last : Accepted (station places d₂ t)

pub record Demand3 : Type 0 where
  -- it is asked of equal density altitudes and of distant ones, with a temperature and with none
  pub asked_of_one : Asked (Given (decimal "15")) (decimal "0") (decimal "0") (decimal "0")
  pub asked_with_none : Asked FromLayer (decimal "-5e62") (decimal "0") (decimal "44283")
  pub asked_with_one : Asked (Given (decimal "15")) (decimal "-6e62") (decimal "0") (decimal "54852")
  -- "if d1 and d2 are accepted, then d is accepted"
  pub accepted : (t : Reading) (d₁ d d₂ : Float) → Asked t d₁ d d₂ → Accepted (station places d t)
  -- "altitude never falls and pressure never rises, from d1 to d and from d to d2"
  pub altitude_to_d : (t : Reading) (d₁ d d₂ : Float) → Asked t d₁ d d₂ → T (le (altitude_found (station places d₁ t)) (altitude_found (station places d t)))
  pub altitude_from_d : (t : Reading) (d₁ d d₂ : Float) → Asked t d₁ d d₂ → T (le (altitude_found (station places d t)) (altitude_found (station places d₂ t)))
  pub pressure_to_d : (t : Reading) (d₁ d d₂ : Float) → Asked t d₁ d d₂ → T (le (pressure_found (station places d t)) (pressure_found (station places d₁ t)))
  pub pressure_from_d : (t : Reading) (d₁ d d₂ : Float) → Asked t d₁ d d₂ → T (le (pressure_found (station places d₂ t)) (pressure_found (station places d t)))
  -- "nor does the temperature rise where none was given"
  pub temperature_to_d : (d₁ d d₂ : Float) → Asked FromLayer d₁ d d₂ → T (le (temperature_found (station places d FromLayer)) (temperature_found (station places d₁ FromLayer)))
  pub temperature_from_d : (d₁ d d₂ : Float) → Asked FromLayer d₁ d d₂ → T (le (temperature_found (station places d₂ FromLayer)) (temperature_found (station places d FromLayer)))
  -- "if also d1 and d2 lie in −500 to 3,000 m, at least 1 m apart, and a given temperature in −40 to 50 °C, altitude strictly rises and pressure strictly falls"
  pub altitude_strictly : (t : Reading) (d₁ d d₂ : Float) → Asked t d₁ d d₂ → InRange d₁ → InRange d₂ → OneMetreApart d₁ d₂ → Temperate t
      → T (lt (altitude_found (station places d₁ t)) (altitude_found (station places d₂ t)))
  pub pressure_strictly : (t : Reading) (d₁ d d₂ : Float) → Asked t d₁ d d₂ → InRange d₁ → InRange d₂ → OneMetreApart d₁ d₂ → Temperate t
      → T (lt (pressure_found (station places d₂ t)) (pressure_found (station places d₁ t)))
  -- "contracts reject .. an inverse echoing the height .., one set of air for all": at both ends of the ranges
  pub rejects_wrong_inverses : Rejected

-- ---- K1, the setting sheet
pub record K1 : Type 0 where
  -- "the first n rows of a good sheet are always the rows of the first n temperatures, rising"
  pub whole : (h p u : Float) (room : ℕ) (text : List ℕ) → setting_sheet h p u room ≡ accepted text → length text ≡ 1530
  pub first_rows : (h p u : Float) (room : ℕ) (text : List ℕ) → setting_sheet h p u room ≡ accepted text → (n : ℕ) → n ≤ 51 → rows h p u n ≡ accepted (take (30 * n) text)
  pub each_row : (h p u : Float) (room : ℕ) (text : List ℕ) → setting_sheet h p u room ≡ accepted text → (n : ℕ) → n < 51
      → row_outcome h p u (celsius_of_row n) ≡ accepted (take 30 (drop (30 * n) text))
  pub rising : (m n : ℕ) → m < n → n < 51 → T (lt (celsius_of_row m) (celsius_of_row n))
  -- "the double's exact value rounded to nearest, halves away from zero; one that rounds to zero has no sign"
  pub halves_away : (decimal_text 0 (decimal "2.5") ≡ ascii "3") × (decimal_text 0 (decimal "-2.5") ≡ ascii "-3")
  pub zero_unsigned : (decimal_text 1 (decimal "-0") ≡ ascii "0.0") × (decimal_text 1 (decimal "-0.04") ≡ ascii "0.0")
  -- "temperature and pressure count as given, with no default band, so the 15 °C row is 15 °C": each row but row 25, of 15 °C, which is in the band, is that of
  -- the record of its altitude, temperature, humidity and measured pressure; and each row is that of such a record at sea level, where nothing is a default
  pub record_row : (h p u : Float) (n : ℕ) → n < 51 → n ≢ 25 → NoneHolds (sheet_input_rows h p u)
      → row_outcome h p u (celsius_of_row n) ≡ (judged (with_entry (with_entry (with_entry (with_entry no_readings meaning.altitude h) meaning.temperature (celsius_of_row n)) humidity u) meaning.measured_pressure p) ⟫ figures_outcome (celsius_of_row n))
  pub sea_level_row : (h p u : Float) (n : ℕ) → n < 51 → NoneHolds (sheet_input_rows h p u)
      → row_outcome h p u (celsius_of_row n) ≡ (judged (with_entry (with_entry (with_entry (with_entry no_readings meaning.altitude nought) meaning.temperature (celsius_of_row n)) humidity u) meaning.measured_pressure p) ⟫ figures_outcome (celsius_of_row n))
  -- and the sheet does not depend on the altitude
  pub any_altitude : (h k p u : Float) (room : ℕ) → is_finite h ≡ true → is_finite k ≡ true → setting_sheet h p u room ≡ setting_sheet k p u room
  -- "16 .. checked first", "input is checked as a record's would be, row by row", "17 .. after that row's other checks": each number has exactly its cause
  pub sheet_caused : (h p u : Float) (room : ℕ) → ExactlyCaused ((row (ltb room 1530) 16 [] ∷ sheet_input_rows h p u) ++ lines_rows h p u 51) (lines_text h p u 51) (setting_sheet h p u room)
  pub sheet_order : (h p u : Float) (room : ℕ)
      → numbers ((row (ltb room 1530) 16 [] ∷ sheet_input_rows h p u) ++ lines_rows h p u 51) ≡ 16 ∷ 11 ∷ 11 ∷ 12 ∷ 11 ∷ 13 ∷ repeated 51 (14 ∷ 15 ∷ 17 ∷ [])
  -- "from 16 on a refusal hands out its number alone"
  pub refusals : (h p u : Float) (room number : ℕ) (values : List Float) → setting_sheet h p u room ≡ refused number values → HandedOut number values

-- ---- K2, layers an engineer can tick off
pub record K2 : Type 0 where
  -- "NaN still goes to layer 0", "every other double lies in exactly one range"
  pub nan_in_0 : layer_at nan ≡ 0
  pub one_range : (H : Float) → IsDouble H → is_nan H ≡ false → OnlyRange (layer_at H) H
  -- "no answer moves": it is the highest layer whose base is at most the height, as before
  pub unmoved : (H : Float) → IsDouble H → layer_at H ≡ highest_up_to 6 H

-- ---- K3, a reading is a reading
pub record K3 : Type 0 where
  -- "measured station pressure in hPa: used as it comes, whatever the altitude", and shown as it came
  pub shown : (r : Readings) (p : Float) (f : Figures) → entry_of r meaning.measured_pressure ≡ Some p → judged r ≡ accepted f → f.pressure_hpa ≡ p
  pub used : (r : Readings) (h p : Float) (f : Figures) → entry_of r meaning.altitude ≡ Some h → entry_of r meaning.measured_pressure ≡ Some p → judged r ≡ accepted f
      → f ≡ figures_of (record { altitude_m = h; temperature = resolved_temperature (entry_of r meaning.temperature) h; pressure = Given p; humidity_percent = value_or_zero (entry_of r humidity) })
  -- "tag 03 and `resolve_station_pressure` go on matching the Rust": it passes its band
  pub banded : (r : Readings) (h p : Float) (f : Figures) → entry_of r meaning.altitude ≡ Some h → entry_of r meaning.station_pressure ≡ Some p → judged r ≡ accepted f
      → f ≡ figures_of (record { altitude_m = h; temperature = resolved_temperature (entry_of r meaning.temperature) h; pressure = resolved_station_pressure p h; humidity_percent = value_or_zero (entry_of r humidity) })

-- ---- K4, records written, in tag order
pub record K4 : Type 0 where
  -- "otherwise both judge a record alike": what rises is judged the same, and the rest the same or refused by 19
  pub alike : (s : List ℕ) → Rising (tags s) → judge_strictly s ≡ judge s
  pub or_19 : (s : List ℕ) → (judge_strictly s ≡ judge s) ⊎ (judge_strictly s ≡ refused 19 [])
  -- "a strict reader that takes only rising tags"
  pub only_rising : (s : List ℕ) (f : Figures) → judge_strictly s ≡ accepted f → (judge s ≡ accepted f) × Rising (tags s)
  -- "every record that the strict reader accepts is byte for byte what the writer makes of its fields"
  pub written_again : (s : List ℕ) (f : Figures) → AreBytes s → judge_strictly s ≡ accepted f → s ≡ record_of (readings s)
  -- and it reads back what is written
  pub read_back : (r : Readings) → AreHeld r → read_record true (record_of r) ≡ accepted r
  -- "18: the writer's buffer is shorter than the record", "answers its length"
  pub writer_caused : (r : Readings) (buffer : List ℕ) → ExactlyCaused (row (ltb (length buffer) (length (record_of r))) 18 [] ∷ []) (length (record_of r)) (length_written (record_of r) buffer)

-- ---- K5, thousandths for the new masts
pub record K5 : Type 0 where
  -- "no count in the signed 32-bit range gives exactly this double": the count of a double is found wherever there is one
  pub count_gives : (x : Float) (n : ℤ) → IsDouble x → count_for x ≡ Some n → T (in_range n) × (thousandths n ≡ x)
  pub count_found : (x : Float) (n : ℤ) → T (in_range n) → thousandths n ≡ x → count_for x ≡ Some n
  -- "a signed count of thousandths in four bytes, two's complement", from one end of the range to the other, and "minus zero has none"
  pub word_of_count : (n : ℤ) → T (in_range n) → twos_complement n < 2 ^ 32 × (count_of (twos_complement n) ≡ n)
  pub greatest_count : (count_of 0x7FFFFFFF ≡ pos 2147483647) × (thousandths (pos 2147483647) ≡ decimal "2147483.647")
  pub least_count : (count_of 0x80000000 ≡ negsuc 2147483647) × (thousandths (negsuc 2147483647) ≡ decimal "-2147483.648")
  pub minus_zero : count_for (decimal "-0") ≡ None
  -- "a record wholly in doubles that converts comes back with the same bytes", "and so does one wholly in counts"
  pub doubles_come_back : (s t : List ℕ) → AreBytes s → AllIn false (fields_of s) → converted true s ≡ accepted t → converted false t ≡ accepted s
  pub counts_come_back : (s t : List ℕ) → AreBytes s → AllIn true (fields_of s) → converted false s ≡ accepted t → converted true t ≡ accepted s
  -- "to the first reader figures and refusals are the same before and after"
  pub judged_alike : (counts : Bool) (s t : List ℕ) → AreBytes s → converted counts s ≡ accepted t → judge t ≡ judge s
  -- "20: converting to counts"
  pub never_20_to_doubles : (s buffer : List ℕ) (values : List Float) → length_converted false s buffer ≡ refused 20 values → ⊥
  -- "checked after the field checks 5 to 8 of the whole record. Last, an output too short is 18"
  pub conversion_caused : (counts : Bool) (s buffer : List ℕ)
      → ExactlyCaused ((read_rows false s ++ count_rows counts (fields_of s)) ++ row (ltb (length buffer) (length (record_in counts s))) 18 [] ∷ []) (length (record_in counts s)) (length_converted counts s buffer)
  pub conversion_order : (counts : Bool) (s buffer : List ℕ)
      → numbers ((read_rows false s ++ count_rows counts (fields_of s)) ++ row (ltb (length buffer) (length (record_in counts s))) 18 [] ∷ [])
      ≡ (flat_map (λ _. 5 ∷ 6 ∷ 7 ∷ 5 ∷ 8 ∷ 19 ∷ []) (tags s) ++ flat_map (λ _. 20 ∷ []) (fields_of s)) ++ 18 ∷ []

-- ---- K6, a load for the acceptance bench
pub record K6 : Type 0 where
  -- "SplitMix64 from state 0": its published outputs; "five outputs make one record"
  pub first_output : output 0 ≡ 0xE220A8397B1DCDAF
  pub third_output : output 2 ≡ 0x06C45D188009454F
  pub five_each : (n : ℕ) → drawn (state_after (5 * n)) ≡ record { counts = load_counts n; state = state_after (5 * (n + 1)) }
  -- "altitude −500 to 3,000 m ..": every record's counts lie in their ranges; both readers take it, and no check of a field refuses it
  pub in_ranges : (n : ℕ) → IsOfTheLoad (load_readings n)
  pub judged_as_air : (strict : Bool) (n : ℕ) → judge_by strict (load_record n) ≡ air_outcome (ordinary (load_readings n))

-- ---- K7, three masts, one reading
pub record K7 : Type 0 where
  -- "each field takes the middle of the three values"
  pub middle : (a b c : Readings) (m : ℕ) → m < meanings → entry_of (voted a b c) m ≡ middle_entry (entry_of a m) (entry_of b m) (entry_of c m)
  -- "the first that isn't gives its refusal and its mast"
  pub first_mast : (a b c : List ℕ) (number : ℕ) (values : List Float) → judge a ≡ refused number values → vote a b c ≡ by_mast 1 (refused number values)
  pub second_mast : (a b c : List ℕ) (number : ℕ) (values : List Float) → Accepts a → judge b ≡ refused number values → vote a b c ≡ by_mast 2 (refused number values)
  pub third_mast : (a b c : List ℕ) (number : ℕ) (values : List Float) → Accepts a → Accepts b → judge c ≡ refused number values → vote a b c ≡ by_mast 3 (refused number values)
  pub no_mast : (a b c : List ℕ) → Accepts a → Accepts b → Accepts c → (vote a b c).mast ≡ 0
  -- and only that one
  pub first_mast_because : (a b c : List ℕ) (number : ℕ) (values : List Float) → vote a b c ≡ by_mast 1 (refused number values) → judge a ≡ refused number values
  pub second_mast_because : (a b c : List ℕ) (number : ℕ) (values : List Float) → vote a b c ≡ by_mast 2 (refused number values) → Accepts a × (judge b ≡ refused number values)
  pub third_mast_because : (a b c : List ℕ) (number : ℕ) (values : List Float) → vote a b c ≡ by_mast 3 (refused number values) → Accepts a × (Accepts b × (judge c ≡ refused number values))
  -- the masts' refusals, then 21, then "the voted record is then judged as any record is": each number has exactly its cause
  pub vote_caused : (a b c : List ℕ) → let q = voted (readings a) (readings b) (readings c) in
      ExactlyCaused (record_rows false a ++ (record_rows false b ++ (record_rows false c ++ (shared_rows (readings a) (readings b) (readings c) ++ reading_rows q)))) (figures_of (resolved q)) (vote a b c).outcome
  -- "21: a field, by meaning and in either form, is in one or two of the three records; checked after the masts and before the vote"
  pub by_21 : (a b c : List ℕ) (m : ℕ) → Accepts a → Accepts b → Accepts c → m < meanings → 1 ≤ in_how_many a b c m → in_how_many a b c m ≤ 2 → vote a b c ≡ by_no_mast (refused 21 [])
  pub because_21 : (a b c : List ℕ) (values : List Float) → (vote a b c).outcome ≡ refused 21 values
      → (Accepts a × (Accepts b × Accepts c)) × ((m : ℕ) × ((m < meanings) × ((1 ≤ in_how_many a b c m) × (in_how_many a b c m ≤ 2))))
  -- "minus zero before plus zero"
  pub zeros_after_negative : (x : Float) → T (lt x (decimal "0")) → three.middle x (decimal "0") (decimal "-0") ≡ decimal "-0"
  pub zeros_before_positive : (x : Float) → T (lt (decimal "0") x) → three.middle x (decimal "0") (decimal "-0") ≡ decimal "0"
  pub two_minus_zeros : three.middle (decimal "-0") (decimal "0") (decimal "-0") ≡ decimal "-0"
  pub two_plus_zeros : three.middle (decimal "0") (decimal "0") (decimal "-0") ≡ decimal "0"
  -- so three equal records vote as the one, and two equal ones outvote a third with the same fields
  pub three_equal : (s : List ℕ) (f : Figures) → judge s ≡ accepted f → vote s s s ≡ by_no_mast (accepted f)
  pub two_equal : (s t : List ℕ) (r q : Readings) (f : Figures) → accepted_readings s ≡ accepted r → accepted_readings t ≡ accepted q → SameFields r q → judge s ≡ accepted f
      → vote t s s ≡ by_no_mast (accepted f)
  -- "exchanging the masts changes no accepted figures"
  pub first_exchange : (a b c : List ℕ) (f : Figures) → vote a b c ≡ by_no_mast (accepted f) → vote b a c ≡ by_no_mast (accepted f)
  pub last_exchange : (a b c : List ℕ) (f : Figures) → vote a b c ≡ by_no_mast (accepted f) → vote a c b ≡ by_no_mast (accepted f)

-- ---- K8, warmer means lower: "between two accepted given temperatures"
pub record Warmed (d t₁ t t₂ : Float) : Type 0 where
  pub doubles : IsDouble t₁ × (IsDouble t × IsDouble t₂)
  pub from : T (le t₁ t)
  pub to : T (le t t₂)
  pub coldest : Accepted (station places d (Given t₁))
  pub warmest : Accepted (station places d (Given t₂))

pub record K8 : Type 0 where
  -- it is asked of equal temperatures and of distant ones, from the least that is accepted
  pub warmed_to_itself : Warmed (decimal "0") (decimal "15") (decimal "15") (decimal "15")
  pub warmed_from_the_least : Warmed (decimal "0") (decimal "-273.1499999999999") (decimal "0") (decimal "1e55")
  -- "every temperature is accepted"
  pub accepted : (d t₁ t t₂ : Float) → Warmed d t₁ t t₂ → Accepted (station places d (Given t))
  -- "the resolved altitude never rises with warmth and the pressure never falls"
  pub altitude_to_t : (d t₁ t t₂ : Float) → Warmed d t₁ t t₂ → T (le (altitude_found (station places d (Given t))) (altitude_found (station places d (Given t₁))))
  pub altitude_from_t : (d t₁ t t₂ : Float) → Warmed d t₁ t t₂ → T (le (altitude_found (station places d (Given t₂))) (altitude_found (station places d (Given t))))
  pub pressure_to_t : (d t₁ t t₂ : Float) → Warmed d t₁ t t₂ → T (le (pressure_found (station places d (Given t₁))) (pressure_found (station places d (Given t))))
  pub pressure_from_t : (d t₁ t t₂ : Float) → Warmed d t₁ t t₂ → T (le (pressure_found (station places d (Given t))) (pressure_found (station places d (Given t₂))))
  -- "`faa_rule_density_altitude_ft` never falls with temperature, for finite temperatures and a finite pressure of at least 0"
  pub faa_never_falls : (p t₁ t₂ : Float) → IsDouble p → IsDouble t₁ → IsDouble t₂ → T (is_finite p) → T (le nought p) → T (is_finite t₁) → T (is_finite t₂) → T (le t₁ t₂)
      → T (le (faa_density_altitude places p t₁) (faa_density_altitude places p t₂))
  pub rejects_wrong_answers : RejectedByWarmth

-- ---- K9, how close is the next trim class
pub record K9 : Type 0 where
  -- "the smallest single change that gives another class", by the order of the 800
  pub smallest : (bytes : List ℕ) (s : Start) (t : Turn) → Asks bytes s → next_trim_class bytes ≡ accepted (record { class = s.class; turn = Some t })
      → FirstToGive s t.change t.class
  -- "equal k: temperature before pressure, up before down", and every k before the next
  pub up_before_down : (q : Quantity) (k : ℕ) → place (change q Up k) < place (change q Down k)
  pub temperature_first : (k : ℕ) → place (change Temperature Down k) < place (change MeasuredPressure Up k)
  pub smaller_first : (k : ℕ) → place (change MeasuredPressure Down k) < place (change Temperature Up (k + 1))
  -- "the answer 'no change within 200' comes only if none of the 800 does it"
  pub none_because : (bytes : List ℕ) (s : Start) → Asks bytes s → next_trim_class bytes ≡ accepted (record { class = s.class; turn = None }) → NoneGives s
  pub none_where : (bytes : List ℕ) (s : Start) → Asks bytes s → NoneGives s → next_trim_class bytes ≡ accepted (record { class = s.class; turn = None })
  -- "22: no temperature or no measured pressure in an otherwise accepted record"
  pub own_refusal : (bytes : List ℕ) (number : ℕ) (values : List Float) → judge bytes ≡ refused number values → next_trim_class bytes ≡ refused number values
  pub by_22 : (bytes : List ℕ) (r : Readings) (f : Figures) → read_record false bytes ≡ accepted r → judged r ≡ accepted f
      → (entry_of r meaning.temperature ≡ None) ⊎ (entry_of r meaning.measured_pressure ≡ None) → next_trim_class bytes ≡ refused 22 []
  -- each number has exactly its cause: those of the record, then 22
  pub trim_caused : (bytes : List ℕ) → let r = readings bytes in
      ExactlyCaused (record_rows false bytes ++ row (not (has r meaning.temperature) || not (has r meaning.measured_pressure)) 22 [] ∷ []) (next_for bytes) (next_trim_class bytes)
  -- "for a reading with temperature and measured pressure": it is answered, never refused
  pub answered : (bytes : List ℕ) (f : Figures) (t p : Float) → judge bytes ≡ accepted f → entry_of (readings bytes) meaning.temperature ≡ Some t
      → entry_of (readings bytes) meaning.measured_pressure ≡ Some p → (n : Next) × (next_trim_class bytes ≡ accepted n)
  -- "the count of these densities at or below the figure: 1.00, 1.05, 1.10, 1.15, 1.20, 1.25 kg/m³"
  pub class_counts : (r : Readings) (f : Figures) → judged r ≡ accepted f → let d = f.density_kg_m3 in
      class_of r ≡ accepted (cond (le (decimal "1.00") d) 1 0 + cond (le (decimal "1.05") d) 1 0 + cond (le (decimal "1.10") d) 1 0 + cond (le (decimal "1.15") d) 1 0 + cond (le (decimal "1.20") d) 1 0 + cond (le (decimal "1.25") d) 1 0)

-- ---- K10, sixty places
pub record K10 : Type 0 where
  -- "a greater input still never gives a smaller word or antilog"
  pub word_rises : (x y : Float) → IsDouble x → IsDouble y → T (positive x) → T (positive y) → T (le x y) → log_word 60 x ≤ℤ log_word 60 y
  pub antilog_rises : (P Q : ℤ) → P ≤ℤ Q → T (le (antilog 60 P) (antilog 60 Q))
  pub exp_rises : (x y : Float) → IsDouble x → IsDouble y → T (le x y) → T (le (exp 60 x) (exp 60 y))
  -- nor a smaller ln or power, from 0 up; a power with a negative exponent never rises, and the power 3 never falls over all doubles
  pub ln_rises : (x y : Float) → IsDouble x → IsDouble y → T (le nought x) → T (le x y) → T (le (ln 60 x) (ln 60 y))
  pub power_rises : (q : Exponent) → q.negative ≡ false → (x y : Float) → IsDouble x → IsDouble y → T (le nought x) → T (le x y) → T (le (power 60 q x) (power 60 q y))
  pub power_falls : (q : Exponent) → q.negative ≡ true → (x y : Float) → IsDouble x → IsDouble y → T (le nought x) → T (le x y) → T (le (power 60 q y) (power 60 q x))
  pub cube_rises : (q : Exponent) → is_three q ≡ true → (x y : Float) → IsDouble x → IsDouble y → T (le x y) → T (le (power 60 q x) (power 60 q y))

-- ---- K11, moisture and range in the answer
pub record K11 : Type 0 where
  -- "the mark is set exactly if the shown temperature is 15 to 27 °C and the pressure 600 to 1,100 hPa, ends included"
  pub marked_because : (r : Readings) (f : Figures) → judged r ≡ accepted f → f.in_cipm_range ≡ true
      → T (le (decimal "15") f.temperature_c) × T (le f.temperature_c (decimal "27")) × T (le (decimal "600") f.pressure_hpa) × T (le f.pressure_hpa (decimal "1100"))
  pub marked_where : (r : Readings) (f : Figures) → judged r ≡ accepted f → T (le (decimal "15") f.temperature_c) → T (le f.temperature_c (decimal "27"))
      → T (le (decimal "600") f.pressure_hpa) → T (le f.pressure_hpa (decimal "1100")) → f.in_cipm_range ≡ true
  -- "the capped vapour mole fraction that the density uses", both of the resolved temperature and pressure by K and Pa
  pub fraction_capped : (r : Readings) (f : Figures) → judged r ≡ accepted f → let a = resolved r in
      f.vapor_mole_fraction ≡ capped (mole_fraction_celsius places (kelvins places a.altitude_m a.temperature ⊖ ice_point) (pascals places a.altitude_m a.pressure ⊘ hundred) (clamp_double a.humidity_percent nought hundred))
  pub density_uses_it : (r : Readings) (f : Figures) → judged r ≡ accepted f → let a = resolved r in
      f.density_kg_m3 ≡ air_density_at (kelvins places a.altitude_m a.temperature ⊖ ice_point) (pascals places a.altitude_m a.pressure ⊘ hundred) f.vapor_mole_fraction

-- ---- K12, humid density altitudes
pub record K12 : Type 0 where
  -- "two records that differ only in humidity resolve to the same first three figures where both are accepted"
  pub same_station : (r q : Readings) → ((m : ℕ) → m ≢ humidity → entry_of r m ≡ entry_of q m) → (f g : Figures) → judged r ≡ accepted f → judged q ≡ accepted g
      → (f.altitude_m ≡ g.altitude_m) × ((f.temperature_c ≡ g.temperature_c) × (f.pressure_hpa ≡ g.pressure_hpa))

-- ---- K13, quicker roots
pub record K13 : Type 0 where
  -- "entry n, for n from 256 to 1,023, is the greatest whole number whose square is at most n × 2^20"
  pub entries : (n : ℕ) → 256 ≤ n → n < 1024 → get_or root_table (n - 256) 0 ≡ root (n * 2 ^ 20)
  -- "the two give the same number for every radicand from 2^124 up to but not including 2^126", and there the first root is never taken: the table serves each
  pub alike : (n : ℕ) → 2 ^ 124 ≤ n → n < 2 ^ 126 → (both_roots n).quick ≡ (both_roots n).first
  pub served : (n : ℕ) → 2 ^ 124 ≤ n → n < 2 ^ 126 → table_root root_table n ≡ Some (root n)

-- ---- K14, how near is near: "over any number of places from 1 to 60"
pub record K14 : Type 0 where
  -- "2 to the L is at most x to the 2^60, and that is less than 2 to the (L + 2)"
  pub word_at_most : (n : ℕ) → 1 ≤ n → n ≤ 60 → (x : Float) → IsDouble x → T (positive x) → two_to_the (log_word n x) is_at_most exact_value x to_the (2 ^ n)
  pub word_near : (n : ℕ) → 1 ≤ n → n ≤ 60 → (x : Float) → IsDouble x → T (positive x) → exact_value x to_the (2 ^ n) is_below two_to_the (log_word n x +ℤ pos 2)
  -- "Y to the 2^60 is at most 2 to the (62 × 2^60 + f), and that is less than (Y + 4) to the 2^60"
  pub antilog_at_most : (n : ℕ) → 1 ≤ n → n ≤ 60 → (f : ℕ) → f < 2 ^ n → antilog_root n f ^ 2 ^ n ≤ 2 ^ (62 * 2 ^ n + f)
  pub antilog_near : (n : ℕ) → 1 ≤ n → n ≤ 60 → (f : ℕ) → f < 2 ^ n → 2 ^ (62 * 2 ^ n + f) < (antilog_root n f + 4) ^ 2 ^ n
  -- fewer than two units, and than four, are too few
  pub word_needs_two : let x = fin false 3614860327554031 (pos 1) in (exact_value x to_the (2 ^ 12) is_below two_to_the (log_word 12 x +ℤ pos 1)) → ⊥
  pub antilog_needs_two : 2 ^ (62 * 2 ^ 4 + 7) < (antilog_root 4 7 + 1) ^ 2 ^ 4 → ⊥
  -- and what it makes of the 27 powers, in units of 2^-60: half a unit in the double's last place is 2^7 of them
  pub power_near : (i : ℕ) → i < 27 → (x : Float) → IsDouble x → T (positive x) → Normal (power_at 60 i x)
      → InBounds (2 ^ 7 + 5 + 2 * ((exponent_at i).magnitude / 2 ^ 58)) 60 (power_at 60 i x) (2 ^ 58) (raised (exponent_at i) (exact_value x))
  -- of exp, for every b that lies as near to e as 21 decimals tell
  pub exp_near : (b : Fraction) → 0 < b.under → e_below is_at_most b → b is_at_most e_above → (x : Float) → IsDouble x → T (finite x) → Normal (exp 60 x)
      → InBounds (2 ^ 7 + 6 + num x / (4 * den x)) 60 (exp 60 x) (den x) (raised_by x b)
  -- and of ln, which rounds F / 2^60
  pub ln_near : (b : Fraction) → 0 < b.under → e_below is_at_most b → b is_at_most e_above → (x : Float) → IsDouble x → T (positive x)
      → LnWithin 60 b x (floor_div (log_word 60 x *ℤ pos ln2) (2 ^ 62))

-- ---- how near the figures are to the documents' formulas in exact numbers, at -40 to 50 °C, 500 to 1,100 hPa and 0 to 100 percent (`InScope t p h`). `IsNear 45 x X`
-- says that the double x is no further than 2^-45 from the number X, which nothing has rounded; `shown_celsius` and `shown_hectopascals` are what is shown of a
-- temperature and of a pressure that are given or the standard atmosphere's. Roots and powers of e are no fractions: each promise holds for all fractions that stand for them.
pub record Near : Type 0 where
  -- the density, CIPM-2007, equation (1), with the saturation pressure of the IAPWS release: within 2^-45 kg/m³, which is 2.8e-14, and of dry air 2^-47
  pub density_near : (altitude : Float) (t₀ p₀ : Reading) (h : Float) → let t = shown_celsius t₀ altitude in let p = shown_hectopascals p₀ altitude in InScope t p h → (s : Saturation (kelvin t))
      → IsNear 45 (atmosphere places altitude t₀ p₀ h).density_kg_m3 (exact_density (pascal p) (kelvin t) (vapour t p h s))
  pub dry_density_near : (altitude : Float) (t₀ p₀ : Reading) → let t = shown_celsius t₀ altitude in let p = shown_hectopascals p₀ altitude in InScope t p nought
      → IsNear 47 (atmosphere places altitude t₀ p₀ nought).density_kg_m3 (exact_density (pascal p) (kelvin t) (the "0"))
  -- the mole fraction of water vapour, x_v = h f p_sv / p: within 2^-44
  pub fraction_near : (altitude : Float) (t₀ p₀ : Reading) (h : Float) → let t = shown_celsius t₀ altitude in let p = shown_hectopascals p₀ altitude in InScope t p h → (s : Saturation (kelvin t))
      → IsNear 44 (atmosphere places altitude t₀ p₀ h).vapor_mole_fraction (vapour t p h s)
  -- the speed of sound, c^2 = γ R T: within 2^-37 m/s, which is 7.3e-12
  pub sound_near : (altitude : Float) (t₀ p₀ : Reading) (h : Float) → let t = shown_celsius t₀ altitude in let p = shown_hectopascals p₀ altitude in InScope t p h → (s : Saturation (kelvin t))
      → (c : Fraction) → IsRoot c (squared_speed (kelvin t) (vapour t p h s)) → IsNear 37 (atmosphere places altitude t₀ p₀ h).speed_of_sound_mps (of c)
  -- the saturation pressure, IAPWS SR1-86(1992), equation (1): within 2^-35 hPa, and within one part in 2^41 of itself
  pub saturation_near : (T : Float) → Between (decimal "233.15") (decimal "323.15") T → (s : Saturation (number T)) → IsNear 35 (saturation_pressure places T) (pressure_of s)
  pub saturation_nearly : (T : Float) → Between (decimal "233.15") (decimal "323.15") T → (s : Saturation (number T)) → IsNearly 41 (saturation_pressure places T) (pressure_of s)
  -- there are such fractions everywhere, so none of this is said of nothing
  pub saturation_exists : (T : Float) → Between (decimal "233.15") (decimal "323.15") T → Saturation (number T)
  pub saturation_exists_celsius : (t : Float) → Between (decimal "-40") (decimal "50") t → Saturation (kelvin t)
  pub speed_exists : (t p h : Float) → InScope t p h → (s : Saturation (kelvin t)) → (c : Fraction) × IsRoot c (squared_speed (kelvin t) (vapour t p h s))
  -- so the figures of every accepted record that shows a temperature and a pressure of these ranges, measured, of a QNH or of the standard atmosphere
  pub record_density : (r : Readings) (f : Figures) → judged r ≡ accepted f → let t = f.temperature_c in let p = f.pressure_hpa in let h = (resolved r).humidity_percent in InScope t p h
      → (s : Saturation (kelvin t)) → IsNear 45 f.density_kg_m3 (exact_density (pascal p) (kelvin t) (vapour t p h s))
  pub record_fraction : (r : Readings) (f : Figures) → judged r ≡ accepted f → let t = f.temperature_c in let p = f.pressure_hpa in let h = (resolved r).humidity_percent in InScope t p h
      → (s : Saturation (kelvin t)) → IsNear 44 f.vapor_mole_fraction (vapour t p h s)
  pub record_sound : (r : Readings) (f : Figures) → judged r ≡ accepted f → let t = f.temperature_c in let p = f.pressure_hpa in let h = (resolved r).humidity_percent in InScope t p h
      → (s : Saturation (kelvin t)) (c : Fraction) → IsRoot c (squared_speed (kelvin t) (vapour t p h s)) → IsNear 37 f.speed_of_sound_mps (of c)
  -- what is printed with j decimals lies within half a unit of the last of them and 2^-k of the number to which the figure is near: the density on the sheet and in
  -- the report, with four decimals, within 0.00005 and 2^-45 kg/m³ of the formula
  pub printed_near : (j k : ℕ) (x : Float) (X : Exact) → IsDouble x → IsNear k x X → IsPrinted j k (decimal_text j x) X
  -- the trim class is that of the exact density, the count of the limits at or below it, unless it lies within 2^-45 kg/m³ of a limit
  pub class_near : (r : Readings) (f : Figures) → judged r ≡ accepted f → let t = f.temperature_c in let p = f.pressure_hpa in let h = (resolved r).humidity_percent in InScope t p h
      → (s : Saturation (kelvin t)) → let ρ = exact_density (pascal p) (kelvin t) (vapour t p h s) in FarFromEach 45 ρ class_densities → class_of r ≡ accepted (exact_count class_densities ρ)
  -- the root of a greater number is no less, and so the speed of sound in dry air never falls where the temperature rises, at any two altitudes and pressures
  pub sqrt_rises : (x y : Float) → IsDouble x → IsDouble y → T (positive x) → T (positive y) → T (le x y) → T (le (sqrt x) (sqrt y))
  pub dry_sound_rises : (altitude altitude' t u p q : Float) → InScope t p nought → InScope u q nought → T (le t u)
      → T (le (atmosphere places altitude (Given t) (Given p) nought).speed_of_sound_mps (atmosphere places altitude' (Given u) (Given q) nought).speed_of_sound_mps)
  -- and the density of dry air at one pressure falls with every degree, and so down a dry sheet of any pressure from 500 to 1,100 hPa, over its 51 rows
  pub dry_density_falls : (altitude altitude' t u p : Float) → InScope t p nought → InScope u p nought → T (is_not_above (number t ⊞ the "1") (number u))
      → T (lt (atmosphere places altitude' (Given u) (Given p) nought).density_kg_m3 (atmosphere places altitude (Given t) (Given p) nought).density_kg_m3)
  pub dry_sheet_falls : (altitude p : Float) → Between (decimal "500") (decimal "1100") p → (m n : ℕ) → m < n → n < 51
      → T (lt (figures_of (row_station altitude p nought (celsius_of_row n))).density_kg_m3 (figures_of (row_station altitude p nought (celsius_of_row m))).density_kg_m3)

-- ---- how near the standard atmosphere, the pressure of a QNH and the altitudes are to their formulas, in the same way; powers are no fractions either
pub record AltitudesNear : Type 0 where
  -- the standard temperature, ICAO Doc 7488, T = T_b + β (H - H_b) with H = r h / (r + h): within 2^-42 K, which is 2.3e-13, in K and as it is shown
  pub standard_temperature : (h : Float) → Between (decimal "-500") (decimal "11000") h
      → IsNear 42 (standard_air places h).temperature_k (troposphere.exact_temperature (number h)) × IsNear 42 (shown_celsius FromLayer h) (troposphere.exact_temperature (number h) ⊟ the "273.15")
  -- the standard pressure, p = p_b (1 + β / T_b (H - H_b)) ^ (-g₀ / (β R)): within 2^-31 Pa, which is 4.7e-10, and as it is shown within 2^-37 hPa
  pub standard_pressure : (h : Float) → Between (decimal "-500") (decimal "11000") h → (p : troposphere.PressureRatio (number h))
      → IsNear 31 (standard_air places h).pressure_pa (troposphere.exact_pressure p) × IsNear 37 (shown_hectopascals FromLayer h) (troposphere.exact_pressure p ÷ the "100")
  -- up to 5,000 m the standard air lies in these ranges
  pub standard_in_scope : (altitude h : Float) → Between (decimal "-500") (decimal "5000") altitude → Between (decimal "0") (decimal "100") h → InScope (shown_celsius FromLayer altitude) (shown_hectopascals FromLayer altitude) h
  -- a QNH reduced to the station, QNH (1 + (L H / T0) (P0 / QNH) ^ n) ^ (1 / n) with n = -L R / g: within 2^-37 hPa, which is 7.3e-12
  pub qnh_near : (qnh h : Float) → Between (decimal "500") (decimal "1100") qnh → Between (decimal "-500") (decimal "5000") h → (r : reduction.Reduction (number qnh) (number h)) → IsNear 37 (reduced_qnh places qnh h) (reduction.station_hpa r)
  -- the pressure altitude, National Weather Service, 145366.45 ft (1 - (p / 1013.25) ^ 0.190284): within 2^-36 m, which is 1.5e-11
  pub pressure_altitude_near : (p : Float) → Between (decimal "500") (decimal "1100") p → (r : nws.RaisedPressure (number p)) → IsNear 36 (pressure_altitude places p) (nws.exact_nws_altitude r)
  -- the density-matched altitude, T_0 / -β (1 - (ρ / ρ_0) ^ (1 / n)) with n = -g₀ / (β R) - 1, at the exact density: within 2^-30 m, which is 9.3e-10
  pub density_altitude_near : (t p h : Float) → InScope t p h → (s : Saturation (kelvin t)) (r : matched.RaisedDensity (matched.exact_air_density t p h s)) → IsNear 30 (density_matched_altitude places t p h) (matched.matched_altitude r)
  -- there are such fractions everywhere
  pub pressure_ratio_exists : (h : Float) → Between (decimal "-500") (decimal "11000") h → troposphere.PressureRatio (number h)
  pub reduction_exists : (qnh h : Float) → Between (decimal "500") (decimal "1100") qnh → Between (decimal "-500") (decimal "5000") h → reduction.Reduction (number qnh) (number h)
  pub raised_pressure_exists : (p : Float) → Between (decimal "500") (decimal "1100") p → nws.RaisedPressure (number p)
  pub raised_density_exists : (t p h : Float) → InScope t p h → (s : Saturation (kelvin t)) → matched.RaisedDensity (matched.exact_air_density t p h s)
  -- so every accepted record whose temperature or pressure comes from the layer
  pub record_temperature : (r : Readings) (f : Figures) → judged r ≡ accepted f → (resolved r).temperature ≡ FromLayer → let h = f.altitude_m in Between (decimal "-500") (decimal "11000") h
      → IsNear 42 f.temperature_c (troposphere.exact_temperature (number h) ⊟ the "273.15")
  pub record_pressure : (r : Readings) (f : Figures) → judged r ≡ accepted f → (resolved r).pressure ≡ FromLayer → let h = f.altitude_m in Between (decimal "-500") (decimal "11000") h → (p : troposphere.PressureRatio (number h))
      → IsNear 37 f.pressure_hpa (troposphere.exact_pressure p ÷ the "100")
  -- or has a QNH, and the altitudes of every one
  pub record_qnh : (r : Readings) (f : Figures) → judged r ≡ accepted f → (q : Float) → entry_of r meaning.qnh ≡ Some q → let h = f.altitude_m in Between (decimal "500") (decimal "1100") q → Between (decimal "-500") (decimal "5000") h
      → (p : reduction.Reduction (number q) (number h)) → IsNear 37 f.pressure_hpa (reduction.station_hpa p)
  pub record_pressure_altitude : (r : Readings) (f : Figures) → judged r ≡ accepted f → Between (decimal "500") (decimal "1100") f.pressure_hpa → (p : nws.RaisedPressure (number f.pressure_hpa))
      → IsNear 36 f.pressure_altitude_m (nws.exact_nws_altitude p)
  pub record_density_altitude : (r : Readings) (f : Figures) → judged r ≡ accepted f → let t = f.temperature_c in let p = f.pressure_hpa in let h = (resolved r).humidity_percent in InScope t p h
      → (s : Saturation (kelvin t)) (x : matched.RaisedDensity (matched.exact_air_density t p h s)) → IsNear 30 f.density_matched_altitude_m (matched.matched_altitude x)

-- ---- typed at the park
pub record AtThePark : Type 0 where
  -- decimals as they are typed, and whole reports
  pub typed_decimals : (typed 3 (ascii "1586") ≡ Ok (pos 1586000)) × (typed 3 (ascii "-15.25") ≡ Ok (negsuc 15249)) × (typed 3 (ascii "-0") ≡ Ok (pos 0))
  pub typed_ends : (typed 3 (ascii "2147483.647") ≡ Ok (pos 2147483647)) × (typed 3 (ascii "2147483.648") ≡ Err not_a_count.OutOfRange) × (typed 3 (ascii "1.2345") ≡ Err not_a_count.TooManyDecimals)
  pub typed_badly : (typed 3 (ascii "") ≡ Err not_a_count.NotANumber) × (typed 3 (ascii ".5") ≡ Err not_a_count.NotANumber) × (typed 3 (ascii "5.") ≡ Err not_a_count.NotANumber) × (typed 3 (ascii "1e3") ≡ Err not_a_count.NotANumber)
  pub report_at_sea_level : report_text Record (with_entry (with_entry no_readings meaning.altitude nought) meaning.temperature (decimal "21.1"))
      ≡ ascii "altitude                             0.0 m\ntemperature                        21.10 C\nstation pressure                1013.250 hPa\ndensity                           1.2000 kg/m3, the reference for the trim table\nspeed of sound                     343.9 m/s\npressure altitude                    0.0 m\ndensity-matched altitude           218.3 m\nvapour mole fraction            0.000000 mol/mol\ntrim class 5\nnext class 4 at 0.1 C warmer\nin the range for which CIPM-2007 states its formula\nnote: no pressure is given: the standard atmosphere's 1013.250 hPa is used\nnote: no humidity is given: dry air is used\nnote: the next class is searched from the temperature and the station pressure above\nrecord 0100080000000000000000020008403519999999999A\n"
  -- each reading is the double nearest to the exact value of its typed number in its unit, and there is no other; the record that a new mast would send is judged as the readings are
  pub word_is_reading : (ws : List (List ℕ)) (r : Readings) → understand ws ≡ Ok r → (w : List ℕ) (m : ℕ) (u : TypedUnit) (d : List ℕ) → Memᴰ w ws → Says w m u d → Nearest r m u d
  pub no_other : (ws : List (List ℕ)) (r : Readings) → understand ws ≡ Ok r → (m : ℕ) (x : Float) → entry_of r m ≡ Some x → Typed ws m
  pub record_judged : (ws : List (List ℕ)) (r : Readings) → understand ws ≡ Ok r → judge (record_of r) ≡ judged r
  -- a number in a reading's own unit is kept as its count, so that the record has the digits that were typed
  pub typed_count_kept : (d : List ℕ) (n : ℤ) → typed 3 d ≡ Ok n → value_of (reading_in Plain n) ≡ value_as.Count (twos_complement n)
  -- what a report notes is the lines of the rows that hold: a line is printed exactly if a row with it holds
  pub notes_are_lines : (point : Bool) (r : Readings) (f : Figures) → note_lines point r f ≡ noted.joined (noted.lines (notes point r f))
  pub note_has_its_row : (point : Bool) (r : Readings) (f : Figures) (l : List ℕ) → Memᴰ l (noted.lines (notes point r f)) → noted.Holds (notes point r f) l
  pub row_has_its_note : (point : Bool) (r : Readings) (f : Figures) (l : List ℕ) → noted.Holds (notes point r f) l → Memᴰ l (noted.lines (notes point r f))

-- ---- the report of refused readings: the reading that it names
pub record Reports : Type 0 where
  -- "number, value": it is the one whose value the refusal hands out first
  pub named : (r : Readings) (number : ℕ) (v : Float) (values : List Float) → judged r ≡ refused number (v ∷ values) → entry_of r (reading_about r number) ≡ Some v
  -- of 1 and 4 the density altitude, of 2 and 3 the temperature, of 13 the humidity; of 11 and 12 one of those that they check
  pub named_alone : (r : Readings) → (reading_about r 1 ≡ density_altitude) × (reading_about r 2 ≡ meaning.temperature) × (reading_about r 3 ≡ meaning.temperature) × (reading_about r 4 ≡ density_altitude) × (reading_about r 13 ≡ humidity)
  pub named_11 : (r : Readings) → Memᴰ (reading_about r 11) (meaning.altitude ∷ meaning.station_pressure ∷ meaning.qnh ∷ humidity ∷ meaning.measured_pressure ∷ [])
  pub named_12 : (r : Readings) → Memᴰ (reading_about r 12) (meaning.station_pressure ∷ meaning.qnh ∷ meaning.measured_pressure ∷ [])

-- ---- from C: a record's readings as arrays of forms, values and counts
pub record Arrays : Type 0 where
  -- what was read is written as the record of its readings, so by the strict reader, where none is NaN, as the same bytes
  pub written_of_read : (strict : Bool) (forms : List ℕ) (values : List Float) (counts s : List ℕ) (r : Readings) → read_in strict forms values counts s ≡ accepted r
      → written_of forms values counts r ≡ accepted (record_of (readings s))
  pub same_bytes : (forms : List ℕ) (values : List Float) (counts s : List ℕ) (r : Readings) → AreBytes s → NoneIsNan r
      → read_in true forms values counts s ≡ accepted r → written_of forms values counts r ≡ accepted s
  -- what was written is read by either reader, in the same forms, with the values of the doubles and the counts of the counts
  pub read_of_written : (forms : List ℕ) (values : List Float) (counts s : List ℕ)
      → AreNumbers values counts → array_record forms values counts ≡ accepted s → (strict : Bool) → read_record strict s ≡ accepted (array_readings meanings forms values counts)
  pub read_as : (forms : List ℕ) (values : List Float) (counts s : List ℕ) → AreNumbers values counts → array_record forms values counts ≡ accepted s
      → ReadAs forms values counts (array_readings meanings forms values counts)

-- ---- the decimals of the definitions, as in `decimal "287.0531"`
pub record Decimals : Type 0 where
  -- digits, a point and digits, a power of ten
  pub reads : ((fraction "-0.0065").negative ≡ true) × ((fraction "-0.0065").numerator ≡ 65) × ((fraction "-0.0065").denominator ≡ 10 ^ 4) × ((fraction "3.14e-8").denominator ≡ 10 ^ 10)
  -- one that is a number, below 2^3022, is the double nearest to its fraction, ties to even
  pub nearest : (t : String) → let f = fraction t in f.is_number ≡ true → f.numerator * 2 ^ 1074 / f.denominator < 2 ^ 2 ^ 12 → decimal t ≡ round binary64 f.negative f.numerator f.denominator
  -- any other text is NaN: nothing, a minus alone, a letter for a digit, no digit before or after the point or in the power, a second point or minus, a plus, a blank
  pub no_number : (t : String) → (fraction t).is_number ≡ false → decimal t ≡ nan
  pub none_of_these : map decimal ("" ∷ "-" ∷ "1.O5" ∷ ".5" ∷ "1." ∷ "1e" ∷ "1e-" ∷ "1.2.3" ∷ "--1" ∷ "+1" ∷ " 1" ∷ []) ≡ replicate 11 nan

pub record Promises : Type 0 where
  pub document_01 : Document01
  pub demand_3 : Demand3
  pub k1 : K1
  pub k2 : K2
  pub k3 : K3
  pub k4 : K4
  pub k5 : K5
  pub k6 : K6
  pub k7 : K7
  pub k8 : K8
  pub k9 : K9
  pub k10 : K10
  pub k11 : K11
  pub k12 : K12
  pub k13 : K13
  pub k14 : K14
  pub near : Near
  pub altitudes_near : AltitudesNear
  pub at_the_park : AtThePark
  pub reports : Reports
  pub arrays : Arrays
  pub decimals : Decimals
