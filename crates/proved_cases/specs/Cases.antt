-- Document 01's cases that are to be proved, as one table: a line says what a definition is at an input. `Hold` is the one statement about the whole table,
-- and proofs/Cases proves it. Definitions only.
use Rattle.std.specs.Prelude.{◌≡◌, Bool, true, false, not, List, [], ◌∷◌, map, ◌*◌, ◌^◌, pos, neg_ℤ, replicate, Float}
use Rattle.std.specs.Float.{nan}
use Rattle.std.specs.Float.Ieee.{lt, le}
use Rattle.arithmetic.specs.Places.{places}
use Rattle.arithmetic.specs.Decimals.{decimal, nought, one, hundred}
use Rattle.arithmetic.specs.Operators.{◌⊖◌}
use Rattle.antilog.specs.Log.{log_word}
use Rattle.antilog.specs.Antilog.{antilog_root}
use Rattle.elementary.specs.Exponents.{exponents, of_double}
use Rattle.elementary.specs.Power.{power}
use Rattle.arithmetic.specs.Doubles.{is_finite}
use Rattle.atmosphere.specs.declared.given.Reading.{Reading}
use Rattle.atmosphere.specs.declared.given.Reading.TheVariants.{Given, FromLayer}
use Rattle.atmosphere.specs.Layers.{standard_air}
use Rattle.atmosphere.specs.Station.{resolved_station_pressure, resolved_station_temperature, reduced_qnh}
use Rattle.refusal.specs.Outcomes.{Outcome, accepted, refused}
use Rattle.refusal.specs.declared.inverse.Station.{Station}
use Rattle.density_altitude.specs.Inverse.{absolute_zero, resolve}
use Rattle.density_order.specs.Rejected.{air_at}

-- what is computed, and what it has to be
pub data Case : Type 1 where
  case : {A : Type 0} → A → A → Case

abbrev pub Hold : List Case → Type 0
Hold [] = Unit {0}
Hold (case a b ∷ cases) = (a ≡ b) × Hold cases

-- the next double above -273.15
abbrev above_absolute_zero : Float
above_absolute_zero = decimal "-273.1499999999999"

-- the parts of cause 4, of what a density altitude resolves to: altitude, pressure or temperature not finite, pressure ≤ 0, temperature ≤ -273.15
abbrev reasons : Station → List Bool
reasons s =
    not (is_finite s.altitude_m) ∷ not (is_finite s.pressure_hpa) ∷ not (is_finite s.temperature_c) ∷ le s.pressure_hpa nought ∷
    le s.temperature_c absolute_zero ∷ []

-- the table, in the order of document 01, of an inverse
abbrev pub table_of : (Float → Reading → Outcome Station) → List Case
table_of inverse =
    -- `calculate_icao_standard_atmosphere`: 0 m gives 288.15 K, 101325 Pa
    case (standard_air places nought) (record { temperature_k = decimal "288.15"; pressure_pa = decimal "101325" }) ∷
    -- `resolve_station_pressure`: 1013 hPa at 100 m is a default; 1012.75 at 100 m is kept; 1013.25 at 1 m is kept
    case (resolved_station_pressure (decimal "1013") hundred) FromLayer ∷
    case (resolved_station_pressure (decimal "1012.75") hundred) (Given (decimal "1012.75")) ∷
    case (resolved_station_pressure (decimal "1013.25") one) (Given (decimal "1013.25")) ∷
    -- `resolve_station_temperature`: 15.1 °C at 100 m is a default, since the double 15.1 - 15 is below the double 0.1
    case (resolved_station_temperature (decimal "15.1") hundred) FromLayer ∷
    case (lt (decimal "15.1" ⊖ decimal "15") (decimal "0.1")) true ∷
    -- `reduce_qnh_to_station_pressure`: 1013.25 at 0 m gives 1013.25
    case (reduced_qnh places (decimal "1013.25") nought) (decimal "1013.25") ∷
    -- `station_for_density_altitude`: 0 m, no temperature: 0 m, 15 °C, 1013.25 hPa; 0 m with 15 °C: the same
    case (inverse nought FromLayer) (air_at nought (decimal "15") (decimal "1013.25")) ∷
    case (inverse nought (Given (decimal "15"))) (air_at nought (decimal "15") (decimal "1013.25")) ∷
    -- none given: 44,283 m accepted; 44,284 m refused 4, too cold and for no other reason
    case (inverse (decimal "44283") FromLayer) (air_at (decimal "44283") (decimal "-273.1494422572178") (decimal "8.045414169227304e-15")) ∷
    case (inverse (decimal "44284") FromLayer) (refused 4 (decimal "44284" ∷ decimal "44284" ∷ [])) ∷
    case (reasons (resolve places (decimal "44284") FromLayer)) (false ∷ false ∷ false ∷ false ∷ true ∷ []) ∷
    -- with 15 °C: 54,852 m accepted; 54,853 m refused 4, for a pressure that is not finite and for no other reason
    case (inverse (decimal "54852") (Given (decimal "15"))) (air_at (decimal "44306.94668820678") (decimal "15") (decimal "8.359000857825759e-23")) ∷
    case (inverse (decimal "54853") (Given (decimal "15"))) (refused 4 (decimal "54853" ∷ decimal "44307.754442649435" ∷ [])) ∷
    case (reasons (resolve places (decimal "54853") (Given (decimal "15")))) (false ∷ true ∷ false ∷ false ∷ false ∷ []) ∷
    -- -273.15 °C at 0 m: 3; the next double above, at 0 m: accepted, and returned unchanged
    case (inverse nought (Given absolute_zero)) (refused 3 (absolute_zero ∷ [])) ∷
    case (inverse nought (Given above_absolute_zero)) (air_at (decimal "8513.226494345718") above_absolute_zero (decimal "330.17427818741555")) ∷
    -- NaN altitude with NaN temperature: 1
    case (inverse nan (Given nan)) (refused 1 (nan ∷ [])) ∷
    -- Log word, with document 02's sixty places: 1 gives 0; 8 gives 3 * 2^60; 0.5 gives -2^60
    case (log_word places one) (pos 0) ∷
    case (log_word places (decimal "8")) (pos (3 * 2 ^ 60)) ∷
    case (log_word places (decimal "0.5")) (neg_ℤ (pos (2 ^ 60))) ∷
    -- Antilog: P = 2^59 ends with Y = 5A827999FCEF3242 hex
    case (antilog_root places (2 ^ 59)) 0x5A827999FCEF3242 ∷
    -- Power: 1 gives 1 for every q
    case (map (λ (q : Float). power places (of_double q) one) exponents) (replicate 27 one) ∷ []

-- ---- what the table rejects: refusal always, with whatever numbers and values
abbrev pub is_accepted : Outcome Station → Bool
is_accepted (accepted s) = true
is_accepted (refused number values) = false

abbrev pub RefusesAlways : (Float → Reading → Outcome Station) → Type 0
RefusesAlways inverse = (d : Float) (t : Reading) → is_accepted (inverse d t) ≡ false
