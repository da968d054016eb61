-- Functions by name: the answer to a line whose first word is a function's name, or what is said of a question that is not known. Definitions only.
use Rattle.std.specs.Prelude.{ℕ, cond, List, [], ◌++◌, ltb, eqb, get_or}
use Rattle.arithmetic.specs.Places.{places}
use Rattle.elementary.specs.Power.{power_at}
use Rattle.atmosphere.specs.Station.{in_pressure_band, in_temperature_band, resolved_station_pressure, resolved_station_temperature}
use Rattle.arithmetic.specs.Ascii.{ascii}
use Rattle.questions.specs.Words.{place_in, line_parts}
use Rattle.questions.specs.Arguments.{number_or}
use Rattle.questions.specs.Forms.{fits, wrong_line}
use Rattle.lines.specs.Texts.{value_line, truth_line, option_line}
use Rattle.lines.specs.Source.{air_value, height_value}
use Rattle.lines.specs.Stations.{double, standard_answer, atmosphere_answer, resolved_answer, station_answer, plausibility_answer}
use Rattle.lines.specs.Rules.{log_answer, antilog_answer, root_answer}
use Rattle.lines.specs.Decimal.{decimal_answer}

-- ---- the functions, and the shapes of their arguments
unfoldable pub name_text : List ℕ
name_text =
    ascii "enhanced_saturation_vapor_pressure enhanced_enhancement_factor enhanced_compressibility_factor vapor_mole_fraction " ++
    ascii "capped_vapor_mole_fraction water_vapor_mole_fraction_uncapped moist_air_vapor_mole_fraction moist_molar_mass_ratio " ++
    ascii "calculate_air_density_cimp moist_sound_speed_at_mole_fraction moist_speed_of_sound " ++
    ascii "geometric_to_geopotential_height_m reduce_qnh_to_station_pressure nws_pressure_altitude_ft pressure_altitude_m " ++
    ascii "standard_pressure_altitude_m faa_rule_density_altitude_ft density_matched_altitude_m standard_altitude_above_tropopause_m " ++
    ascii "exp ln sqrt in_legacy_default_pressure_band in_legacy_default_temperature_band resolve_station_pressure " ++
    ascii "resolve_station_temperature calculate_icao_standard_atmosphere calculate_atmosphere " ++
    ascii "resolve_atmosphere_for_density_altitude station_for_density_altitude power log_word antilog root decimal " ++
    ascii "station_pressure_plausibility"

unfoldable pub shape_text : List ℕ
shape_text = ascii "x xx xxx xxxx x xxx xxx x xxx xx xxx x xx x x x xx xxx x x x x x x xx xx x xoox xo xo nx x ww ww nx xx"

abbrev pub function_names : List (List ℕ)
function_names = line_parts name_text

abbrev pub function_shapes : List (List ℕ)
function_shapes = line_parts shape_text

unfoldable pub unknown_line : List ℕ
unknown_line =
    ascii "unknown question: expected judge, strict, judge-values, strict-values, vote, class, counts, doubles, report, write, sheet, load, park, " ++
    ascii "power, log_word, antilog, exp, ln, sqrt, root, decimal or a function of the source\n"

-- ---- the answer of the function with a number, whose arguments fit
unfoldable pub value_answer : ℕ → List (List ℕ) → List ℕ
value_answer number ws =
    cond (ltb number 11) (value_line (air_value number (double ws 1) (double ws 2) (double ws 3) (double ws 4)))
    (value_line (height_value number (double ws 1) (double ws 2) (double ws 3)))

unfoldable pub reading_answer : ℕ → List (List ℕ) → List ℕ
reading_answer number ws =
    cond (eqb number 22) (truth_line (in_pressure_band (double ws 1)))
    (cond (eqb number 23) (truth_line (in_temperature_band (double ws 1)))
    (cond (eqb number 24) (option_line (resolved_station_pressure (double ws 1) (double ws 2))) (option_line (resolved_station_temperature (double ws 1) (double ws 2)))))

unfoldable pub power_answer : List (List ℕ) → List ℕ
power_answer ws = value_line (power_at places (number_or (get_or ws 1 [])) (double ws 2))

unfoldable pub other_answer : ℕ → List (List ℕ) → List ℕ
other_answer number ws =
    cond (eqb number 26) (standard_answer ws)
    (cond (eqb number 27) (atmosphere_answer ws)
    (cond (eqb number 28) (resolved_answer ws)
    (cond (eqb number 29) (station_answer ws)
    (cond (eqb number 30) (power_answer ws)
    (cond (eqb number 31) (log_answer ws)
    (cond (eqb number 32) (antilog_answer ws)
    (cond (eqb number 33) (root_answer ws)
    (cond (eqb number 34) (decimal_answer ws) (plausibility_answer ws)))))))))

unfoldable pub function_numbered : ℕ → List (List ℕ) → List ℕ
function_numbered number ws =
    cond (ltb number 22) (value_answer number ws) (cond (ltb number 26) (reading_answer number ws) (other_answer number ws))

-- ---- a line
abbrev pub numbered_function : ℕ → List (List ℕ) → List ℕ
numbered_function number ws =
    cond (ltb number 36)
    (cond (fits ws (get_or function_shapes number [])) (function_numbered number ws) (wrong_line (get_or function_names number []) (get_or function_shapes number [])))
    unknown_line

unfoldable pub function_answer : List ℕ → List ℕ
function_answer line = numbered_function (place_in function_names (get_or (line_parts line) 0 [])) (line_parts line)
