-- The functions of the station that answer more than one double, by the words of their line. Definitions only.
use Rattle.std.specs.Prelude.{ℕ, List, [], ◌++◌, get_or, Float, Option, Some, None}
use Rattle.std.specs.Float.{binary64}
use Rattle.std.specs.Float.Ieee.{of_bits}
use Rattle.arithmetic.specs.Places.{places}
use Rattle.refusal.specs.Outcomes.{Outcome, accepted, refused}
use Rattle.refusal.specs.declared.inverse.Station.{Station}
use Rattle.atmosphere.specs.declared.layers.StandardAir.{StandardAir}
use Rattle.atmosphere.specs.declared.given.Reading.{Reading}
use Rattle.atmosphere.specs.declared.given.Reading.TheVariants as reading
use Rattle.atmosphere.specs.Layers.{standard_air}
use Rattle.atmosphere.specs.declared.plausibility.StationPressurePlausibility.{StationPressurePlausibility}
use Rattle.atmosphere.specs.Plausibility.{plausibility}
use Rattle.air.specs.declared.conditions.Air.{Air}
use Rattle.air.specs.Station.{atmosphere}
use Rattle.density_altitude.specs.Inverse.{resolve, station}
use Rattle.arithmetic.specs.Ascii.{ascii}
use Rattle.questions.specs.Forms.{given_in}
use Rattle.questions.specs.Arguments.{double_in}
use Rattle.lines.specs.Values.{value_text, refusal_values}
use Rattle.lines.specs.Texts.{pair_line, three_line, pair_truth_line}

-- ---- arguments: a reading that is absent is the layer's
abbrev pub option_of : Option ℕ → Reading
option_of (Some bits) = reading.Given (of_bits binary64 bits)
option_of None = reading.FromLayer

abbrev pub reading_in : List ℕ → Reading
reading_in w = option_of (given_in w)

abbrev pub double : List (List ℕ) → ℕ → Float
double ws i = double_in (get_or ws i [])

abbrev pub given : List (List ℕ) → ℕ → Reading
given ws i = reading_in (get_or ws i [])

-- ---- answers
abbrev pub standard_line : StandardAir → List ℕ
standard_line a = pair_line a.temperature_k a.pressure_pa

unfoldable pub standard_answer : List (List ℕ) → List ℕ
standard_answer ws = standard_line (standard_air places (double ws 1))

abbrev pub atmosphere_line : Air → List ℕ
atmosphere_line a = pair_line a.density_kg_m3 a.speed_of_sound_mps

unfoldable pub atmosphere_answer : List (List ℕ) → List ℕ
atmosphere_answer ws = atmosphere_line (atmosphere places (double ws 1) (given ws 2) (given ws 3) (double ws 4))

abbrev pub resolved_line : Station → List ℕ
resolved_line s = three_line s.altitude_m s.temperature_c s.pressure_hpa

unfoldable pub resolved_answer : List (List ℕ) → List ℕ
resolved_answer ws = resolved_line (resolve places (double ws 1) (given ws 2))

unfoldable pub accepted_line : Station → List ℕ
accepted_line s =
    ascii "accepted"
    ++ (ascii " " ++ value_text s.altitude_m)
    ++ (ascii " " ++ value_text s.temperature_c)
    ++ (ascii " " ++ value_text s.pressure_hpa)
    ++ ascii "\n"

abbrev pub inverse_line : Outcome Station → List ℕ
inverse_line (accepted s) = accepted_line s
inverse_line (refused number values) = refusal_values number values

unfoldable pub station_answer : List (List ℕ) → List ℕ
station_answer ws = inverse_line (station places (double ws 1) (given ws 2))

abbrev pub plausibility_line : StationPressurePlausibility → List ℕ
plausibility_line j = pair_truth_line j.icao_standard_pa j.«ratio» j.«implausible»

unfoldable pub plausibility_answer : List (List ℕ) → List ℕ
plausibility_answer ws = plausibility_line (plausibility places (double ws 1) (double ws 2))
