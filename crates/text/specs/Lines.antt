-- The lines of an answer's text: `station` and the first three figures, then on a second line `air` and the other five, each as the double's 16 hex digits,
-- and the mark, 0 or 1, a blank before each. Definitions only.
use Rattle.std.specs.Prelude.{ℕ, Bool, cond, List, ◌++◌, Float}
use Rattle.std.specs.Float.{binary64}
use Rattle.std.specs.Float.Ieee.{to_bits}
use Rattle.refusal.specs.declared.judge.Figures.{Figures}
use Rattle.arithmetic.specs.Ascii.{ascii}
use Rattle.pages.specs.Characters.{hex_digits}

abbrev pub double_cell : Float → List ℕ
double_cell x = ascii " " ++ hex_digits 16 (to_bits binary64 x)

abbrev pub mark_cell : Bool → List ℕ
mark_cell mark = cond mark (ascii " 1") (ascii " 0")

unfoldable pub station_line : Figures → List ℕ
station_line f = ascii "station" ++ double_cell f.altitude_m ++ double_cell f.temperature_c ++ double_cell f.pressure_hpa ++ ascii "\n"

unfoldable pub air_line : Figures → List ℕ
air_line f =
    ascii "air"
    ++ double_cell f.density_kg_m3
    ++ double_cell f.speed_of_sound_mps
    ++ double_cell f.pressure_altitude_m
    ++ double_cell f.density_matched_altitude_m
    ++ double_cell f.vapor_mole_fraction
    ++ mark_cell f.in_cipm_range
    ++ ascii "\n"
