-- The figures of a report, a line each, and the mark in words, as bytes in ASCII. Definitions only.
use Rattle.std.specs.Prelude.{ℕ, Bool, true, false, List, ◌++◌}
use Rattle.refusal.specs.declared.judge.Figures.{Figures}
use Rattle.arithmetic.specs.Ascii.{ascii}
use Rattle.report.specs.Columns.{figure_line}

unfoldable pub station_lines : Figures → List ℕ
station_lines f =
    figure_line (ascii "altitude                ") 1 f.altitude_m (ascii " m\n") ++
    figure_line (ascii "temperature             ") 2 f.temperature_c (ascii " C\n") ++
    figure_line (ascii "station pressure        ") 3 f.pressure_hpa (ascii " hPa\n")

unfoldable pub air_lines : Figures → List ℕ
air_lines f =
    figure_line (ascii "density                 ") 4 f.density_kg_m3 (ascii " kg/m3, the reference for the trim table\n") ++
    figure_line (ascii "speed of sound          ") 1 f.speed_of_sound_mps (ascii " m/s\n") ++
    figure_line (ascii "pressure altitude       ") 1 f.pressure_altitude_m (ascii " m\n") ++
    figure_line (ascii "density-matched altitude") 1 f.density_matched_altitude_m (ascii " m\n") ++
    figure_line (ascii "vapour mole fraction    ") 6 f.vapor_mole_fraction (ascii " mol/mol\n")

abbrev pub mark_line : Bool → List ℕ
mark_line true = ascii "in the range for which CIPM-2007 states its formula\n"
mark_line false = ascii "outside the range for which CIPM-2007 states its formula\n"
