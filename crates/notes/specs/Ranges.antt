-- The notes on a temperature and an altitude outside the range over which the figures were compared with the source. t in °C, h in m. Definitions only.
use Rattle.std.specs.Prelude.{ℕ, Bool, ◌&&◌, ◌||◌, List, [], ◌∷◌, ◌++◌, Float, Option, unwrap_or, is_some}
use Rattle.std.specs.Float.Ieee.{lt, le}
use Rattle.arithmetic.specs.Ascii.{ascii}
use Rattle.arithmetic.specs.Decimals.{decimal, nought}
use Rattle.arithmetic.specs.Operators.{◌⊖◌, ◌⊗◌, ◌⊘◌}
use Rattle.decimals.specs.Shown.{shown}
use Rattle.refusal.specs.declared.judge.Figures.{Figures}
use Rattle.notes.specs.declared.given.Given.{Given}
use Rattle.notes.specs.Words.{Note, note, figured}

-- ---- -40 to 50 °C, -500 to 5,000 m, ends included
unfoldable pub is_compared_temperature : Float → Bool
is_compared_temperature t = le (decimal "-40") t && le t (decimal "50")

unfoldable pub is_compared_altitude : Float → Bool
is_compared_altitude h = le (decimal "-500") h && le h (decimal "5000")

unfoldable pub is_outside_temperatures : Float → Bool
is_outside_temperatures t = lt t (decimal "-40") || lt (decimal "50") t

unfoldable pub is_outside_altitudes : Float → Bool
is_outside_altitudes h = lt h (decimal "-500") || lt (decimal "5000") h

-- ---- temperature-range, try-fahrenheit, try-kelvin
unfoldable pub temperature_notes : Given → Float → List Note
temperature_notes g t =
    let typed = unwrap_or g.temperature_c nought in
    note (is_outside_temperatures t)
    (figured "note: " 3 t " C is outside -40 to 50 C, over which the figures were compared with the source\n") ∷
    note (is_outside_temperatures t && is_some g.temperature_c && is_compared_temperature ((typed ⊖ decimal "32") ⊗ decimal "5" ⊘ decimal "9"))
    (figured "try: temperature=" 3 typed "F if it is in degrees Fahrenheit\n") ∷
    note (is_outside_temperatures t && is_some g.temperature_c && is_compared_temperature (typed ⊖ decimal "273.15"))
    (figured "try: temperature=" 3 typed "K if it is in kelvins\n") ∷ []

-- ---- altitude-range, try-altitude-feet
-- an altitude, where it is given, that would lie in the range as feet
unfoldable pub is_in_feet : Option Float → Bool
is_in_feet m = is_some m && is_compared_altitude (decimal "0.3048" ⊗ unwrap_or m nought)

unfoldable pub feet_line : List ℕ → Option Float → List ℕ
feet_line before m = before ++ shown 3 (unwrap_or m nought) ++ ascii "ft if it is in feet\n"

unfoldable pub altitude_notes : Given → Float → List Note
altitude_notes g h =
    note (is_outside_altitudes h)
    (figured "note: " 1 h " m is outside -500 to 5000 m, over which the figures were compared with the source\n") ∷
    note (is_outside_altitudes h && is_in_feet g.altitude_m)
    (feet_line (ascii "try: altitude=") g.altitude_m) ∷
    note (is_outside_altitudes h && is_in_feet g.density_altitude_m)
    (feet_line (ascii "try: density-altitude=") g.density_altitude_m) ∷ []

unfoldable pub range_notes : Given → Figures → List Note
range_notes g f = temperature_notes g f.temperature_c ++ altitude_notes g f.altitude_m
