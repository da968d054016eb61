-- The functions that answer one double, by number. Definitions only.
use Rattle.std.specs.Prelude.{ℕ, cond, eqb, Float}
use Rattle.arithmetic.specs.Places.{places}
use Rattle.elementary.specs.Exp.{exp}
use Rattle.elementary.specs.Ln.{ln}
use Rattle.antilog.specs.Sqrt.{sqrt}
use Rattle.humid_air.specs.Saturation.{saturation_pressure}
use Rattle.humid_air.specs.MoistAir.{enhancement_factor, compressibility_factor, mole_fraction, capped, molar_mass_ratio}
use Rattle.humid_air.specs.Humidity.{mole_fraction_celsius, mole_fraction_kelvin, air_density}
use Rattle.humid_air.specs.Sound.{sound_speed_at, sound_speed}
use Rattle.atmosphere.specs.Layers.{geopotential_height}
use Rattle.atmosphere.specs.Station.{reduced_qnh}
use Rattle.atmosphere.specs.Altitudes.{nws_altitude, pressure_altitude, height_of_pressure, faa_density_altitude, height_of_ratio}
use Rattle.air.specs.Matched.{density_matched_altitude}

-- humid air
abbrev pub air_value : ℕ → Float → Float → Float → Float → Float
air_value n x y z v =
    cond (eqb n 0) (saturation_pressure places x)
    (cond (eqb n 1) (enhancement_factor x y)
    (cond (eqb n 2) (compressibility_factor x y z)
    (cond (eqb n 3) (mole_fraction x y z v)
    (cond (eqb n 4) (capped x)
    (cond (eqb n 5) (mole_fraction_celsius places x y z)
    (cond (eqb n 6) (mole_fraction_kelvin places x y z)
    (cond (eqb n 7) (molar_mass_ratio x)
    (cond (eqb n 8) (air_density places x y z)
    (cond (eqb n 9) (sound_speed_at x y) (sound_speed places x y z))))))))))

-- heights, pressures, and the functions of a number
abbrev pub height_value : ℕ → Float → Float → Float → Float
height_value n x y z =
    cond (eqb n 11) (geopotential_height x)
    (cond (eqb n 12) (reduced_qnh places x y)
    (cond (eqb n 13) (nws_altitude places x)
    (cond (eqb n 14) (pressure_altitude places x)
    (cond (eqb n 15) (height_of_pressure places x)
    (cond (eqb n 16) (faa_density_altitude places x y)
    (cond (eqb n 17) (density_matched_altitude places x y z)
    (cond (eqb n 18) (height_of_ratio places x)
    (cond (eqb n 19) (exp places x)
    (cond (eqb n 20) (ln places x) (sqrt x))))))))))
