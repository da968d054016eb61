-- The eight figures of a station and their mark: what is shown of what is resolved, and the figures of it. Temperatures in °C, pressures in hPa, altitudes
-- in m, humidities in percent. Definitions only.
use Rattle.std.specs.Prelude.{Bool, ◌&&◌, Float}
use Rattle.std.specs.Float.Ieee.{le}
use Rattle.arithmetic.specs.Places.{places}
use Rattle.arithmetic.specs.Decimals.{decimal, nought}
use Rattle.arithmetic.specs.Doubles.{is_finite, is_finite_above}
use Rattle.humid_air.specs.Humidity.{mole_fraction_celsius}
use Rattle.atmosphere.specs.declared.given.Reading.{Reading}
use Rattle.atmosphere.specs.Altitudes.{pressure_altitude}
use Rattle.air.specs.Station.{celsius, hectopascals, atmosphere}
use Rattle.air.specs.Matched.{density_matched_altitude}
use Rattle.refusal.specs.declared.judge.Figures.{Figures}
use Rattle.station.specs.declared.figures.StationFigures.{StationFigures}
use Rattle.station.specs.declared.resolved.Resolved.{Resolved}

-- ---- what is shown: what is absent or a default comes from the standard atmosphere
abbrev pub shown_celsius : Reading → Float → Float
shown_celsius t altitude = celsius places altitude t

abbrev pub shown_temperature : Resolved → Float
shown_temperature a = shown_celsius a.temperature a.altitude_m

abbrev pub shown_hectopascals : Reading → Float → Float
shown_hectopascals p altitude = hectopascals places altitude p

abbrev pub shown_pressure : Resolved → Float
shown_pressure a = shown_hectopascals a.pressure a.altitude_m

-- ---- the range that CIPM-2007 states, ends included: 15 to 27 °C and 600 to 1,100 hPa
abbrev pub in_cipm_range : Float → Float → Bool
in_cipm_range t p = le (decimal "15") t && le t (decimal "27") && le (decimal "600") p && le p (decimal "1100")

-- ---- the figures: density, sound speed and the density's mole fraction are `calculate_atmosphere`'s; the two altitudes are those of what is shown, t and
-- p, and of the humidity; and the mark is that of what is shown
unfoldable pub figures_with : Resolved → Float → Float → Figures
figures_with a t p =
    let air = atmosphere places a.altitude_m a.temperature a.pressure a.humidity_percent in
    record {
      altitude_m = a.altitude_m;
      temperature_c = t;
      pressure_hpa = p;
      density_kg_m3 = air.density_kg_m3;
      speed_of_sound_mps = air.speed_of_sound_mps;
      pressure_altitude_m = pressure_altitude places p;
      density_matched_altitude_m = density_matched_altitude places t p a.humidity_percent;
      vapor_mole_fraction = air.vapor_mole_fraction;
      in_cipm_range = in_cipm_range t p;
    }

abbrev pub figures_of : Resolved → Figures
figures_of a = figures_with a (shown_temperature a) (shown_pressure a)

-- and beside them `water_vapor_mole_fraction_uncapped` of what is shown and the humidity
abbrev pub station_figures_with : Resolved → Float → Float → StationFigures
station_figures_with a t p = record { figures = figures_with a t p; uncapped_vapor_mole_fraction = mole_fraction_celsius places t p a.humidity_percent }

abbrev pub station_figures : Resolved → StationFigures
station_figures a = station_figures_with a (shown_temperature a) (shown_pressure a)

-- all finite, and pressure, density and sound speed above 0
abbrev pub is_air : Figures → Bool
is_air f =
    is_finite f.altitude_m
    && is_finite f.temperature_c
    && is_finite_above nought f.pressure_hpa
    && is_finite_above nought f.density_kg_m3
    && is_finite_above nought f.speed_of_sound_mps
    && is_finite f.pressure_altitude_m
    && is_finite f.density_matched_altitude_m
    && is_finite f.vapor_mole_fraction
