-- The figures of a station's air: what is shown of its readings, t in °C and p in hPa, the air of the readings, and of what is shown the mole fraction of vapour
-- and the density-matched altitude. The altitude is in m, the humidity h in percent; `places` is the number of places of exp, ln and power. Definitions only.
use Rattle.std.specs.Prelude.{ℕ, Float}
use Rattle.humid_air.specs.Humidity.{mole_fraction_celsius}
use Rattle.atmosphere.specs.declared.given.Reading.{Reading}
use Rattle.air.specs.declared.figures.AirFigures.{AirFigures}
use Rattle.air.specs.Station.{celsius, hectopascals, atmosphere}
use Rattle.air.specs.Matched.{density_matched_altitude}

abbrev pub air_figures : ℕ → Float → Reading → Reading → Float → AirFigures
air_figures places altitude temperature pressure h =
    let t = celsius places altitude temperature in
    let p = hectopascals places altitude pressure in
    record {
      shown_c = t;
      shown_hpa = p;
      air = atmosphere places altitude temperature pressure h;
      uncapped_vapor_mole_fraction = mole_fraction_celsius places t p h;
      density_matched_altitude_m = density_matched_altitude places t p h;
    }
