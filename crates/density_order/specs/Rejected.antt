-- What demand 3 and request K8 reject. Of demand 3, document 01's part c: wrong inverses at the very edges of the promise, and answers that break one part
-- of it. A narrower range of heights or temperatures, a greater distance, a weaker relation or a part left out would let one of them pass. Of K8: answers
-- that break one part, and that nothing strict can be promised. Definitions only.
use Rattle.std.specs.Prelude.{◌≡◌, [], ◌∷◌, Float}
use Prim.Native.String.{String}
use Rattle.arithmetic.specs.Places.{places}
use Rattle.arithmetic.specs.Decimals.{decimal}
use Rattle.arithmetic.specs.Operators.{◌⊖◌}
use Rattle.atmosphere.specs.declared.given.Reading.{Reading}
use Rattle.atmosphere.specs.declared.given.Reading.TheVariants.{Given, FromLayer}
use Rattle.refusal.specs.declared.inverse.Station.{Station}
use Rattle.refusal.specs.Outcomes.{Outcome, accepted, refused}
use Rattle.atmosphere.specs.Altitudes.{faa_density_altitude}
use Rattle.density_altitude.specs.Inverse.{station}
use Rattle.density_order.specs.Order.{altitude_found, pressure_found, Demand₃}
use Rattle.density_order.specs.Warmer.{WarmerMeansLower, FaaNeverFalls}

-- an answer's altitude in m, temperature in °C and pressure in hPa
abbrev pub air_at : Float → Float → Float → Outcome Station
air_at altitude celsius hPa = accepted (record { altitude_m = altitude; temperature_c = celsius; pressure_hpa = hPa })

-- ---- wrong inverses
-- the echo: the height that was asked about, with 15 °C and 1013.25 hPa
abbrev pub echo : Float → Reading → Outcome Station
echo d t = air_at d (decimal "15") (decimal "1013.25")

-- one set of air for all
abbrev pub one_air : Float → Reading → Outcome Station
one_air d t = air_at (decimal "0") (decimal "15") (decimal "1013.25")

-- the height left at 0 m, in air that thins with d
abbrev pub height_left : Float → Reading → Outcome Station
height_left d t = air_at (decimal "0") (decimal "15") (decimal "1013.25" ⊖ d)

-- demand 3 of an inverse's answers is false at both ends of the heights and of the temperatures, 1 m apart, and with none given
abbrev FalseAt : (Float → Reading → Outcome Station) → Reading → Float → Float → Type 0
FalseAt inverse t d₁ d₂ = Demand₃ t d₁ d₂ (inverse d₁ t) (inverse d₁ t) (inverse d₂ t) → ⊥

pub record RejectedAtTheEdges (inverse : Float → Reading → Outcome Station) : Type 0 where
  pub low_and_cold : FalseAt inverse (Given (decimal "-40")) (decimal "-500") (decimal "-499")
  pub high_and_hot : FalseAt inverse (Given (decimal "50")) (decimal "2999") (decimal "3000")
  pub low_none_given : FalseAt inverse FromLayer (decimal "-500") (decimal "-499")
  pub high_none_given : FalseAt inverse FromLayer (decimal "2999") (decimal "3000")

-- ---- answers at 0 m, 15 °C and 1000 hPa, and with one of the three figures greater
abbrev plain : Outcome Station
plain = air_at (decimal "0") (decimal "15") (decimal "1000")

abbrev higher : Outcome Station
higher = air_at (decimal "1") (decimal "15") (decimal "1000")

abbrev hotter : Outcome Station
hotter = air_at (decimal "0") (decimal "16") (decimal "1000")

abbrev denser : Outcome Station
denser = air_at (decimal "0") (decimal "15") (decimal "1001")

abbrev no_air : Outcome Station
no_air = refused 4 (decimal "0" ∷ decimal "0" ∷ [])

-- three answers that demand 3 is false of, at one density altitude, where nothing has to be strict, and with none given
abbrev FalseOf : Outcome Station → Outcome Station → Outcome Station → Type 0
FalseOf a₁ a a₂ = Demand₃ FromLayer (decimal "0") (decimal "0") a₁ a a₂ → ⊥

pub record Rejected : Type 0 where
  pub echoes : RejectedAtTheEdges echo
  pub one_for_all : RejectedAtTheEdges one_air
  pub heights_left : RejectedAtTheEdges height_left
  pub refused_between : FalseOf plain no_air plain
  pub altitude_falls_to : FalseOf higher plain higher
  pub altitude_falls_from : FalseOf plain higher plain
  pub pressure_rises_to : FalseOf plain denser plain
  pub pressure_rises_from : FalseOf denser plain denser
  pub temperature_rises_to : FalseOf plain hotter plain
  pub temperature_rises_from : FalseOf hotter plain hotter

-- ---- request K8
-- three answers that it is false of, at one temperature and from the least double to the greatest
abbrev least : Float
least = decimal "-1.7976931348623157e308"

abbrev greatest : Float
greatest = decimal "1.7976931348623157e308"

abbrev pub FalseWarmed : Outcome Station → Outcome Station → Outcome Station → Type 0
FalseWarmed a₁ a a₂ = (WarmerMeansLower (decimal "0") (decimal "0") (decimal "0") a₁ a a₂ → ⊥) × (WarmerMeansLower least (decimal "0") greatest a₁ a a₂ → ⊥)

-- nothing strict: from 0 °C to the least double above it no figure at 0 m moves, nor does the FAA's at 1013.25 hPa from 0 °F
abbrev warmed : String → Outcome Station
warmed t = station places (decimal "0") (Given (decimal t))

abbrev faa : String → Float
faa t = faa_density_altitude places (decimal "1013.25") (decimal t)

pub record RejectedByWarmth : Type 0 where
  pub refused_between : FalseWarmed plain no_air plain
  pub altitude_rises_to : FalseWarmed plain higher plain
  pub altitude_rises_from : FalseWarmed higher plain higher
  pub pressure_falls_to : FalseWarmed denser plain denser
  pub pressure_falls_from : FalseWarmed plain denser plain
  pub faa_falls : FaaNeverFalls (decimal "0") least greatest (decimal "1") (decimal "0") → ⊥
  pub faa_falls_at_one_temperature : FaaNeverFalls greatest (decimal "0") (decimal "0") (decimal "1") (decimal "0") → ⊥
  pub altitude_stays : altitude_found (warmed "5e-324") ≡ altitude_found (warmed "0")
  pub pressure_stays : pressure_found (warmed "5e-324") ≡ pressure_found (warmed "0")
  pub faa_stays : faa "5e-324" ≡ faa "0"
