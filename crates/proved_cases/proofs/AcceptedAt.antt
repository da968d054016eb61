-- Density altitudes and temperatures that the inverse accepts: demand 3 and request K8 are asked of them. Each computes. Assumes nothing.
use Rattle.arithmetic.proofs.Kit.{Float, of_bits, neg, add, sub, mul, div, lt, le}
use Rattle.arithmetic.specs.Places.{places}
use Rattle.arithmetic.specs.Decimals.{decimal}
use Rattle.antilog.specs.Log.{word_of_units}
use Rattle.antilog.specs.Antilog.{antilog_root}
use Rattle.elementary.specs.Exponents.{exponents}
use Rattle.elementary.specs.Power.{power, power_at}
use Rattle.arithmetic.specs.Doubles.{abs_double, is_finite}
use Rattle.atmosphere.specs.declared.given.Reading.{Reading}
use Rattle.atmosphere.specs.declared.given.Reading.TheVariants.{Given, FromLayer}
use Rattle.atmosphere.specs.Layers.{standard_air}
use Rattle.density_altitude.specs.Inverse.{station}
use Rattle.density_order.specs.Order.{Accepted}

abbrev AcceptedAt : Float → Reading → Type 0
AcceptedAt d t = Accepted (station places d t)

-- ---- with none given
pub lowest : AcceptedAt (decimal "-5e62") FromLayer
unfolding of_bits neg add sub mul div lt le word_of_units antilog_root exponents power power_at abs_double is_finite standard_air station
lowest = tt

pub highest : AcceptedAt (decimal "44283") FromLayer
unfolding of_bits neg add sub mul div lt le word_of_units antilog_root exponents power power_at abs_double is_finite standard_air station
highest = tt

-- ---- with 15 °C
pub lowest-at_15 : AcceptedAt (decimal "-6e62") (Given (decimal "15"))
unfolding of_bits neg add sub mul div lt le word_of_units antilog_root exponents power power_at abs_double is_finite standard_air station
lowest-at_15 = tt

pub sea_level-at_15 : AcceptedAt (decimal "0") (Given (decimal "15"))
unfolding of_bits neg add sub mul div lt le word_of_units antilog_root exponents power power_at abs_double is_finite standard_air station
sea_level-at_15 = tt

pub highest-at_15 : AcceptedAt (decimal "54852") (Given (decimal "15"))
unfolding of_bits neg add sub mul div lt le word_of_units antilog_root exponents power power_at abs_double is_finite standard_air station
highest-at_15 = tt

-- ---- at 0 m
pub coldest : AcceptedAt (decimal "0") (Given (decimal "-273.1499999999999"))
unfolding of_bits neg add sub mul div lt le word_of_units antilog_root exponents power power_at abs_double is_finite standard_air station
coldest = tt

pub hottest : AcceptedAt (decimal "0") (Given (decimal "1e55"))
unfolding of_bits neg add sub mul div lt le word_of_units antilog_root exponents power power_at abs_double is_finite standard_air station
hottest = tt
