-- The standard temperature and pressure are near the exact ones from -500 to 11,000 m, in three parts. Assumes nothing.
use Rattle.near.proofs.Kit.{T, lit≤, Float, span, climb, size, odd, units, round, of_fields, of_bits, neg, mul, div, lt, eq, le, fits, decimal, above, beneath, root, root_in, log_bits, word_of_units, antilog_root, antilog, power, ◌⊠◌, ◌÷◌, the, ◌⊟◌, number, Between, IsNear, N, all, no_further, side, exponent, PressureRatio, exact_pressure, exact_temperature, Window, PowerEnds, FromLayer, celsius, hectopascals, places, standard_air}
use Rattle.near.proofs.StandardTerms.{pressure_power}
use Rattle.near.proofs.StandardPart.{Near, Ordinary, tests, ordinary-tests, standard_near, ordinary}

-- a geometric altitude below the tropopause
abbrev pub Low : Float → Type 0
Low = Between (decimal "-500") (decimal "11000")

abbrev window_1 : Window
window_1 = record { c = 1; lo = decimal "0.9887"; hi = decimal "1.0113"; error = 676; bottom = decimal "0.94"; top = decimal "1.0609" }

abbrev window_2 : Window
window_2 = record { c = 3; lo = decimal "0.8872"; hi = decimal "0.9888"; error = 653; bottom = decimal "0.53"; top = decimal "0.943" }

abbrev window_3 : Window
window_3 = record { c = 6; lo = decimal "0.752"; hi = decimal "0.8875"; error = 683; bottom = decimal "0.22"; top = decimal "0.5341" }

ends : PowerEnds pressure_power window_1 × PowerEnds pressure_power window_2 × PowerEnds pressure_power window_3
unfolding power antilog antilog_root root root_in word_of_units log_bits round units size span climb odd of_fields of_bits le lt eq neg mul div
ends = (record { least = tt; most = tt }, record { least = tt; most = tt }, record { least = tt; most = tt })

passed : T (all (tests (decimal "-500") (decimal "500") window_1)) × T (all (tests (decimal "500") (decimal "5000") window_2)) × T (all (tests (decimal "5000") (decimal "11000") window_3))
unfolding exponent ◌⊠◌ ◌÷◌ N above beneath the span climb size odd units round of_fields of_bits neg mul div fits le lt eq
passed = (tt, tt, tt)

pub near : (h : Float) → Low h → Near h
unfolding of_bits le lt eq
near h =
    side h (decimal "-500") (decimal "500") (decimal "11000") tt (standard_near (decimal "-500") (decimal "500") window_1 passed.0 ends.0 h)
    (side h (decimal "500") (decimal "5000") (decimal "11000") tt (standard_near (decimal "500") (decimal "5000") window_2 passed.1 ends.1 h) (standard_near (decimal "5000") (decimal "11000") window_3 passed.2 ends.2 h))

-- up to 5,000 m what is shown lies from -40 to 50 °C and from 500 to 1,100 hPa
ordinary-passed : T (all (ordinary-tests (decimal "-500") (decimal "500") window_1)) × T (all (ordinary-tests (decimal "500") (decimal "5000") window_2))
unfolding exponent ◌⊠◌ ◌÷◌ N above beneath the span climb size odd units round of_fields of_bits neg mul div fits le lt eq
ordinary-passed = (tt, tt)

near-ordinary : (h : Float) → Between (decimal "-500") (decimal "5000") h → Ordinary h
unfolding of_bits le lt eq
near-ordinary h =
    side h (decimal "-500") (decimal "500") (decimal "5000") tt (λ r. ordinary (decimal "-500") (decimal "500") window_1 passed.0 ends.0 h r ordinary-passed.0) (λ r. ordinary (decimal "500") (decimal "5000") window_2 passed.1 ends.1 h r ordinary-passed.1)

pub record StandardNear : Type 0 where
  -- 2 ^ -42 K is 2.3e-13 K
  pub kelvins : (h : Float) → Low h → IsNear 42 (standard_air places h).temperature_k (exact_temperature (number h))
  -- 2 ^ -31 Pa is 4.7e-10 Pa
  pub pascals : (h : Float) → Low h → (p : PressureRatio (number h)) → IsNear 31 (standard_air places h).pressure_pa (exact_pressure p)
  -- as it is shown, in °C
  pub degrees : (h : Float) → Low h → IsNear 42 (celsius places h FromLayer) (exact_temperature (number h) ⊟ the "273.15")
  -- as it is shown, in hPa: 2 ^ -37 hPa is 7.3e-12 hPa
  pub shown_pressure_lem : (h : Float) → Low h → (p : PressureRatio (number h)) → IsNear 37 (hectopascals places h FromLayer) (exact_pressure p ÷ the "100")
  -- up to 5,000 m what is shown lies in the ranges that document 01 names
  pub degrees-in_range : (h : Float) → Between (decimal "-500") (decimal "5000") h → Between (decimal "-40") (decimal "50") (celsius places h FromLayer)
  pub pressure-in_range : (h : Float) → Between (decimal "-500") (decimal "5000") h → Between (decimal "500") (decimal "1100") (hectopascals places h FromLayer)
  -- there are such fractions
  pub ratios : (h : Float) → Low h → PressureRatio (number h)

pub standard_air-near : StandardNear
standard_air-near =
    record {
      kelvins = λ h r. no_further _ 42 _ _ (lit≤ tt) (near h r).temperature-near;
      pascals = λ h r p. no_further _ 31 _ _ (lit≤ tt) ((near h r).pressure-near p);
      degrees = λ h r. no_further _ 42 _ _ (lit≤ tt) (near h r).celsius-near;
      shown_pressure_lem = λ h r p. no_further _ 37 _ _ (lit≤ tt) ((near h r).hectopascals-near p);
      degrees-in_range = λ h r. (near-ordinary h r).ordinary-celsius;
      pressure-in_range = λ h r. (near-ordinary h r).ordinary-hectopascals;
      ratios = λ h r. (near h r).ratio-exists;
    }
