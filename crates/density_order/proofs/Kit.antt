-- The names that most proofs here use, of the kit, of the crates below and of the definitions, from one place. Nothing is defined here.
unfoldable pub use Rattle.arithmetic.proofs.Kit.{add, div, fits, le, lt, mul, neg, of_bits, sub}
pub use Rattle.arithmetic.proofs.Kit.{Bool, Float, List, T, Val, ◌&&◌, ◌*◌, ◌+◌, ◌-◌, ◌^◌, ◌∙◌, ◌≡◌, ◌≤◌, and_i, and_l, and_r, ap, arith, binary64, div-fits, false, fin, finite, inf, lit<, lit≤, mul-fits, nan, rules, negsuc, not, of_bits-fits, pos, positive, refl, sub-fits, subst, subst₂, suc, sym, true, zero, ℕ, ℤ}
pub use Rattle.arithmetic.proofs.Order.{count_of-le, le-trans-double, numbers-of-le, zero-below}
pub use Rattle.arithmetic.specs.Decimals.{decimal, nought, one}
unfoldable pub use Rattle.arithmetic.specs.Doubles.{is_finite}
pub use Rattle.arithmetic.specs.Doubles.{is_finite_above}
pub use Rattle.arithmetic.specs.Operators.{◌⊖◌, ◌⊗◌, ◌⊘◌}
pub use Rattle.arithmetic.specs.Places.{places}
unfoldable pub use Rattle.elementary.specs.Power.{power}
pub use Rattle.refusal.specs.Outcomes.{Outcome, accepted, refused}
pub use Rattle.refusal.specs.declared.inverse.Station.{Station}
pub use Rattle.atmosphere.specs.Altitudes.{faa_density_altitude, foot, nws_feet}
pub use Rattle.atmosphere.specs.declared.given.Reading.{Reading}
pub use Rattle.atmosphere.specs.declared.given.Reading.TheVariants.{FromLayer, Given}
pub use Rattle.density_altitude.proofs.Figures.{Corrected, altitude-rises, base-falls, corrected-finite, correction-rises, pressure_altitude-falls, pressure_altitude-fits, pressure_altitude-rises, pressure-falls, temperature-falls}
unfoldable pub use Rattle.density_altitude.specs.Inverse.{station}
pub use Rattle.density_altitude.specs.Inverse.{absolute_zero, correction, has_air, nws_base, nws_pressure, nws_reciprocal, pressure_altitude_feet, resolve, station_celsius, station_rows, station_with}
pub use Rattle.density_order.specs.Order.{Accepted, Demand₃, InOrder, InRange, NoneGiven, OneMetreApart, Strictly, Temperate, TwoInOrder}
pub use Rattle.density_order.specs.Warmer.{FaaNeverFalls, InBetween, Lower, WarmerMeansLower}
