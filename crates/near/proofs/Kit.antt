-- The names that most proofs here use, of the kit, of the crates below and of the definitions, from one place. Nothing is defined here.
unfoldable pub use Rattle.arithmetic.proofs.CommonDenominator.{above, beneath}
pub use Rattle.arithmetic.proofs.Counts.{Small, le-of-sides, lt-of-sides, over, under}
unfoldable pub use Rattle.arithmetic.proofs.Kit.{add, climb, dec_le, div, eq, fits, is_nan, le, lt, mul, neg, odd, of_bits, of_fields, of_int, round, size, span, sub, sum, units}
pub use Rattle.arithmetic.proofs.Kit.{Bool, Float, List, T, [], ◌&&◌, ◌*◌, ◌+◌, ◌-◌, ◌/◌, ◌<◌, ◌^◌, ◌||◌, ◌∙◌, ◌∷◌, ◌≡◌, ◌≤◌, and_i, and_l, and_r, ap, ap₂, arith, binary64, cond, cond-fits, den, den_pos, div-fits, div-mul-le_self, down, down_pos, eqb, eqb·suc-zero, eqb→eq, false, fin, finite, inf, le_of_eq, le_of_mul-le-mul_right, le_refl, le_trans, leb, leb→le, lit<, lit≤, lt-div-mul-add, lt_of_not-le, ltb, ltb→lt, mul-fits, mul-le-mul_left, mul-le-mul_right, mul-pos, nan, num, one-le-pow, pos, positive, pow_pos, refl, round_same, sub-fits, subst, subst₂, suc, sym, true, true≢false, up, up_pos, zero, ℕ, ℤ}
pub use Rattle.arithmetic.proofs.Products.{div-rises, mul-by-rises, unlike_plus}
pub use Rattle.arithmetic.specs.Decimals.{decimal, hundred, nought, one}
unfoldable pub use Rattle.arithmetic.specs.Doubles.{abs_double}
pub use Rattle.arithmetic.specs.Doubles.{clamp_double}
pub use Rattle.arithmetic.specs.Fractions.{Fraction, ◌to_the◌}
pub use Rattle.arithmetic.specs.Nearest.{units_of}
pub use Rattle.arithmetic.specs.Operators.{◌⊕◌, ◌⊖◌, ◌⊗◌, ◌⊘◌}
pub use Rattle.arithmetic.specs.Places.{places}
unfoldable pub use Rattle.roots.specs.Root.{root, root_in}
unfoldable pub use Rattle.antilog.specs.Antilog.{antilog, antilog_root}
unfoldable pub use Rattle.antilog.specs.Log.{log_bits, word_of_units}
unfoldable pub use Rattle.elementary.specs.Exp.{exp}
pub use Rattle.elementary.specs.Exponents.{Exponent, of_double, pressure_exponent, troposphere_exponent}
unfoldable pub use Rattle.elementary.specs.Power.{power}
pub use Rattle.exact.proofs.Above.{Positive, is_above, normal-of, positive_of, positive-tested, positive-units}
pub use Rattle.exact.proofs.Exists.{above_zero, below-square, power-of, proper-product, proper-quotient, proper-sum, root-of}
pub use Rattle.exact.proofs.Kept.{clamp_kept, not_taken, taken, taken_or}
pub use Rattle.exact.proofs.NoFurther.{no_further}
pub use Rattle.exact.proofs.Parts.{in_parts, side}
pub use Rattle.exact.proofs.PowerTracks.{Power, PowerEnds, Window, base_bounds, exponent_of, power-exists, power_bounds, tracks-constant-power}
pub use Rattle.exact.proofs.Ranges.{ends, near_of, number_is, ranged, sides-of-le, times-assoc, tracks-between, tracks-itself, tracks_same, widen, wider}
unfoldable pub use Rattle.exact.proofs.Rounded.{N}
pub use Rattle.exact.proofs.Rounded.{N_pos, step_of}
pub use Rattle.exact.proofs.Sides.{inside, tracks-at_most, tracks-below, tracks-inside}
pub use Rattle.exact.proofs.Terms.{Term, ◌also◌, ◌at_least◌, ◌by◌, ◌minus◌, ◌plus◌, ◌times◌, analysed, as_double, as_exact, given, none, tracks}
pub use Rattle.exact.proofs.Tests.{all, item, test}
pub use Rattle.exact.proofs.Tracks.{Bounds, Tracks, div-near, mul-near, product_size, quotient_size, small}
unfoldable pub use Rattle.exact.specs.Exact.{◌÷◌, ◌⊞◌, ◌⊠◌, number, opposite, the}
pub use Rattle.exact.specs.Exact.{Exact, ◌⊟◌, is_not_above}
pub use Rattle.exact.specs.FunctionsNear.{Normal, e_below}
pub use Rattle.exact.specs.Near.{Between, IsNear, IsNearly}
pub use Rattle.exact.specs.Powers.{IsPower, IsRoot, of, positive_part}
pub use Rattle.refusal.specs.Outcomes.{Outcome, ◌⟫◌, accepted}
pub use Rattle.refusal.specs.declared.judge.Figures.{Figures}
pub use Rattle.humid_air.specs.Humidity.{density_mole_fraction, mole_fraction_kelvin}
unfoldable pub use Rattle.humid_air.specs.MoistAir.{air_density_at, compressibility_factor, mole_fraction}
pub use Rattle.humid_air.specs.MoistAir.{capped, divisor, enhancement_factor, ice_point, mole_fraction_of}
unfoldable pub use Rattle.humid_air.specs.Saturation.{saturation_pressure}
unfoldable pub use Rattle.atmosphere.specs.Layers.{layer_at, layer_pressure, layers, standard_air, standard_height}
pub use Rattle.atmosphere.specs.Layers.{base_height, geopotential_height, gradient_pressure, highest_height, isothermal, isothermal_pressure, layer_air, layer_temperature, lowest_height}
pub use Rattle.atmosphere.specs.declared.given.Reading.{Reading}
pub use Rattle.atmosphere.specs.declared.given.Reading.TheVariants.{FromLayer, Given}
unfoldable pub use Rattle.air.specs.Moist.{density_of}
unfoldable pub use Rattle.air.specs.Station.{atmosphere}
pub use Rattle.air.specs.Station.{celsius, hectopascals, kelvins, pascals}
pub use Rattle.record.specs.declared.entries.Readings.{Readings}
unfoldable pub use Rattle.station.specs.Figures.{figures_with}
pub use Rattle.station.specs.Figures.{figures_of, shown_pressure, shown_temperature}
unfoldable pub use Rattle.mast.specs.Judge.{judged}
pub use Rattle.mast.specs.Judge.{resolved, resolved_by}
unfoldable pub use Rattle.near.specs.Density.{exact_density}
pub use Rattle.near.specs.Near.{InScope, kelvin, pascal, vapour}
unfoldable pub use Rattle.near.specs.Saturation.{exact_log_ratio, reduced}
pub use Rattle.near.specs.Saturation.{Saturation, exact_saturation}
unfoldable pub use Rattle.near.specs.Troposphere.{exact_temperature, exponent, geopotential}
pub use Rattle.near.specs.Troposphere.{PressureRatio, exact_pressure}
