-- The names that most proofs here use, of the kit, of the crates below and of the definitions, from one place. Nothing is defined here.
pub use lib.Ieee.Positive.{first_pos, own_value, positive-finite, through, value_pos, value→cross}
pub use native.Mathlib.Nat.{le-max_left, le-max_right, le-suc, pow-zero}
unfoldable pub use Rattle.arithmetic.proofs.CommonDenominator.{above, beneath}
pub use Rattle.arithmetic.proofs.CommonDenominator.{at_most_lem}
pub use Rattle.arithmetic.proofs.Counts.{Small, le-of-sides, lt-of-sides, over, small-between, under}
pub use Rattle.arithmetic.proofs.Differences.{by_sign, floor_minus, minus-above, minus_plus, minus-same, minus-times}
unfoldable pub use Rattle.arithmetic.proofs.Kit.{add, climb, dec_le, div, eq, fits, is_nan, le, lt, mul, neg, odd, of_bits, of_fields, round, size, span, sub, units}
pub use Rattle.arithmetic.proofs.Kit.{Bool, Float, HasValue, List, T, [], ◌%◌, ◌&&◌, ◌*◌, ◌*ℤ◌, ◌+◌, ◌+ℤ◌, ◌-◌, ◌-ℤ◌, ◌/◌, ◌<◌, ◌^◌, ◌||◌, ◌∙◌, ◌∷◌, ◌≡◌, ◌≤◌, ◌⊎◌, add_assoc, add-mul, add-one, and_i, and_l, and_r, ap, ap₂, arith, binary64, closest, cond, cond-fits, den, den_pos, div-add-mod', div-lt_iff_lt-mul, div-mul-le_self, down, down_pos, eqb, eqb·suc-zero, eqb→eq, false, fin, finite, inf, inl, inr, is_true, kept, le-add_right, le-div_iff_mul-le, le_of_eq, le_of_lt, le_of_mul-le-mul_right, le_refl, le_trans, leb, leb→le, le→leb, lit<, lit≤, lt-div-mul-add, lt_of_le_of_lt, lt_of_lt_of_le, lt_of_mul-lt-mul_right, lt_of_not-le, ltb, ltb→lt, lt→ltb, minus, mod-lt, mul-add, mul_assoc, mul_comm, mul-le-mul, mul-le-mul_left, mul-le-mul_right, mul_left_comm, mul-lt-mul_of_pos_right, mul-one, mul-pos, mul_right_comm, mul-suc, nan, ne_of_gt, neg-fits, negsuc, neg_ℤ, nltb→le, not, not-le_of_lt, num, of_bits-fits, one-le-pow, one-mul, pos, positive, pow-add, pow-le-pow_left, pow-lt-pow_left, pow_mono, pow_pos, pow-suc, refl, round-fits, round_same, size-lt, size_reaches, subst, subst₂, suc, suc-mul, sym, true, up, up_pos, zero, zero-div, zero-le, zero-lt-suc, zero-mul, ℕ, ℤ}
pub use Rattle.arithmetic.proofs.Order.{count_of-le, le-trans-double, numbers-of-le, or_left, units-exact}
pub use Rattle.arithmetic.proofs.Powers.{far_one, le-of-powers, lt-of-exponents, lt-of-powers, lt-of-squares, pow-one, pow-power, pow-product, pow-scaled, two-each-le-next}
pub use Rattle.arithmetic.proofs.Strict.{less-of_not_le, not_le-of-less}
pub use Rattle.arithmetic.specs.Fractions.{Fraction, ◌is_at_most◌, ◌is_below◌, ◌to_the◌, exact_value, two_to_the}
pub use Rattle.arithmetic.specs.Nearest.{units_of}
pub use Rattle.arithmetic.specs.Whole.{floor_div, floor_mod, signed}
pub use Rattle.antilog.proofs.Distance.{NearLog, log_bits-above, log_bits-below, near_log}
unfoldable pub use Rattle.antilog.specs.Antilog.{antilog, antilog_root}
unfoldable pub use Rattle.antilog.specs.Log.{log_bits, word_of_units}
pub use Rattle.antilog.specs.Log.{log_word}
pub use Rattle.elementary.proofs.Rises.{power-fits, power-rises}
unfoldable pub use Rattle.elementary.specs.Exp.{exp}
pub use Rattle.elementary.specs.Exp.{exp_bottom, exp_top, exp_within, floor_scaled, log2e}
unfoldable pub use Rattle.elementary.specs.Exponents.{exponents}
pub use Rattle.elementary.specs.Exponents.{Exponent, exponent_at}
unfoldable pub use Rattle.elementary.specs.Ln.{ln}
pub use Rattle.elementary.specs.Ln.{ln2}
unfoldable pub use Rattle.elementary.specs.Power.{power, power_at}
unfoldable pub use Rattle.exact.specs.Exact.{◌÷◌, ◌⊞◌, ◌⊠◌, number, opposite, the}
pub use Rattle.exact.specs.Exact.{Exact, ◌⊟◌, is_not_above}
pub use Rattle.exact.specs.FunctionsNear.{InBounds, LnWithin, Normal, ◌times◌, at_least, at_most, e_above, e_below, inverse, less, more, raised, raised_by}
pub use Rattle.exact.specs.Near.{Between, IsFar, IsNear, IsNearly}
pub use Rattle.exact.specs.Powers.{IsPower, IsRoot, of, positive_part}
