-- The kit's names that the proofs use most, from one place. Nothing is defined here.
pub use Prim.Native.Nat.{◌%◌, ◌*◌, ◌+◌, ◌-◌, ◌/◌, ◌<◌, ◌^◌, ◌≤◌, min, suc, suc-le-suc, zero, zero-le, ℕ}
pub use borrow.Author.Rules.{rules}
pub use borrow.Author.Tests.{eq-eqb, eqb-false, eqb-true, le-leb, le-ltb, leb-false, leb-true, lt-leb, lt-ltb, ltb-false, ltb-true, ne_eqb, not-false, not-true}
pub use lib.Arith.{digits_div, digits_lt, le→nltb}
unfoldable pub use lib.Count.{count_leading_zeros}
pub use lib.Count.{leading_top}
pub use lib.Dec.{T, eqb, eqb-suc-zero as eqb·suc-zero, eqb→eq, leb, leb→le, le→leb, lit<, lit≤, ltb, ltb→lt, lt→ltb, nleb→lt, nltb→le}
unfoldable pub use lib.Ieee.{add, climb, div, eq, fits, is_nan, le, lt, mul, nan_bits, ne, neg, odd, of_bits, of_fields, of_int, round, size, span, sub, sum, to_bits, units}
pub use lib.Ieee.{Float, binary64, down, fin, inf, minus, nan, up}
pub use lib.Ieee.Bits.{is_false, is_true, of_bits-fits, of_bits-to_bits}
pub use lib.Ieee.Compare.{differs_from_itself}
pub use lib.Ieee.Digits.{size-le, size-lt, size_reaches}
pub use lib.Ieee.Exact.{HasValue}
pub use lib.Ieee.Fits.{and_i, and_l, and_r, cond-fits, div-fits, down_pos, mul-fits, neg-fits, round-fits, sub-fits, up_pos}
pub use lib.Ieee.Nearest.{closest}
pub use lib.Ieee.Order.{kept, round_mono}
pub use lib.Ieee.Positive.{den, den_pos, num, positive}
pub use lib.Ieee.Scale.{finite, round_same}
pub use lib.IntN.{◌*ℤ◌, ◌+ℤ◌, ◌-ℤ◌, negsuc, neg_ℤ, pos, ℤ}
pub use lib.ListN.{get_or-eq_default as List·getD-eq-default, drop, drop_of_length-le, get_or, length, length-append, length-drop, length-replicate, length-set, length-take, replicate, set, take, take-append-drop}
pub use lib.Pow.{pow-add, pow-lt, pow_mono, pow_pos, shl_exact, shl_lt}
pub use lib.Seq.{drop-cons, drop-drop, get_or-drop, length-take-le, sets, take_all, take_at, take-length}
pub use lib.Signed.{◌≤ℤ◌, ≤ℤ_refl}
pub use mathlib.Core.Bool.{Bool, ◌&&◌, ◌||◌, cond, false, false≢true, not, true, true≢false}
unfoldable pub use mathlib.Core.List.{flat_map}
pub use mathlib.Core.List.{List, Memᴰ as List-as-Memᴰ, [], ◌++◌, ◌∷◌, append_assoc, append-nil, map}
pub use mathlib.Core.Logic.{◌≢◌, ◌⊎◌, inl, inr, ⊎_elim}
pub use mathlib.Core.Path.{◌∙◌, ◌≡◌, ap, ap₂, refl, subst, subst₂, sym}
pub use mir.Syntax.{named, w32, w64}
pub use mir.Val.{SFits, Val, of_z, to_z}
pub use mir.ValLaws.{to_z-of_z}
unfoldable pub use native.Mathlib.Decide.{dec_le}
pub use native.Mathlib.Nat.{add_assoc, add_comm, add-mul, add-zero, div-add-mod', div-div-eq-div-mul, div-eq_of_lt, div-lt_iff_lt-mul, div-mul-le_self, div-one, eq-or-lt_of_le, le-add_right, le_antisymm, le-div_iff_mul-le, le_of_eq, le_of_lt, le_of_mul-le-mul_right, le_of_suc-le-suc, le_refl, le_trans, lt-div-mul-add, lt_of_le_of_lt, lt_of_lt_of_le, lt_of_mul-lt-mul_right, lt_of_not-le, lt-suc_self, min-eq_left, min-eq_right, mod-eq_of_lt, mod-lt, mul-add, mul-add-mod_self_right, mul_assoc, mul_comm, mul-div_cancel, mul-div-mul_right, mul-le-mul, mul-le-mul_left, mul-le-mul_right, mul_left_comm, mul-lt-mul_of_pos_right, mul-mul-mul_comm, mul-one, mul-pos, mul_right_comm, mul-suc, ne_of_gt, not-le_of_lt, not-suc-le-zero, one-le-pow, one-mul, pow-le-pow_left, pow-le-pow_right, pow-lt-pow_left, pow-suc, pow-succ', suc-mul, zero-add, zero-div, zero-lt-suc, zero-mul}
pub use native.Mathlib.Numerals.{add-one}
pub use native.Mathlib.Omega.{arith}
