-- The promises that are cases: each computes. Assumes nothing.
use Rattle.arithmetic.proofs.Kit.{◌≡◌, refl, Bool, ℕ, ◌*◌, ◌^◌, ◌<◌, eqb, eqb→eq, pos, negsuc, get_or, nan, round, of_bits, to_bits, num, den}
use Rattle.arithmetic.specs.Decimals.{decimal}
use Rattle.elementary.specs.Exponents.{exponents, exponent_at}
use Rattle.arithmetic.proofs.Every.{at}
use Rattle.thousandths.specs.Thousandths.{count_of, thousandths, nearest_thousandth, counted, if_exact, count_for}
use Rattle.arithmetic.specs.Ascii.{ascii}
use Rattle.std.specs.Prelude.{None, Ok, Err}
use Rattle.decimals.specs.declared.typed.NotACount.TheVariants as not_a_count
use Rattle.decimals.specs.Typed.{digits_in, number_from, in_counts, with_decimals, after_whole, after_sign, typed}

-- ---- document 01
is_scaled : ℕ → Bool
is_scaled i = eqb (num (get_or exponents i nan) * 2 ^ 58) ((exponent_at i).magnitude * den (get_or exponents i nan))

pub exponents-whole : (i : ℕ) → i < 27 → num (get_or exponents i nan) * 2 ^ 58 ≡ (exponent_at i).magnitude * den (get_or exponents i nan)
unfolding is_scaled exponents
exponents-whole i h = eqb→eq (num (get_or exponents i nan) * 2 ^ 58) ((exponent_at i).magnitude * den (get_or exponents i nan)) (at 27 is_scaled tt i h)

-- ---- counts
pub greatest-count : (count_of 0x7FFFFFFF ≡ pos 2147483647) × (thousandths (pos 2147483647) ≡ decimal "2147483.647")
unfolding count_of thousandths round of_bits
greatest-count = (refl, refl)

pub least-count : (count_of 0x80000000 ≡ negsuc 2147483647) × (thousandths (negsuc 2147483647) ≡ decimal "-2147483.648")
unfolding count_of thousandths round of_bits
least-count = (refl, refl)

pub minus-zero : count_for (decimal "-0") ≡ None
unfolding count_for if_exact counted nearest_thousandth thousandths round of_bits to_bits
minus-zero = refl

-- ---- typed decimals
pub typed-decimals : (typed 3 (ascii "1586") ≡ Ok (pos 1586000)) × (typed 3 (ascii "-15.25") ≡ Ok (negsuc 15249)) × (typed 3 (ascii "-0") ≡ Ok (pos 0))
unfolding typed after_sign after_whole with_decimals in_counts number_from digits_in counted
typed-decimals = (refl, refl, refl)

pub typed-ends : (typed 3 (ascii "2147483.647") ≡ Ok (pos 2147483647)) × (typed 3 (ascii "2147483.648") ≡ Err not_a_count.OutOfRange) × (typed 3 (ascii "1.2345") ≡ Err not_a_count.TooManyDecimals)
unfolding typed after_sign after_whole with_decimals in_counts number_from digits_in counted
typed-ends = (refl, refl, refl)

pub typed_badly : (typed 3 (ascii "") ≡ Err not_a_count.NotANumber) × (typed 3 (ascii ".5") ≡ Err not_a_count.NotANumber) × (typed 3 (ascii "5.") ≡ Err not_a_count.NotANumber) × (typed 3 (ascii "1e3") ≡ Err not_a_count.NotANumber)
unfolding typed after_sign after_whole with_decimals in_counts number_from digits_in counted
typed_badly = (refl, refl, refl, refl)
