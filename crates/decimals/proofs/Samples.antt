-- Texts of doubles that are an exact half, that round to zero, and at the edge of sixteen bytes, each by computing it. Assumes nothing.
use Rattle.arithmetic.proofs.Kit.{◌≡◌, refl, [], ◌∷◌, map, length, of_bits}
use Prim.Native.String.{String}
use Rattle.arithmetic.specs.Ascii.{ascii}
use Rattle.arithmetic.specs.Decimals.{decimal}
use Rattle.decimals.specs.Decimal.{decimal_text}

pub record Samples : Type 0 where
  pub half-of_an_even : decimal_text 0 (decimal "2.5") ≡ ascii "3"
  pub half-below-zero : decimal_text 0 (decimal "-2.5") ≡ ascii "-3"
  pub minus-zero : decimal_text 1 (decimal "-0") ≡ ascii "0.0"
  pub nearly-zero : decimal_text 1 (decimal "-0.04") ≡ ascii "0.0"
  -- halves away from zero; the doubles 0.15 and 0.35 lie below their decimals; a carry makes a digit more
  pub one-decimal : map (λ (t : String). decimal_text 1 (decimal t)) ("0.25" ∷ "0.75" ∷ "0.15" ∷ "0.35" ∷ "-0.05" ∷ "9.96" ∷ []) ≡ map ascii ("0.3" ∷ "0.8" ∷ "0.1" ∷ "0.3" ∷ "-0.1" ∷ "10.0" ∷ [])
  pub others : (decimal_text 0 (decimal "0.5") ≡ ascii "1") × (decimal_text 4 (decimal "1.03125") ≡ ascii "1.0313") × (decimal_text 6 (decimal "-5e-324") ≡ ascii "0.000000") × (decimal_text 0 (decimal "1e22") ≡ ascii "10000000000000000000000")
  pub sixteen : decimal_text 6 (decimal "123456789.0") ≡ ascii "123456789.000000"
  pub seventeen : length (decimal_text 6 (decimal "1234567890.0")) ≡ 17

pub samples : Samples
unfolding of_bits decimal_text
samples = record { half-of_an_even = refl; half-below-zero = refl; minus-zero = refl; nearly-zero = refl; one-decimal = refl; others = (refl, refl, refl, refl); sixteen = refl; seventeen = refl }
