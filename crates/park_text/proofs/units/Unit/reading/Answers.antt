-- Numerator and denominator are doubles exactly. Assumes nothing.
use Rattle.arithmetic.proofs.Kit.{◌≡◌, ap, ap₂, subst, sym, ◌∙◌, ℕ, ◌^◌, ◌≤◌, ◌<◌, arith, lit<, lit≤, ℤ, pos, binary64, div, of_int, w32, w64, SFits, of_z, to_z, to_z-of_z}
use lib.Signed.{mag}
use Rattle.thousandths.proofs.Quotients.{quotient}
use Rattle.park_text.specs.declared.units.Unit.{Unit}
use Rattle.park_text.specs.declared.units.Unit.TheVariants.{Plain, Foot, Fahrenheit, Kelvin, Kilopascal, InchOfMercury}
use Rattle.park_text.specs.Units.{numerator_of, denominator_of, reading_in}
use Rattle.park_text.proofs.Numerators.{numerator-small}
use Rattle.park_text.proofs.units.Unit.reading.Goals as goal

some_denominator : (u : Unit) → (0 < denominator_of u) × (denominator_of u ≤ 2 ^ 53)
some_denominator Plain = (lit< tt, lit≤ tt)
some_denominator Foot = (lit< tt, lit≤ tt)
some_denominator Fahrenheit = (lit< tt, lit≤ tt)
some_denominator Kelvin = (lit< tt, lit≤ tt)
some_denominator Kilopascal = (lit< tt, lit≤ tt)
some_denominator InchOfMercury = (lit< tt, lit≤ tt)

module _ (u : Unit) (n r : ℤ) (fits : SFits w32 n) (is : r ≡ numerator_of u n) where
  small : mag r < 2 ^ 53
  small = subst (λ (z : ℤ). mag z < 2 ^ 53) (sym is) (numerator-small u n (omega arith))

  -- the numerator as its bits tell it
  back : to_z w64 (of_z w64 r) ≡ r
  back = to_z-of_z w64 r record { sfits = omega (arith, small) }

  reading : (d : ℕ) → d ≡ denominator_of u → div binary64 (of_int binary64 (to_z w64 (of_z w64 r))) (of_int binary64 (pos d)) ≡ reading_in u n
  unfolding reading_in
  reading d over =
      ap₂ (λ (z : ℤ) (k : ℕ). div binary64 (of_int binary64 z) (of_int binary64 (pos k))) (back ∙ is) over
      ∙ quotient (numerator_of u n) (denominator_of u) (numerator-small u n (omega arith)) (some_denominator u).0 (some_denominator u).1

pub returns : goal.returns
returns c =
    ap (div binary64 (of_int binary64 (to_z w64 (of_z w64 c.numerator.result)))) c.from.ensures
    ∙ reading c.args.self c.args.count c.numerator.result c.ranges.count (c.numerator.ensures ∙ ap (numerator_of c.args.self) (to_z-of_z w32 c.args.count c.ranges.count)) c.denominator.result c.denominator.ensures
