-- `thousandths::double_of` meets its contract: a count is a double exactly, so that its quotient by 1000 is rounded once. Assumes nothing.
use Rattle.arithmetic.proofs.Kit.{◌≡◌, refl, sym, ap, ◌∙◌, arith, ℤ, pos, lit<, lit≤, Float, binary64, round, div, of_int, of_bits, w32, SFits, to_z-of_z, rules}
use Rattle.thousandths.specs.Thousandths.{thousandths}
use Rattle.thousandths.proofs.Quotients.{quotient}
use Rattle.thousandths.proofs.double_of.Statement.{statement}
use Rattle.thousandths.proofs.double_of.Tie as tie

abbrev thousand : Float
thousand = of_bits binary64 4652007308841189376

thousand_is : of_int binary64 (pos 1000) ≡ thousand
unfolding of_int of_bits round
thousand_is = refl

by_thousand : (z : ℤ) → SFits w32 z → div binary64 (of_int binary64 z) thousand ≡ thousandths z
unfolding thousandths
by_thousand z fits = ap (λ (y : Float). div binary64 (of_int binary64 z) y) (sym thousand_is) ∙ quotient z 1000 (omega arith) (lit< tt) (lit≤ tt)

returns : tie.Need-returns
returns c =
    let z : ℤ = c.args.count in
    ap (λ (y : Float). div binary64 y thousand) c.from.ensures ∙
    ap (λ (y : ℤ). div binary64 (of_int binary64 y) thousand) (to_z-of_z w32 z c.ranges.count) ∙ by_thousand z c.ranges.count

pub double_of_spec : {M : Type 1} → statement M
double_of_spec = tie.close (tie.spec (λ c. search rules)
    returns)
