-- No NaN is equal to anything. Assumes nothing.
use Rattle.arithmetic.proofs.Kit.{◌≡◌, true, not, false≢true, T, Float, nan, inf, fin, is_nan, eq}
use Rattle.air.specs.Moist.{is_one}
use Rattle.air.proofs.moist.is_one.Goals as goal

numbers : (x y : Float) → eq x y ≡ true → T (not (is_nan x)) × T (not (is_nan y))
unfolding eq is_nan
numbers nan y e = absurd (false≢true e)
numbers (inf s) nan e = absurd (false≢true e)
numbers (inf s) (inf t) e = (tt, tt)
numbers (inf s) (fin t n d) e = (tt, tt)
numbers (fin s m k) nan e = absurd (false≢true e)
numbers (fin s m k) (inf t) e = (tt, tt)
numbers (fin s m k) (fin t n d) e = (tt, tt)

pub float_to_bits-result-then-x-y : goal.float_to_bits-result-then-x-y
float_to_bits-result-then-x-y c = (numbers _ _ c.if-x-y.true).1

pub returns-then-x-y : goal.returns-then-x-y
returns-then-x-y c = unfold is_one in rw c.if-x-y.true

pub returns-else-x-y : goal.returns-else-x-y
returns-else-x-y c = unfold is_one in rw c.if-x-y.false
