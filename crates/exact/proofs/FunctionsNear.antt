-- How far power, exp and ln lie from the true values at 60 places, as for any number of them from 20 to 60: there 2 ^ 5.2559 is 43 units from its answer and e is
-- 61, most of it their rounding, and F of x = 3 is 1.04 units below. Assumes nothing.
use Rattle.exact.proofs.Kit.{ℕ, lit≤}
use Rattle.exact.proofs.PowerNear.{PowerNear, power-near}
use Rattle.exact.proofs.ExpNear.{ExpNear, exp-near}
use Rattle.exact.proofs.LnNear.{LnNear, ln-near}

pub record FunctionsNear (places : ℕ) : Type 0 where
  pub power : PowerNear places
  pub exponential : ExpNear places
  pub logarithm : LnNear places

pub functions_near_60 : FunctionsNear 60
functions_near_60 = record { power = power-near 60 (lit≤ tt) (lit≤ tt); exponential = exp-near 60 (lit≤ tt) (lit≤ tt); logarithm = ln-near 60 (lit≤ tt) }
