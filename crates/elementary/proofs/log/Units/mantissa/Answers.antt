-- The significand moved up is the mantissa. Assumes nothing.
use Rattle.arithmetic.proofs.Kit.{sym, ◌∙◌, subst, ℕ, ◌^◌, ◌≤◌, ◌<◌, arith, count_leading_zeros}
use Rattle.antilog.proofs.LogDigits.{Leading, leading, moved_up, moved-mantissa, units-mantissa}
use Rattle.elementary.specs.declared.log.Units.{Units}
use Rattle.elementary.proofs.log.Units.mantissa.Goals as goal

found : (u : Units) → Leading u.q (count_leading_zeros 64 u.q)
found u = leading u.q u.positive u.short

pub overflow_sub-result : goal.overflow_sub-result
overflow_sub-result c = omega (arith, found c.args.self)

pub returns-clause-value : goal.returns-clause-value
returns-clause-value c =
    let u = c.args.self in
    let l = found u in
    moved_up _ _ l ∙ sym (units-mantissa _ l.highest u.k l.low l.high (omega arith))

pub returns-clause-at_least : goal.returns-clause-at_least
returns-clause-at_least c = let l = found c.args.self in subst (λ (x : ℕ). 2 ^ 62 ≤ x) (sym (moved_up _ _ l)) (moved-mantissa _ _ l).low

pub returns-clause-below : goal.returns-clause-below
returns-clause-below c = let l = found c.args.self in subst (λ (x : ℕ). x < 2 ^ 63) (sym (moved_up _ _ l)) (moved-mantissa _ _ l).high
