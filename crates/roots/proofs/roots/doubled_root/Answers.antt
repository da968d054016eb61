-- It is the step of `root`'s definition.
use Rattle.arithmetic.proofs.Kit.{◌≡◌, ◌∙◌, subst, ℕ, suc, ◌+◌, ◌-◌, ◌*◌, ◌/◌, ◌^◌, ◌≤◌, ◌<◌, suc-le-suc, div-lt_iff_lt-mul, add-one, arith, lit<}
use Rattle.roots.specs.Root.{root}
use Rattle.roots.proofs.Root.{IsRoot, of-root, is-root, roots-le, odd_root, even_root}
use Rattle.roots.proofs.roots.doubled_root.Goals as goal

-- t is the root of the quarter
module _ (n t : ℕ) (fits : n < 2 ^ 128) (quarter : t ≡ root (n / 4)) where
  quarter_root : IsRoot (n / 4) t
  quarter_root = of-root (n / 4) t quarter

  short : t < 2 ^ 63
  short = suc-le-suc (roots-le (n / 4) t (2 ^ 63 - 1) quarter_root.0 ((div-lt_iff_lt-mul {k = 4} {x = n} {y = 2 ^ 126} (lit< tt)).1 fits))

  odd : (2 * t + 1) * (2 * t + 1) ≤ n → 2 * t + 1 ≡ root n
  odd h = add-one (2 * t) ∙ is-root n (suc (2 * t)) (odd_root n t quarter_root (subst (λ (x : ℕ). x * x ≤ n) (add-one (2 * t)) h))

  even : n < (2 * t + 1) * (2 * t + 1) → 2 * t ≡ root n
  even h = is-root n (2 * t) (even_root n t quarter_root (subst (λ (x : ℕ). n < x * x) (add-one (2 * t)) h))

pub overflow_mul-even : goal.overflow_mul-even
overflow_mul-even c = record { fits = omega (arith, short c.args.n _ c.ranges.n.fits c.normal_root-even.ensures) }

pub overflow_add-odd : goal.overflow_add-odd
overflow_add-odd c = record { fits = omega (arith, short c.args.n _ c.ranges.n.fits c.normal_root-even.ensures) }

pub returns-then-square-n : goal.returns-then-square-n
returns-then-square-n c = odd c.args.n _ c.ranges.n.fits c.normal_root-even.ensures (subst (λ (x : ℕ). x ≤ c.args.n) c.square.ensures c.if-square-n.true)

pub returns-else-square-n : goal.returns-else-square-n
returns-else-square-n c = even c.args.n _ c.ranges.n.fits c.normal_root-even.ensures (subst (λ (x : ℕ). c.args.n < x) c.square.ensures c.if-square-n.false)
