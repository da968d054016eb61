-- The two sides of `Bracket`. Assumes nothing.
use Rattle.arithmetic.proofs.Kit.{◌≡◌, sym, ap, ◌∙◌, subst, ℕ, ◌+◌, ◌*◌, ◌%◌, ◌^◌, ◌≤◌, ◌<◌, mod-eq_of_lt, arith, rules, ltb→lt, T}
use Rattle.antilog.specs.Estimate.{estimate}
use Rattle.antilog.proofs.Near.{Estimates, estimate-near}
use Rattle.antilog.proofs.Bracket.{moved-fits, within-two}
use Rattle.antilog.proofs.near_bits.within_two.Goals as goal

near : (b A : ℕ) → b + 1 < 2 ^ 60 → A ≡ estimate ((b + 1) % 2 ^ 60) → Estimates (b + 1) A
near b A short made = subst (Estimates (b + 1)) (sym (made ∙ ap estimate (mod-eq_of_lt short))) (estimate-near (b + 1) short)

pub moved-requires : goal.moved-requires
moved-requires c = (
  omega arith,
  moved-fits (c.args.bits + 1) 2 c.estimate-least.result (omega arith) (near c.args.bits c.estimate-least.result (omega arith) c.estimate-least.ensures) (omega arith),
)

pub returns-then-least-twice : goal.returns-then-least-twice
returns-then-least-twice c e =
    let m : ℕ = c.args.m in
    let within : (2 ^ 62 ≤ m) × (m < 2 ^ 63) = (search rules, search rules) in
    within-two m c.args.bits c.estimate-least.result (record { low = within.0; high = within.1 }) (omega arith)
    (near c.args.bits c.estimate-least.result (omega arith) c.estimate-least.ensures) (omega (arith, within.0))
    (subst (λ (n : ℕ). 2 * m < n) c.moved.ensures (ltb→lt _ _ (subst T (sym e) tt)))
