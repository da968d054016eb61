-- `roots::roots::word_root` meets its contract. The loop's invariant: the guess is no less than the root and fits half a word. Assumes nothing.
use Rattle.arithmetic.proofs.Kit.{ℕ, suc, ◌-◌, ◌*◌, ◌^◌, ◌<◌, mul-le-mul, arith, rules}
use Rattle.roots.proofs.roots.Newton.{step-above, step_less, positive, quotient-less}
use Rattle.roots.proofs.Root.{root_unique}
use Rattle.roots.proofs.roots.word_root.Statement.{statement}
use Rattle.roots.proofs.roots.word_root.Tie as tie

square_lt : (r : ℕ) → r < 2 ^ 32 → r * r < 2 ^ 64
square_lt r h = omega (arith, mul-le-mul {n₁ = r} {m₁ = r} {n₂ = 2 ^ 32 - 1} {m₂ = 2 ^ 32 - 1} (omega arith) (omega arith))

abbrev invariant_loop : tie.invariant-loop-r
invariant_loop n r₀ r = (n < suc r * suc r) × (r < 2 ^ 32)

abbrev decreases_loop : tie.decreases-loop-r
decreases_loop n r₀ r = r

loop_again : tie.Need-loop-r-preserved invariant_loop decreases_loop
loop_again c =
    let n = c.args.n in
    let r = c.loop-r.r in
    (step-above n r (positive n r c.loop-r-test.true), omega (arith, step_less n r c.loop-r-test.true))

pub word_root_spec : {M : Type 1} → statement M
word_root_spec =
    tie.close (tie.spec invariant_loop
    decreases_loop
    (λ c κs. search rules)
    (λ c. c.guess-r.ensures)
    (λ c. record { fits = square_lt c.loop-r.r c.loop-r.invariant.1 })
    (λ c. positive c.args.n c.loop-r.r c.loop-r-test.true)
    (λ c. omega (arith, quotient-less c.args.n c.loop-r.r c.loop-r-test.true))
    (λ c. step_less c.args.n c.loop-r.r c.loop-r-test.true)
    loop_again
    (λ c. root_unique c.args.n c.loop-r.r c.loop-r-test.false c.loop-r.invariant.0))
