-- `load_text::counts::load_counts` meets its contract: the states repeat, so a number of outputs may wrap. Assumes nothing.
use Rattle.load_text.proofs.Kit.{ap, ◌∙◌, ℕ, ◌*◌, ◌%◌, ◌^◌, mul_comm, rules, state_after, drawn}
use Rattle.load_text.specs.declared.counts.Drawn.{Drawn}
use Rattle.load_text.proofs.States.{state_repeats}
use Rattle.load_text.proofs.Stepping.{stepping}
use Rattle.load_text.proofs.counts.load_counts.Statement.{statement}
use Rattle.load_text.proofs.counts.load_counts.Tie as tie

returns : tie.Need-returns
returns c =
    let drew = c in
    let state = c in
    let product = c in
    let n = product.args.number in
    let outputs = product.wrapping_mul.ensures ∙ ap (λ (x : ℕ). x % 2 ^ 64) (mul_comm n 5) in
    let start = state.state_after.ensures ∙ ap state_after outputs ∙ state_repeats (5 * n) in
    ap (λ (d : Drawn). d.counts) (drew.draw-drawn.ensures ∙ ap drawn start ∙ stepping n)

pub load_counts_spec : {M : Type 1} → statement M
load_counts_spec = tie.close (tie.spec (λ c κs. search rules)
    (λ c κs. search rules)
    (λ c κs. search rules)
    returns)
