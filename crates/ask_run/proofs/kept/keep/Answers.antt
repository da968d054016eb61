-- The bytes are copied to the start. Assumes nothing.
use Rattle.arithmetic.proofs.Kit.{ap, ◌∙◌, ℕ, ◌+◌, ◌-◌, arith, get_or}
use Rattle.ask_run.proofs.Moved.{moved}
use Rattle.ask_run.proofs.kept.keep.Goals as goal

pub returns : goal.returns
returns c =
    moved c.args.buffer.now c.copy_within.new.self c.args.taken c.args.all (omega (arith, c.min-start.ensures, c.min-end.ensures)) (omega (arith, c.min-start.ensures, c.min-end.ensures, c.min-count.ensures))
    c.copy_within.ensures.len (λ k lt. c.copy_within.ensures.by_index.0 k 0 (omega arith) (omega arith) ∙ ap (λ (i : ℕ). get_or c.args.buffer.now (c.min-start.result + i) 0) {x = k - 0} {y = k} (omega arith))
