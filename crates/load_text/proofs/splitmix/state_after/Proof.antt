-- `load_text::splitmix::state_after` meets its contract. Assumes nothing.
use Rattle.load_text.proofs.Kit.{sym, ◌∙◌, rules}
use Rattle.load_text.proofs.States.{state_is}
use Rattle.load_text.proofs.splitmix.state_after.Statement.{statement}
use Rattle.load_text.proofs.splitmix.state_after.Tie as tie

pub state_after_spec : {M : Type 1} → statement M
state_after_spec = tie.close (tie.spec (λ c κs. search rules)
    (λ c. c.wrapping_mul.ensures ∙ sym (state_is c.args.outputs)))
