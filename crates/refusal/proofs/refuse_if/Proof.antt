-- `refusal::refuse_if` meets its contract. Assumes nothing.
use Rattle.refusal.proofs.refuse_if.Statement.{statement}
use Rattle.refusal.proofs.refuse_if.Tie as tie

pub refuse_if_spec : {M : Type 1} → statement M
refuse_if_spec = tie.close (tie.spec (λ c. simp c.if-cause.true)
    (λ c. simp c.if-cause.false))
