-- `fields::bits::double_at` meets its contract. Assumes nothing.
use Rattle.fields.proofs.Kit.{ap, ◌∙◌, rules, binary64, of_bits}
use Rattle.fields.proofs.bits.double_at.Statement.{statement}
use Rattle.fields.proofs.bits.double_at.Tie as tie

pub double_at_spec : {M : Type 1} → statement M
double_at_spec = tie.close (tie.spec (λ c κs. search rules)
    (λ c κs. search rules)
    (λ c. c.double.ensures ∙ ap (of_bits binary64) c.word_at.ensures.0))
