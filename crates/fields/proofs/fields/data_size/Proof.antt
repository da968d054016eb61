-- `fields::fields::data_size` meets its contract. Assumes nothing.
use Rattle.fields.proofs.Kit.{sym, ◌∙◌, rules}
use Rattle.fields.proofs.fields.data_size.Statement.{statement}
use Rattle.fields.proofs.fields.data_size.Tie as tie

pub data_size_spec : {M : Type 1} → statement M
data_size_spec = tie.close (tie.spec (λ c κs. search rules)
    (λ c. simp (sym c.is_count_tag.ensures ∙ c.if-is_count_tag.true))
    (λ c. simp (sym c.is_count_tag.ensures ∙ c.if-is_count_tag.false)))
