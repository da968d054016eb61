-- `fields::fields::is_tag` meets its contract. Assumes nothing.
use Rattle.fields.proofs.Kit.{rules}
use Rattle.fields.proofs.fields.is_tag.Statement.{statement}
use Rattle.fields.proofs.fields.is_tag.Tie as tie

pub is_tag_spec : {M : Type 1} → statement M
is_tag_spec = tie.close (tie.spec (λ c. search rules)
    (λ c κs. search rules)
    (λ c. rw c.is_count_tag.ensures))
