-- `fields::fields::meaning_of` meets its contract. Assumes nothing.
use Rattle.fields.proofs.Kit.{sym, ◌∙◌, arith, rules}
use Rattle.fields.proofs.Forms.{from_first}
use Rattle.fields.proofs.fields.meaning_of.Statement.{statement}
use Rattle.fields.proofs.fields.meaning_of.Tie as tie

pub meaning_of_spec : {M : Type 1} → statement M
meaning_of_spec =
    tie.close (tie.spec (λ c κs. search rules)
    (λ c. omega (arith, from_first c.args.tag (sym c.is_count_tag.ensures ∙ c.if-is_count_tag.true)))
    (λ c. search rules)
    (λ c. simp (sym c.is_count_tag.ensures ∙ c.if-is_count_tag.true))
    (λ c. simp c.if-tag-eq0.true)
    (λ c. search rules)
    (λ c. search rules)
    (λ c. simp (sym c.is_count_tag.ensures ∙ c.if-is_count_tag.false)))
