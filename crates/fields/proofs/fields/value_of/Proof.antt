-- `fields::fields::value_of` meets its contract, by the form of the tag. Assumes nothing.
use Rattle.fields.proofs.Kit.{sym, ap, ◌∙◌, true, false, arith, rules, lit≤, tag_of}
use Rattle.fields.specs.declared.fields.Value.TheVariants.{Double, Count}
use Rattle.fields.proofs.Forms.{size-by}
use Rattle.fields.proofs.fields.value_of.Statement.{statement}
use Rattle.fields.proofs.fields.value_of.Tie as tie

word_at_requires : tie.Need-word_at-requires
word_at_requires c κs = (lit≤ tt, omega (arith, size-by (tag_of c.args.bytes.now) true (sym c.is_count_tag.ensures ∙ c.if-is_count_tag.true)))

pub value_of_spec : {M : Type 1} → statement M
value_of_spec =
    tie.close (tie.spec (λ c. search rules)
    (λ c κs. search rules)
    word_at_requires
    (λ c. search rules)
    (λ c. rw (sym c.is_count_tag.ensures ∙ c.if-is_count_tag.true) (ap Count c.word_at.ensures.0))
    (λ c κs. omega (arith, size-by (tag_of c.args.bytes.now) false (sym c.is_count_tag.ensures ∙ c.if-is_count_tag.false)))
    (λ c. rw (sym c.is_count_tag.ensures ∙ c.if-is_count_tag.false) (ap Double c.double_at.ensures)))
