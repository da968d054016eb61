-- The size of the field of the tag, and those after it.
use Rattle.writer.proofs.Kit.{◌≡◌, sym, ap, ◌∙◌, Option, Value, ◌++◌, ℕ, ◌+◌, arith, length, length-append, meanings, stored_of, stored_field}
use Rattle.writer.proofs.Fields.{rest, all-fields, next_field, no_field, few}
use Rattle.writer.proofs.fields_length.Goals.{After-stored_size-size}
use Rattle.writer.proofs.fields_length.Goals as goal

counted : (c : After-stored_size-size) → c.stored_size-size.result + length (rest (c.args.first + meanings) (c.loop-tag.tag + 1) c.args.readings) ≡ length (rest (c.args.first + meanings) c.loop-tag.tag c.args.readings)
counted c =
    let r = c.args.readings in
    let end = c.args.first + meanings in
    let tag = c.loop-tag.tag in
    let same = c.stored_of.ensures ∙ ap (stored_of r) c.meaning_of.ensures in
    ap (λ (n : ℕ). n + length (rest end (tag + 1) r)) c.stored_size-size.ensures
    ∙ sym (length-append (stored_field tag c.stored_of.result) (rest end (tag + 1) r))
    ∙ ap (λ (e : Option Value). length (stored_field tag e ++ rest end (tag + 1) r)) same
    ∙ ap length (sym (next_field end tag r c.loop-tag-test.true))

pub loop-tag-init : goal.loop-tag-init
loop-tag-init c = omega (arith, ap length (all-fields c.args.first c.args.readings))

pub overflow_add-size : goal.overflow_add-size
overflow_add-size c = omega (arith, c.loop-tag.invariant, counted c, few meanings c.args.first c.args.readings)

pub loop-tag-preserved : goal.loop-tag-preserved
loop-tag-preserved c = omega (arith, c.loop-tag.invariant, counted c)

pub returns : goal.returns
returns c = omega (arith, c.loop-tag.invariant, ap length (no_field (c.args.first + meanings) c.loop-tag.tag c.args.readings c.loop-tag-test.false))
