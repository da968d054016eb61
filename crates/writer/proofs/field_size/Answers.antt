-- The field of a meaning, by the tag of the value's form.
use Rattle.writer.proofs.Kit.{sym, ap, ◌∙◌, ℕ, ◌+◌, length, tag_in, data_size, is_count}
use Rattle.writer.proofs.Fields.{length-field, field-meant}
use Rattle.writer.proofs.field_size.Goals as goal

pub returns : goal.returns
returns c =
    let a = c.args in
    ap (λ (n : ℕ). 3 + n) (c.data_size.ensures ∙ ap data_size c.tag_for.ensures)
    ∙ sym (ap length (field-meant a.meaning a.value c.if-meaning-ge-MEANINGS.false) ∙ length-field (tag_in (is_count a.value) a.meaning) a.value)
