-- The field that is put is that of the meaning, and has room.
use Rattle.writer.proofs.Kit.{sym, ap, ◌∙◌, ℕ, arith, sets, field_with, field_for}
use Rattle.writer.proofs.Fields.{field-meant}
use Rattle.writer.proofs.Room.{room}
use Rattle.writer.proofs.write_field.Goals as goal

pub returns-clause-lent : goal.returns-clause-lent
returns-clause-lent c =
    let a = c.args in
    let field = ap (λ (tag : ℕ). field_with tag a.value) c.tag_for.ensures ∙ sym (field-meant a.meaning a.value c.if-meaning-ge-MEANINGS.false) in
    c.put_field.ensures.out_after ∙ ap (sets a.out.now 0) field ∙ (room (field_for a.meaning a.value) a.out.now (omega (arith, c.field_size.ensures, c.if-out-field_size.false))).1
