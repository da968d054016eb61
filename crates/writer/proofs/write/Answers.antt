-- The length of both forms, and the fields of one after those of the other.
use Rattle.writer.proofs.Kit.{sym, ap, ◌∙◌, List, ℕ, ◌+◌, arith, length, length-append, sets, meanings, fields_from, record_of}
use Rattle.writer.proofs.Bytes.{sets_append}
use Rattle.writer.proofs.Fields.{few}
use Rattle.writer.proofs.Room.{room}
use Rattle.writer.proofs.write.Goals as goal

pub overflow_add-length : goal.overflow_add-length
overflow_add-length c = let r = c.args.readings in omega (arith, c.fields_length.ensures, c.fields_length-2.ensures, few meanings 1 r, few meanings 17 r)

pub returns-clause-lent : goal.returns-clause-lent
returns-clause-lent c =
    let r = c.args.readings in
    let out = c.args.out.now in
    let first = fields_from meanings 1 r in
    let second = fields_from meanings 17 r in
    let fits = room (record_of r) out (omega (arith, c.fields_length.ensures, c.fields_length-2.ensures, length-append first second)) in
    c.put_fields.ensures.out_after
    ∙ ap (λ (i : ℕ). sets c.put_fields-at.new.out i second) c.put_fields-at.ensures.value
    ∙ ap (λ (l : List ℕ). sets l (0 + length first) second) c.put_fields-at.ensures.out_after
    ∙ sym (sets_append out 0 first second)
    ∙ fits.1
