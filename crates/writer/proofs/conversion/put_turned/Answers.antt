-- The field that is put, and that it has room.
use Rattle.writer.proofs.Kit.{◌≡◌, sym, ap, subst, ◌∙◌, List, ◌+◌, ◌≤◌, arith, Option, Value, Ok, field_for, field_as, length, sets, ℕ}
use Rattle.writer.proofs.Bytes.{part_put, rest_put}
use Rattle.writer.proofs.conversion.put_turned.Goals.{In_ok-size}
use Rattle.writer.proofs.conversion.put_turned.Goals as goal

pub returns-in_default-clause-out_after : goal.returns-in_default-clause-out_after
returns-in_default-clause-out_after c =
    let a = c.args in
    let f = a.field.now in
    let told = ap (λ (o : Option Value). field_as f (Ok o)) c.in_default.is in
    part_put a.out.now f a.at _ (omega arith) (subst (λ (l : List ℕ). a.at + length l ≤ length a.out.now) told c.requires.room) c.copy_from_slice.ensures.after ∙ sym (ap (sets a.out.now a.at) told)

pub returns-clause-out_after : goal.returns-clause-out_after
returns-clause-out_after c =
    let a = c.args in
    let f = field_for a.meaning c.in-Some.value in
    let told : field_as a.field.now (Ok a.other) ≡ f = ap (λ (o : Option Value). field_as a.field.now (Ok o)) c.in-Some.is ∙ ap (λ (m : ℕ). field_for m c.in-Some.value) (sym c.requires.meant) in
    rest_put a.out.now f a.at (subst (λ (l : List ℕ). a.at + length l ≤ length a.out.now) told c.requires.room) c.write_field.ensures.lent ∙ sym (ap (sets a.out.now a.at) told)
