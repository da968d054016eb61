-- A field in the value's form.
use Rattle.writer.proofs.Kit.{sym, ap, ◌∙◌, ℕ, ◌+◌, length}
use Rattle.writer.proofs.Fields.{length-field, by_form}
use Rattle.writer.proofs.stored_size.Goals as goal

pub returns-in-Some : goal.returns-in-Some
returns-in-Some c =
    ap (λ (n : ℕ). 3 + n) c.data_size.ensures
    ∙ sym (ap length (by_form c.args.tag c.in-Some.is (sym c.has_form.ensures ∙ c.if-has_form.true)) ∙ length-field c.args.tag _)
