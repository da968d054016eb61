-- An item that is understood and does not come twice. Assumes nothing.
use Rattle.arithmetic.proofs.Kit.{◌≡◌, sym, ap, ap₂, ◌∙◌, true, false, ℕ}
use Rattle.std.specs.Prelude.{is_some, Some}
use Rattle.fields.specs.declared.fields.Value.{Value}
use Rattle.fields.specs.Fields.{meaning_of}
use Rattle.record.specs.declared.entries.Readings.{Readings}
use Rattle.record.specs.Entries.{with_value, entry_of}
use Rattle.lines.specs.Items.{item_tag, with_item}
use Rattle.lines.proofs.item_answers.with_item.Goals as goal

pub returns-then-not-is_item : goal.returns-then-not-is_item
unfolding with_item
returns-then-not-is_item c = rw (sym c.is_item.ensures ∙ c.if-not-is_item.true)

pub returns-then-is_some : goal.returns-then-is_some
unfolding with_item
returns-then-is_some c =
    let r = c.args.readings in
    let m : c.meaning_of-meaning.result ≡ meaning_of (item_tag c.args.item.now) = c.meaning_of-meaning.ensures ∙ ap meaning_of c.tag_in.ensures in
    let there : is_some (entry_of r (meaning_of (item_tag c.args.item.now))) ≡ true =
    ap (λ (k : ℕ). is_some (entry_of r k)) (sym m) ∙ ap is_some (sym c.entry_of.ensures) ∙ sym c.is_some.ensures ∙ c.if-is_some.true in
    rw (sym c.is_item.ensures ∙ c.if-not-is_item.false, there)

pub returns : goal.returns
unfolding with_item
returns c =
    let r = c.args.readings in
    let m : c.meaning_of-meaning.result ≡ meaning_of (item_tag c.args.item.now) = c.meaning_of-meaning.ensures ∙ ap meaning_of c.tag_in.ensures in
    let absent : is_some (entry_of r (meaning_of (item_tag c.args.item.now))) ≡ false =
    ap (λ (k : ℕ). is_some (entry_of r k)) (sym m) ∙ ap is_some (sym c.entry_of.ensures) ∙ sym c.is_some.ensures ∙ c.if-is_some.false in
    rw (sym c.is_item.ensures ∙ c.if-not-is_item.false, absent)
    (ap (λ (q : Readings). Some q) (c.with_value.ensures ∙ ap₂ (λ (k : ℕ) (v : Value). with_value r k v) m c.value_in.ensures))
