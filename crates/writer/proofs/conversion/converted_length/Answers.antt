-- A place, and the field there: its bytes and its check, and those of the fields after it.
use Rattle.writer.proofs.Kit.{◌≡◌, refl, sym, ap, ◌∙◌, List, ℕ, arith, rules, length, drop_of_length-le, accepted, outcome, refusal, heads_from, Turned, turned, turned_of, has_no_count, fields_of, record_in}
use Rattle.writer.proofs.Split.{is-all-whole, few_bytes}
use Rattle.writer.proofs.Values.{only-no_count}
use Rattle.writer.proofs.Place.{never-refused, Here, here, on, whole-after, turned-here, with_left, by_field, size-here}
use Rattle.writer.proofs.conversion.converted_length.Goals.{In_ok-field}
use Rattle.writer.proofs.conversion.converted_length.Goals as goal

pub loop-at-init : goal.loop-at-init
loop-at-init c = record { within = omega arith; whole = is-all-whole c.args.bytes.now c.requires; counted = omega arith; left = refl }

pub returns-in_err-field : goal.returns-in_err-field
returns-in_err-field c = absurd (never-refused (record { whole = c.loop-at.invariant.whole; inside = c.loop-at-test.true }) (sym c.in_err-field.ensures))

abbrev field_at : (c : In_ok-field) → Here c.args.bytes.now c.loop-at.at
field_at c = record { place = record { whole = c.loop-at.invariant.whole; inside = c.loop-at-test.true }; read = c.in_ok-field.field; next = c.in_ok-field.next; found = sym c.in_ok-field.ensures }

turned_so : (c : In_ok-field) {t : Turned} → t ≡ turned c.args.counts c.in_ok-field.field.value → t ≡ turned_of c.args.counts (here (field_at c))
turned_so c e = e ∙ turned-here (field_at c) c.args.counts

pub returns-in_err-other : goal.returns-in_err-other
returns-in_err-other c =
    let at = (goal.at.returns-in_err-other c).In_ok-field in
    let e : outcome c.from_residual-in_err-other.result ≡ refusal c.in_err-other.field-0.0 = search rules in
    let is = sym c.in_err-other.was ∙ c.turn.ensures in
    e ∙ ap refusal (only-no_count c.args.counts c.in_ok-field.field.value (sym is)) ∙ sym (c.loop-at.invariant.left ∙ by_field (field_at at) c.args.counts (ap has_no_count (sym (turned_so at is))))

pub overflow_sub-next : goal.overflow_sub-next
overflow_sub-next c = omega (arith, on (field_at (goal.at.overflow_sub-next c).In_ok-field))

pub overflow_add-size : goal.overflow_add-size
overflow_add-size c =
    let at = (goal.at.overflow_add-size c).In_ok-field in
    let size = size-here (field_at at) c.args.counts (turned_so at (sym c.in_ok-other.was ∙ c.turn.ensures)) in
    omega (arith, c.turned_size-size.ensures, size, c.loop-at.invariant.counted, few_bytes c.args.counts c.args.bytes.now c.requires)

pub loop-at-smaller : goal.loop-at-smaller
loop-at-smaller c = omega (arith, on (field_at (goal.at.loop-at-smaller c).In_ok-field))

pub loop-at-preserved : goal.loop-at-preserved
loop-at-preserved c =
    let at = (goal.at.loop-at-preserved c).In_ok-field in
    let is = turned_so at (sym c.in_ok-other.was ∙ c.turn.ensures) in
    record {
      within = (on (field_at at)).1;
      whole = whole-after (field_at at);
      counted = omega (arith, c.turned_size-size.ensures, size-here (field_at at) c.args.counts is, c.loop-at.invariant.counted);
      left = c.loop-at.invariant.left ∙ by_field (field_at at) c.args.counts (ap has_no_count (sym is));
    }

pub returns : goal.returns
unfolding heads_from
returns c =
    let s = c.args.bytes.now in
    let end = drop_of_length-le s c.loop-at-test.false in
    let all : c.loop-at.size ≡ length (record_in c.args.counts s) = omega (arith, c.loop-at.invariant.counted, ap (λ (u : List ℕ). length (record_in c.args.counts u)) end) in
    ap accepted all ∙ sym (c.loop-at.invariant.left ∙ ap (λ (u : List ℕ). with_left c.args.counts s (fields_of u)) end)
