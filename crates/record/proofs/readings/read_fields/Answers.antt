-- What a field at a position, and the check of its order, tell of the rest of the record.
use Rattle.record.proofs.Kit.{◌≡◌, sym, ap, ◌∙◌, ◌≤◌, ◌<◌, arith, rules, length, drop, drop_of_length-le, accepted, outcome, field_of, next_at, meanings, step-found, step-refused, further}
use Rattle.refusal.specs.Outcomes.{refusal}
use Rattle.record.proofs.Walk.{no_bytes, read}
use Rattle.record.proofs.Turn.{field-refuses, whole, in_place, order-refuses, moves_on}
use Rattle.record.proofs.readings.read_fields.Goals.{In_ok-field}
use Rattle.record.proofs.readings.read_fields.Goals as goal

pub returns-in_err-field : goal.returns-in_err-field
returns-in_err-field c =
    let e : outcome c.from_residual.result ≡ refusal c.in_err-field.field-0.0 = search rules in
    let refused_by = step-refused c.args.bytes.now c.loop-at.at (sym c.in_err-field.ensures) in
    e ∙ sym (c.loop-at.invariant.left ∙ field-refuses c.args.strict c.args.bytes.now c.loop-at.at (record { slots = c.loop-at.slots }) c.loop-at.last c.loop-at-test.true refused_by)

-- the field that is found, and the position after it
is_step : (c : In_ok-field) → (field_of (drop c.loop-at.at c.args.bytes.now) ≡ accepted c.in_ok-field.field) × (c.in_ok-field.next ≡ next_at c.args.bytes.now c.loop-at.at)
is_step c = step-found c.args.bytes.now c.loop-at.at (sym c.in_ok-field.ensures)

-- its meaning is one of the seven
meant : (c : In_ok-field) → c.in_ok-field.field.meaning < meanings
meant c = in_place c.args.strict c.args.bytes.now c.loop-at.at (record { slots = c.loop-at.slots }) c.loop-at.last c.loop-at-test.true (is_step c).0

-- the position after it
on : (c : In_ok-field) → (c.loop-at.at < c.in_ok-field.next) × (c.in_ok-field.next ≤ length c.args.bytes.now)
on c =
    further c.args.bytes.now c.loop-at.at c.in_ok-field.next (is_step c).1
    (whole c.args.strict c.args.bytes.now c.loop-at.at (record { slots = c.loop-at.slots }) c.loop-at.last c.loop-at-test.true (is_step c).0)

pub offset_bounds-slots-meaning : goal.offset_bounds-slots-meaning
offset_bounds-slots-meaning c = omega (arith, meant (goal.at.offset_bounds-slots-meaning c).In_ok-field)

pub bounds-slots-meaning : goal.bounds-slots-meaning
bounds-slots-meaning c = meant (goal.at.bounds-slots-meaning c).In_ok-field

pub returns-in_err-order_check : goal.returns-in_err-order_check
returns-in_err-order_check c =
    let at = (goal.at.returns-in_err-order_check c).In_ok-field in
    let e : outcome c.from_residual-in_err-order_check.result ≡ refusal c.in_err-order_check.field-0.0 = search rules in
    let refused_by = order-refuses c.args.strict c.args.bytes.now c.loop-at.at (record { slots = c.loop-at.slots }) c.loop-at.last c.loop-at-test.true (is_step at).0 c.order_check.result c.order_check.ensures (ap outcome c.in_err-order_check.was) in
    e ∙ sym (c.loop-at.invariant.left ∙ refused_by)

pub offset_bounds-slots-meaning-in-loop-at : goal.offset_bounds-slots-meaning-in-loop-at
offset_bounds-slots-meaning-in-loop-at c = omega (arith, meant (goal.at.offset_bounds-slots-meaning-in-loop-at c).In_ok-field)

pub bounds-slots-meaning-in-loop-at : goal.bounds-slots-meaning-in-loop-at
bounds-slots-meaning-in-loop-at c = meant (goal.at.bounds-slots-meaning-in-loop-at c).In_ok-field

pub loop-at-smaller : goal.loop-at-smaller
loop-at-smaller c = omega (arith, on (goal.at.loop-at-smaller c).In_ok-field)

pub loop-at-preserved : goal.loop-at-preserved
loop-at-preserved c =
    let at = (goal.at.loop-at-preserved c).In_ok-field in
    record {
      within = (on at).1;
      left =
          c.loop-at.invariant.left
          ∙ moves_on c.args.strict c.args.bytes.now c.loop-at.at (record { slots = c.loop-at.slots }) c.loop-at.last c.loop-at-test.true (is_step at).0 c.order_check.result c.order_check.ensures (ap outcome c.in_ok-order_check.was) c.in_ok-field.next (is_step at).1;
    }

pub returns : goal.returns
returns c = sym (c.loop-at.invariant.left ∙ ap (read c.args.strict (record { slots = c.loop-at.slots }) c.loop-at.last) (drop_of_length-le c.args.bytes.now c.loop-at-test.false) ∙ no_bytes c.args.strict (record { slots = c.loop-at.slots }) c.loop-at.last)
