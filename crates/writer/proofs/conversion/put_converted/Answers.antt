-- A place, and the field there as it is put, and those after it.
use Rattle.writer.proofs.Kit.{◌≡◌, refl, sym, ap, subst, ◌∙◌, true≢false, Bool, false, Ok, List, [], ◌++◌, ℕ, ◌+◌, ◌≤◌, arith, length, drop, length-append, drop_of_length-le, sets, NoneHolds, accepted, heads_from, Turned, turned, turned_of, has_no_count, field_as, count_rows, fields_of, record_in}
use Rattle.writer.proofs.Bytes.{sets_append}
use Rattle.writer.proofs.Split.{is-all-whole}
use Rattle.writer.proofs.Place.{never-refused, Here, here, on, whole-after, meaning-here, turned-here, split-here, record-here}
use Rattle.writer.proofs.conversion.put_converted.Goals.{In_ok-field, In_ok-other}
use Rattle.writer.proofs.conversion.put_converted.Goals as goal

pub loop-at-init : goal.loop-at-init
loop-at-init c = record { within = omega arith; whole = is-all-whole c.args.bytes.now c.requires.read; counted = c.requires.counted; room = refl; position = omega arith; left = refl }

pub returns-in_err-field-clause-value : goal.returns-in_err-field-clause-value
returns-in_err-field-clause-value c = absurd (never-refused (record { whole = c.loop-at.invariant.whole; inside = c.loop-at-test.true }) (sym c.in_err-field.ensures))

pub returns-in_err-field-clause-out_after : goal.returns-in_err-field-clause-out_after
returns-in_err-field-clause-out_after c = absurd (never-refused (record { whole = c.loop-at.invariant.whole; inside = c.loop-at-test.true }) (sym c.in_err-field.ensures))

abbrev field_at : (c : In_ok-field) → Here c.args.bytes.now c.loop-at.at
field_at c = record { place = record { whole = c.loop-at.invariant.whole; inside = c.loop-at-test.true }; read = c.in_ok-field.field; next = c.in_ok-field.next; found = sym c.in_ok-field.ensures }

turned_so : (c : In_ok-field) {t : Turned} → t ≡ turned c.args.counts c.in_ok-field.field.value → t ≡ turned_of c.args.counts (here (field_at c))
turned_so c e = e ∙ turned-here (field_at c) c.args.counts

-- each field from here on has a count
counted : (c : In_ok-field) → (has_no_count (turned_of c.args.counts (here (field_at c))) ≡ false) × NoneHolds (count_rows c.args.counts (fields_of (drop c.in_ok-field.next c.args.bytes.now)))
counted c = subst (λ (fs : List (List ℕ)). NoneHolds (count_rows c.args.counts fs)) (split-here (field_at c)) c.loop-at.invariant.counted

pub returns-in_err-other-clause-value : goal.returns-in_err-other-clause-value
returns-in_err-other-clause-value c =
    let at = (goal.at.returns-in_err-other-clause-value c).In_ok-field in
    absurd (true≢false (ap has_no_count (turned_so at (sym c.in_err-other.was ∙ c.turn.ensures)) ∙ (counted at).0))

pub returns-in_err-other-clause-out_after : goal.returns-in_err-other-clause-out_after
returns-in_err-other-clause-out_after c =
    let at = (goal.at.returns-in_err-other-clause-out_after c).In_ok-field in
    absurd (true≢false (ap has_no_count (turned_so at (sym c.in_err-other.was ∙ c.turn.ensures)) ∙ (counted at).0))

pub slice_bounds-put_turned-count : goal.slice_bounds-put_turned-count
slice_bounds-put_turned-count c = omega (arith, on (field_at (goal.at.slice_bounds-put_turned-count c).In_ok-field))

pub slice_bounds-put_turned-start : goal.slice_bounds-put_turned-start
slice_bounds-put_turned-start c = omega (arith, on (field_at (goal.at.slice_bounds-put_turned-start c).In_ok-field))

pub slice_bounds-put_turned-end : goal.slice_bounds-put_turned-end
slice_bounds-put_turned-end c = omega (arith, on (field_at (goal.at.slice_bounds-put_turned-end c).In_ok-field))

pub put_turned-requires-clause-meant : goal.put_turned-requires-clause-meant
put_turned-requires-clause-meant c = meaning-here (field_at (goal.at.put_turned-requires-clause-meant c).In_ok-field)

-- the field there as it is put, and those after it
split : (c : In_ok-field) {t : Turned} → t ≡ turned c.args.counts c.in_ok-field.field.value
    → record_in c.args.counts (drop c.loop-at.at c.args.bytes.now) ≡ field_as (here (field_at c)) t ++ record_in c.args.counts (drop c.in_ok-field.next c.args.bytes.now)
split c e =
    record-here (field_at c) c.args.counts
    ∙ ap (λ (t : Turned). field_as (here (field_at c)) t ++ record_in c.args.counts (drop c.in_ok-field.next c.args.bytes.now)) (sym (turned_so c e))

room : (c : In_ok-field) {t : Turned} → t ≡ turned c.args.counts c.in_ok-field.field.value
    → c.loop-at.place + length (field_as (here (field_at c)) t) + length (record_in c.args.counts (drop c.in_ok-field.next c.args.bytes.now)) ≡ length (record_in c.args.counts c.args.bytes.now)
room c {t} e =
    omega (arith, c.loop-at.invariant.position, ap length (split c e), length-append (field_as (here (field_at c)) t) (record_in c.args.counts (drop c.in_ok-field.next c.args.bytes.now)))

pub put_turned-requires-clause-room : goal.put_turned-requires-clause-room
put_turned-requires-clause-room c =
    omega (arith, c.requires.room, c.loop-at.invariant.room, room (goal.at.put_turned-requires-clause-room c).In_ok-field (sym c.in_ok-other.was ∙ c.turn.ensures))

pub loop-at-smaller : goal.loop-at-smaller
loop-at-smaller c = omega (arith, on (field_at (goal.at.loop-at-smaller c).In_ok-field))

pub loop-at-preserved : goal.loop-at-preserved
loop-at-preserved c =
    let at = (goal.at.loop-at-preserved c).In_ok-field in
    let is = sym c.in_ok-other.was ∙ c.turn.ensures in
    let now = c.loop-at in
    let put = field_as (here (field_at at)) (Ok c.in_ok-other.other) in
    let left = record_in c.args.counts (drop c.in_ok-field.next c.args.bytes.now) in
    let after = c.put_turned.new.out in
    let told : accepted c.in_ok-place.place ≡ accepted (now.place + length put) = c.in_ok-place.ensures.value in
    let place : c.in_ok-place.place ≡ now.place + length put = cc in
    record {
      within = (on (field_at at)).1;
      whole = whole-after (field_at at);
      counted = (counted at).1;
      room = c.put_turned.auto.out ∙ now.invariant.room;
      position = omega (arith, room at is, place);
      left =
          ap (λ (i : ℕ). sets after i left) place
          ∙ ap (λ (l : List ℕ). sets l (now.place + length put) left) c.put_turned.ensures.out_after
          ∙ sym (sets_append now.out now.place put left)
          ∙ ap (sets now.out now.place) (sym (split at is))
          ∙ now.invariant.left;
    }

-- no field is left
none-left : (s : List ℕ) (counts : Bool) (at : ℕ) → length s ≤ at → record_in counts (drop at s) ≡ []
unfolding heads_from
none-left s counts at h = ap (record_in counts) (drop_of_length-le s h)

pub returns-clause-value : goal.returns-clause-value
returns-clause-value c =
    let all : c.loop-at.place ≡ length (record_in c.args.counts c.args.bytes.now) = omega (arith, c.loop-at.invariant.position, ap length (none-left c.args.bytes.now c.args.counts c.loop-at.at c.loop-at-test.false)) in
    ap accepted all

pub returns-clause-out_after : goal.returns-clause-out_after
returns-clause-out_after c =
    sym (ap (sets c.loop-at.out c.loop-at.place) (none-left c.args.bytes.now c.args.counts c.loop-at.at c.loop-at-test.false)) ∙ c.loop-at.invariant.left
