-- Check by check: what the reader refuses, then a double with no count, then whether there is room.
use Rattle.writer.proofs.Kit.{◌≡◌, sym, ◌∙◌, arith, rules, length, accepted, outcome, refusal, NoneHolds, false, then-accepted, read_rows, record_in, converted, count_rows, fields_of}
use Rattle.writer.proofs.Outcome.{reader-refuses, no_count, counted, refuses, has-no_room, has_room}
use Rattle.writer.proofs.conversion.convert.Goals.{In_ok-read_record, In_ok-length}
use Rattle.writer.proofs.conversion.convert.Goals as goal

pub returns-in_err-read_record-clause-answered : goal.returns-in_err-read_record-clause-answered
returns-in_err-read_record-clause-answered c =
    let a = c.args in
    let e : outcome c.from_residual.result ≡ refusal c.in_err-read_record.field-0.0 = search rules in
    e ∙ (refuses a.counts a.bytes.now a.out.now (reader-refuses a.counts a.bytes.now (sym c.in_err-read_record.ensures))).0

pub returns-in_err-read_record-clause-lent : goal.returns-in_err-read_record-clause-lent
returns-in_err-read_record-clause-lent c =
    let a = c.args in
    (refuses a.counts a.bytes.now a.out.now (reader-refuses a.counts a.bytes.now (sym c.in_err-read_record.ensures))).1

-- the record is read
is_read : (c : In_ok-read_record) → NoneHolds (read_rows false c.args.bytes.now)
is_read c = (then-accepted (read_rows false c.args.bytes.now) (sym c.in_ok-read_record.ensures)).0

pub converted_length-requires : goal.converted_length-requires
converted_length-requires c = is_read c

pub returns-in_err-length-clause-answered : goal.returns-in_err-length-clause-answered
returns-in_err-length-clause-answered c =
    let a = c.args in
    let e : outcome c.from_residual-in_err-length.result ≡ refusal c.in_err-length.field-0.0 = search rules in
    e ∙ (refuses a.counts a.bytes.now a.out.now (no_count a.counts a.bytes.now (is_read (goal.at.returns-in_err-length-clause-answered c).In_ok-read_record) (sym c.in_err-length.ensures))).0

pub returns-in_err-length-clause-lent : goal.returns-in_err-length-clause-lent
returns-in_err-length-clause-lent c =
    let a = c.args in
    (refuses a.counts a.bytes.now a.out.now (no_count a.counts a.bytes.now (is_read (goal.at.returns-in_err-length-clause-lent c).In_ok-read_record) (sym c.in_err-length.ensures))).1

-- its length is known
is_counted : (c : In_ok-length) → NoneHolds (read_rows false c.args.bytes.now) → (converted c.args.counts c.args.bytes.now ≡ accepted (record_in c.args.counts c.args.bytes.now)) × (c.in_ok-length.length ≡ length (record_in c.args.counts c.args.bytes.now))
is_counted c read = counted c.args.counts c.args.bytes.now read (sym c.in_ok-length.ensures)

pub returns-then-out-length-clause-answered : goal.returns-then-out-length-clause-answered
returns-then-out-length-clause-answered c =
    let at = goal.at.returns-then-out-length-clause-answered c in
    let known = is_counted at.In_ok-length (is_read at.In_ok-read_record) in
    (has-no_room c.args.counts c.args.bytes.now c.args.out.now known.0 (omega (arith, known.1, c.if-out-length.true))).0

pub returns-then-out-length-clause-lent : goal.returns-then-out-length-clause-lent
returns-then-out-length-clause-lent c =
    let at = goal.at.returns-then-out-length-clause-lent c in
    let known = is_counted at.In_ok-length (is_read at.In_ok-read_record) in
    (has-no_room c.args.counts c.args.bytes.now c.args.out.now known.0 (omega (arith, known.1, c.if-out-length.true))).1

pub put_converted-requires-clause-read : goal.put_converted-requires-clause-read
put_converted-requires-clause-read c = is_read (goal.at.put_converted-requires-clause-read c).In_ok-read_record

pub put_converted-requires-clause-counted : goal.put_converted-requires-clause-counted
put_converted-requires-clause-counted c = (then-accepted (count_rows c.args.counts (fields_of c.args.bytes.now)) (sym c.in_ok-length.ensures)).0

pub put_converted-requires-clause-room : goal.put_converted-requires-clause-room
put_converted-requires-clause-room c =
    let at = goal.at.put_converted-requires-clause-room c in
    omega (arith, (is_counted at.In_ok-length (is_read at.In_ok-read_record)).1, c.if-out-length.false)

pub returns-clause-answered : goal.returns-clause-answered
returns-clause-answered c =
    let at = goal.at.returns-clause-answered c in
    let known = is_counted at.In_ok-length (is_read at.In_ok-read_record) in
    c.put_converted.ensures.value ∙ (has_room c.args.counts c.args.bytes.now c.args.out.now known.0 (omega (arith, known.1, c.if-out-length.false))).0

pub returns-clause-lent : goal.returns-clause-lent
returns-clause-lent c =
    let at = goal.at.returns-clause-lent c in
    let known = is_counted at.In_ok-length (is_read at.In_ok-read_record) in
    c.put_converted.ensures.out_after ∙ (has_room c.args.counts c.args.bytes.now c.args.out.now known.0 (omega (arith, known.1, c.if-out-length.false))).1
