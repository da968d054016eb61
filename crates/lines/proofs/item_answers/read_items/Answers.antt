-- An item more, or one that is not understood. Assumes nothing.
use Rattle.arithmetic.proofs.Kit.{◌≡◌, sym, ap, ◌∙◌, List, [], ℕ, ◌+◌, ◌<◌, add-one, arith, length, get_or, drop, drop_of_length-le, drop-cons}
use Rattle.std.specs.Prelude.{Option, option_and_then}
use Rattle.record.specs.declared.entries.Readings.{Readings}
use Rattle.questions.specs.Words.{line_parts}
use Rattle.lines.specs.Items.{with_item, read_from}
use Rattle.lines.proofs.item_answers.read_items.Goals as goal

passed : (r : Readings) (ws : List (List ℕ)) (i : ℕ) → i < length ws → read_from r (drop i ws) ≡ option_and_then (λ q. read_from q (drop (i + 1) ws)) (with_item r (get_or ws i []))
unfolding read_from
passed r ws i h = rw (add-one, drop-cons ws i [])

pub loop-i-init : goal.loop-i-init
loop-i-init c = ap (λ (r : Readings). read_from r (drop 1 (line_parts c.args.line.now))) (sym c.no_readings-readings.ensures)

pub returns-in_err-readings : goal.returns-in_err-readings
returns-in_err-readings c =
    let ws = line_parts c.args.line.now in
    let i : ℕ = c.loop-i.i in
    let r = c.loop-i.readings in
    let rest : Readings → Option Readings = λ q. read_from q (drop (i + 1) ws) in
    c.from_residual.ensures
    ∙ sym (c.loop-i.invariant ∙ passed r ws i (omega (arith, c.word_count-i-end.ensures.answered)) ∙ ap (λ (w : List ℕ). option_and_then rest (with_item r w)) (sym c.nth_word.ensures.answered) ∙ ap (option_and_then rest) (sym c.in_err-readings.ensures))

pub loop-i-preserved : goal.loop-i-preserved
loop-i-preserved c =
    let ws = line_parts c.args.line.now in
    let i : ℕ = c.loop-i.i in
    let r = c.loop-i.readings in
    let rest : Readings → Option Readings = λ q. read_from q (drop (i + 1) ws) in
    c.loop-i.invariant ∙ passed r ws i (omega (arith, c.word_count-i-end.ensures.answered)) ∙ ap (λ (w : List ℕ). option_and_then rest (with_item r w)) (sym c.nth_word.ensures.answered) ∙ ap (option_and_then rest) (sym c.in_ok-readings.ensures)

pub returns : goal.returns
unfolding read_from
returns c =
    let ws = line_parts c.args.line.now in
    sym (c.loop-i.invariant ∙ ap (read_from c.loop-i.readings) (drop_of_length-le ws {i = c.loop-i.i} (omega (arith, c.word_count-i-end.ensures.answered))))
