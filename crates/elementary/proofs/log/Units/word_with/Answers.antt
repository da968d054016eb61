-- The place of the highest digit is the exponent. Assumes nothing.
use Rattle.arithmetic.proofs.Kit.{refl, ◌∙◌, arith, true, false}
use Rattle.arithmetic.specs.Places.{places}
use Rattle.arithmetic.proofs.Times.{same_word}
use Rattle.antilog.proofs.LogDigits.{leading, units-above, units-below}
use Rattle.elementary.proofs.log.Units.word_with.Goals as goal

pub returns-then-highest-ge1074 : goal.returns-then-highest-ge1074
returns-then-highest-ge1074 c =
    let u = c.args.self in
    let l = leading u.q u.positive u.short in
    (same_word false (omega arith) refl ∙ units-above u.q l.highest u.k l.low l.high places c.args.bits c.requires (omega arith), omega (arith, u.exponent))

pub returns-else-highest-ge1074 : goal.returns-else-highest-ge1074
returns-else-highest-ge1074 c =
    let u = c.args.self in
    let l = leading u.q u.positive u.short in
    (same_word true (omega arith) (omega arith) ∙ units-below u.q l.highest u.k l.low l.high places c.args.bits c.requires (omega arith), omega arith)
