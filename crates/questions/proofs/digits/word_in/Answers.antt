-- A word of sixteen digits at most has room. Assumes nothing.
use Rattle.arithmetic.proofs.Kit.{◌≡◌, sym, ap, ◌∙◌, ℕ, ◌+◌, ◌*◌, ◌%◌, arith, le-leb, lt-leb, length, get_or, drop, drop_of_length-le}
use Rattle.questions.specs.Digits.{digit_of, hex_from, hex_number}
use Rattle.questions.proofs.Passed.{word-passed, longer, room}
use Rattle.questions.proofs.digits.word_in.Goals as goal

pub returns-then-text-gt16-clause-answered : goal.returns-then-text-gt16-clause-answered
unfolding hex_number
returns-then-text-gt16-clause-answered c = rw (lt-leb _ _ c.if-text-gt16.true)

pub overflow_mul-value : goal.overflow_mul-value
overflow_mul-value c = omega (arith, room c.loop-b.b-index c.loop-b.invariant.0 (omega arith))

pub overflow_add-value : goal.overflow_add-value
overflow_add-value c = omega (arith, room c.loop-b.b-index c.loop-b.invariant.0 (omega arith))

pub loop-b-preserved : goal.loop-b-preserved
loop-b-preserved c =
    let s = c.args.text.now in
    let i : ℕ = c.loop-b.b-index in
    let v : ℕ = c.loop-b.value in
    let d : c.from.result ≡ digit_of (get_or s i 0) % 16 = c.from.ensures ∙ ap (λ (n : ℕ). n % 16) c.digit.ensures in
    (rw d (longer i _ c.loop-b.invariant.0), c.loop-b.invariant.1 ∙ word-passed s i (omega arith) v ∙ ap (λ (n : ℕ). hex_from (v * 16 + n) (drop (i + 1) s)) (sym d))

pub returns-clause-answered : goal.returns-clause-answered
unfolding hex_number hex_from
returns-clause-answered c =
    let s = c.args.text.now in
    rw (le-leb (length s) 16 (omega arith)) (sym (c.loop-b.invariant.1 ∙ ap (hex_from c.loop-b.value) (drop_of_length-le s {i = c.loop-b.b-index} (omega arith))))
