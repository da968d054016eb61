-- An argument more is of its form, or one is not. Assumes nothing.
use Rattle.arithmetic.proofs.Kit.{◌≡◌, sym, ap, ◌∙◌, Bool, true, false, ◌&&◌, [], ℕ, ◌+◌, arith, get_or, drop, drop_of_length-le}
use Rattle.questions.specs.Words.{line_parts}
use Rattle.questions.specs.Forms.{is_of, are_from}
use Rattle.questions.proofs.Shapes.{passed}
use Rattle.questions.proofs.forms.are_of.Goals as goal

pub returns-then-not-is_of : goal.returns-then-not-is_of
returns-then-not-is_of c =
    let ws = line_parts c.args.line.now in
    let shape = c.args.shape.now in
    let i : ℕ = c.loop-i.i in
    let first : is_of (get_or shape i 0) (get_or ws (i + 1) []) ≡ false =
    ap (is_of (get_or shape i 0)) (sym c.nth_word.ensures.answered) ∙ sym c.is_of.ensures ∙ c.if-not-is_of.true in
    sym (c.loop-i.invariant ∙ passed ws shape i (omega arith) ∙ ap (λ (b : Bool). b && are_from ws (i + 1 + 1) (drop (i + 1) shape)) first)

pub loop-i-preserved : goal.loop-i-preserved
loop-i-preserved c =
    let ws = line_parts c.args.line.now in
    let shape = c.args.shape.now in
    let i : ℕ = c.loop-i.i in
    let first : is_of (get_or shape i 0) (get_or ws (i + 1) []) ≡ true =
    ap (is_of (get_or shape i 0)) (sym c.nth_word.ensures.answered) ∙ sym c.is_of.ensures ∙ c.if-not-is_of.false in
    c.loop-i.invariant ∙ passed ws shape i (omega arith) ∙ ap (λ (b : Bool). b && are_from ws (i + 1 + 1) (drop (i + 1) shape)) first

pub returns : goal.returns
unfolding are_from
returns c = sym (c.loop-i.invariant ∙ ap (are_from (line_parts c.args.line.now) (c.loop-i.i + 1)) (drop_of_length-le c.args.shape.now {i = c.loop-i.i} (omega arith)))
