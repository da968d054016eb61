-- One digit more, or none where it is no digit or there is no room. Assumes nothing.
use Rattle.arithmetic.proofs.Kit.{◌≡◌, refl, sym, ap, ◌∙◌, List, [], ◌∷◌, ℕ, ◌+◌, ◌<◌, arith, eqb-true, eqb-false, length, drop, drop_of_length-le}
use Rattle.std.specs.Prelude.{Option, None}
use Rattle.questions.specs.Digits.{◌⟫◌, decimal_from, number_in}
use Rattle.questions.proofs.Passed.{number_passed}
use Rattle.questions.proofs.digits.number_in.Goals as goal

no_digit : (s : List ℕ) → length s ≡ 0 → None ≡ number_in s
unfolding number_in
no_digit [] h = refl
no_digit (b ∷ s) h = absurd (omega arith)

some_digit : (s : List ℕ) → 0 < length s → number_in s ≡ decimal_from 0 s
unfolding number_in
some_digit [] h = absurd (omega arith)
some_digit (b ∷ s) h = refl

pub returns-then-is_empty-clause-answered : goal.returns-then-is_empty-clause-answered
returns-then-is_empty-clause-answered c = no_digit c.args.text.now (eqb-true _ 0 (sym c.is_empty.ensures ∙ c.if-is_empty.true))

pub returns-in_err-value-clause-answered : goal.returns-in_err-value-clause-answered
returns-in_err-value-clause-answered c =
    let s = c.args.text.now in
    let i : ℕ = c.loop-b.b-index in
    let rest : ℕ → Option ℕ = λ (w : ℕ). decimal_from w (drop (i + 1) s) in
    c.from_residual.ensures
    ∙ sym (some_digit s (omega arith) ∙ c.loop-b.invariant ∙ number_passed s i (omega arith) c.loop-b.value ∙ ap (λ (n : Option ℕ). n ⟫ rest) (sym c.in_err-value.ensures))

pub loop-b-preserved : goal.loop-b-preserved
loop-b-preserved c =
    let s = c.args.text.now in
    let i : ℕ = c.loop-b.b-index in
    let rest : ℕ → Option ℕ = λ (w : ℕ). decimal_from w (drop (i + 1) s) in
    c.loop-b.invariant ∙ number_passed s i (omega arith) c.loop-b.value ∙ ap (λ (n : Option ℕ). n ⟫ rest) (sym c.in_ok-value.ensures)

pub returns-clause-answered : goal.returns-clause-answered
unfolding decimal_from
returns-clause-answered c = sym (some_digit c.args.text.now (omega (arith, eqb-false (length c.args.text.now) 0 (sym c.is_empty.ensures ∙ c.if-is_empty.false))) ∙ c.loop-b.invariant ∙ ap (decimal_from c.loop-b.value) (drop_of_length-le c.args.text.now {i = c.loop-b.b-index} (omega arith)))
