-- `elementary::multiples::times` meets its contract: its words are the quotient's digits above and below the point (`Carried`, `Times`). Assumes nothing.
use Rattle.arithmetic.proofs.Kit.{◌≡◌, sym, ap, ap₂, ◌∙◌, subst, Bool, ℕ, ◌+◌, ◌*◌, ◌/◌, ◌%◌, ◌^◌, ◌<◌, arith, rules, lit≤, pow_pos, pow-add}
use Rattle.arithmetic.specs.Whole.{word_digits}
use Rattle.arithmetic.specs.Places.{places}
use Rattle.arithmetic.proofs.Times.{remaining, extra_of, above-point, below-point, times-word, same_word}
use Rattle.arithmetic.proofs.Carried.{one-moved, Quotients, quotients}
use Rattle.elementary.proofs.multiples.times.Statement.{statement}
use Rattle.elementary.proofs.multiples.times.Tie as tie
use Rattle.elementary.proofs.multiples.times.Lts.{then-negative, else-negative}

extra_is : (c : tie.Joined-negative) → c.if-negative.extra ≡ extra_of c.args.w.negative c.args.factor
extra_is c =
    let extra : Bool → ℕ = λ s. extra_of s c.args.factor in
    elim c.if-negative.branch [ then-negative w ↦ w.extra-is ∙ sym (ap extra w.if-negative.true) | else-negative w ↦ w.extra-is ∙ sym (ap extra w.if-negative.false) ]

extra_lt : (c : tie.Joined-negative) → c.if-negative.extra < c.args.factor
extra_lt c = elim c.if-negative.branch [ then-negative w ↦ omega (arith, c.requires.2) | else-negative w ↦ omega (arith, c.requires.2) ]

-- on the way to the place after the last call
abbrev joined : tie.After-shifted_right-low → tie.Joined-negative
joined c = c.before.before.before.before.before.before.before.before.before.before.before.before.before

made : (c : tie.After-shifted_right-low) → let a = (joined c).before.args in Quotients places a.w.whole a.w.part a.factor (joined c).if-negative.extra a.shift c.shifted_right-quotient.result.lo c.shifted_right-high.result.lo c.shifted_right-low.result.lo
made c =
    let pre = (joined c).before.requires in
    quotients places _ _ _ _ _ (lit≤ tt) pre.0 pre.1 (joined c).before.ranges.factor.fits (extra_lt (joined c)) pre.3 pre.4
    c.product-above.result c.product.result c.sum-below.result.word c.shifted_right-quotient.result c.shifted_left.result c.sum-carried.result.word c.shifted_right-high.result c.shifted_right-low.result
    c.sum-below.result.carry c.sum-carried.result.carry
    c.product-above.ensures c.product.ensures c.sum-below.ensures c.shifted_right-quotient.ensures c.shifted_left.ensures c.sum-carried.ensures c.shifted_right-high.ensures c.shifted_right-low.ensures

rem_rest : tie.Need-nonzero_rem-rest
rem_rest c =
    let start = c in
    subst (λ (n : ℕ). 0 < n) (sym (one-moved start.args.shift (omega (arith, start.requires.4)))) (pow_pos start.args.shift)

returns : tie.Need-returns
returns c =
    let at = c.before.before.before in
    let start = (joined at).before in
    let a = start.args in
    let d = 2 ^ a.shift in
    let q = made at in
    same_word a.w.negative
    (ap₂ (λ (x y : ℕ). x + y) q.quotient_is (q.high_is ∙ ap (λ (n : ℕ). remaining places a.w.whole a.w.part a.factor (joined at).if-negative.extra d / n) (pow-add 2 a.shift places)) ∙ sym (above-point places a.w.whole a.w.part a.factor (joined at).if-negative.extra d (pow_pos a.shift)))
    (q.low-is ∙ sym (below-point places a.w.whole a.w.part a.factor (joined at).if-negative.extra d (pow_pos a.shift)))
    ∙ ap (λ (x : ℕ). record { negative = a.w.negative; whole = (word_digits places a.w * a.factor + x) / d / 2 ^ places; part = (word_digits places a.w * a.factor + x) / d % 2 ^ places }) (extra_is (joined at))
    ∙ sym (times-word places a.w a.factor d start.requires.2 (pow_pos a.shift))

pub times_spec : {M : Type 1} → statement M
times_spec =
    tie.close (tie.spec (λ c. search rules)
    (λ c. search rules)
    (λ c κs. search rules)
    (λ c κs. search rules)
    (λ c κs. search rules)
    (λ c κs. search rules)
    (λ c. search rules)
    rem_rest
    (λ c κs. search rules)
    (λ c κs. search rules)
    (λ c. search rules)
    (λ c κs. search rules)
    (λ c κs. search rules)
    (λ c. omega (arith, made c.before.before))
    (λ c. omega (arith, made c.before.before))
    returns)
