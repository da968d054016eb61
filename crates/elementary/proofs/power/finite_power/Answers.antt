-- Only a negative base has another power than its size, by whether the exponent is 3 or 4. Assumes nothing.
use Rattle.arithmetic.proofs.Kit.{◌≡◌, refl, sym, ap, ap₂, ◌∙◌, Bool, true, false, cond, ℕ, arith, Float, nan, of_bits, neg, div, odd}
use Rattle.elementary.specs.declared.log.Units.{Units}
use Rattle.elementary.specs.Exponents.{exponent_at, is_three, is_four}
use Rattle.elementary.specs.Power.{positive_power, power}
use Rattle.arithmetic.specs.Places.{places}
use Rattle.elementary.proofs.Exponents.{is_three_lem, not_three, is_four_lem, not_four}
use Rattle.elementary.proofs.PowerCases.{finite-positive, finite-negative}
use Rattle.elementary.proofs.power.finite_power.Goals as goal

-- the power of the base's size, and what the rule makes of it for a negative base
abbrev size_power : Units → ℕ → Float
size_power u number = positive_power places (exponent_at number) (odd 53 false u.q u.k 1074)

abbrev by_exponent : Units → ℕ → Bool → Bool → Float
by_exponent u number three four = cond three (neg (size_power u number)) (cond four (size_power u number) nan)

negative_base : (u : Units) (number : ℕ) {s : Bool} (three four : Bool) → is_three (exponent_at number) ≡ three → is_four (exponent_at number) ≡ four → s ≡ true
    → by_exponent u number three four ≡ power places (exponent_at number) (odd 53 s u.q u.k 1074)
negative_base u number three four t f e =
    ap₂ (by_exponent u number) (sym t) (sym f)
    ∙ finite-negative places (exponent_at number) u.q u.k u.positive
    ∙ ap (λ (s : Bool). power places (exponent_at number) (odd 53 s u.q u.k 1074)) (sym e)

pub returns-then-not-negative : goal.returns-then-not-negative
returns-then-not-negative c =
    let u = c.args.units in
    let e = exponent_at c.args.number in
    c.positive_power.ensures
    ∙ finite-positive places e u.q u.k u.positive
    ∙ ap (λ (s : Bool). power places e (odd 53 s u.q u.k 1074)) (sym c.if-not-negative.true)

pub returns-in-23 : goal.returns-in-23
returns-in-23 c =
    let i = c.args.number in
    ap neg c.positive_power-in-23.ensures
    ∙ negative_base c.args.units i true (is_four (exponent_at i)) (is_three_lem i c.requires.number_bound c.in-23.is) refl c.if-not-negative.false

pub returns-in-25 : goal.returns-in-25
returns-in-25 c =
    let i = c.args.number in
    let other : i ≡ 23 → ⊥ = λ e. omega (arith, e, c.in-25.is) in
    c.positive_power-in-25.ensures
    ∙ negative_base c.args.units i false true (not_three i c.requires.number_bound other) (is_four_lem i c.requires.number_bound c.in-25.is) c.if-not-negative.false

pub returns-in_default : goal.returns-in_default
unfolding div of_bits
returns-in_default c =
    let i = c.args.number in
    let not_23 : i ≡ 23 → ⊥ = λ e. omega (arith, e) in
    let not_25 : i ≡ 25 → ⊥ = λ e. omega (arith, e) in
    negative_base c.args.units i false false (not_three i c.requires.number_bound not_23) (not_four i c.requires.number_bound not_25) c.if-not-negative.false
