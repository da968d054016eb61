-- Only a negative base has another power to the exponent 3. Assumes nothing.
use Rattle.arithmetic.proofs.Kit.{sym, ap, ◌∙◌, Bool, true≢false, not, pos, fin, neg}
use Rattle.elementary.specs.Exponents.{exponent_at}
use Rattle.elementary.specs.Power.{infinity_or_zero, power}
use Rattle.arithmetic.specs.Places.{places}
use Rattle.elementary.proofs.Exponents.{is_three_lem, not_three}
use Rattle.elementary.proofs.PowerCases.{zero-three, zero-else}
use Rattle.elementary.proofs.power.zero_power.Goals as goal
use Rattle.elementary.proofs.power.zero_power.Goals.{else-negative-via-then-negative+else-number-eq-THREE, else-negative-via-else-negative}

pub returns-then-number-eq-THREE : goal.returns-then-number-eq-THREE
unfolding neg
returns-then-number-eq-THREE c =
    let e = exponent_at c.args.number in
    ap neg c.infinity_or_zero.ensures ∙ zero-three places e (is_three_lem c.args.number c.requires c.if-number-eq-THREE.true) ∙ ap (λ (s : Bool). power places e (fin s 0 (pos 0))) (sym c.if-negative.true)

pub returns : goal.returns
returns c =
    c.infinity_or_zero-2.ensures ∙ ap (λ (b : Bool). infinity_or_zero (not b)) c.is_negative.ensures
    ∙ zero-else places (exponent_at c.args.number) c.args.negative
    (λ t. elim c.else-negative.branch [
      | else-negative-via-then-negative+else-number-eq-THREE w ↦ not_three c.args.number c.requires w.if-number-eq-THREE.false
      | else-negative-via-else-negative w ↦ absurd (true≢false (sym t ∙ w.if-negative.false))
    ])
