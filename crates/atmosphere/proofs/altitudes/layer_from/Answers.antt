-- By the test of the layer that the loop is at. Assumes nothing.
use Rattle.arithmetic.proofs.Kit.{◌≡◌, sym, ap, ◌∙◌, Bool, true, false, cond, ℕ, suc, ◌+◌, ◌-◌, ◌<◌, arith, rules, get_or, Float, nan, le}
use Rattle.atmosphere.specs.Layers.{first_from}
use Rattle.atmosphere.specs.Altitudes.{layer_from}
use Rattle.atmosphere.proofs.FirstLayer.{first-step}
use Rattle.atmosphere.proofs.altitudes.layer_from.Goals as goal

by_test : (v : ℕ → Float) (i : ℕ) (x : Float) (t : Bool) → i < 6 → le (v (i + 1)) x ≡ t → layer_from v (6 - i) i x ≡ cond t i (layer_from v (6 - (i + 1)) (i + 1) x)
by_test v i x t h e =
    let next : suc i ≡ i + 1 = omega arith in
    first-step (λ (j : ℕ). le (v (suc j)) x) i t h (ap (λ (k : ℕ). le (v k) x) next ∙ e)

pub returns-then-value-at_bases : goal.returns-then-value-at_bases
returns-then-value-at_bases c =
    sym (c.loop-number.invariant ∙ by_test (λ (i : ℕ). get_or c.args.at_bases i nan) c.loop-number.number c.args.value true (search rules) c.if-value-at_bases.true)

pub loop-number-preserved : goal.loop-number-preserved
loop-number-preserved c =
    c.loop-number.invariant ∙ by_test (λ (i : ℕ). get_or c.args.at_bases i nan) c.loop-number.number c.args.value false (search rules) c.if-value-at_bases.false

pub returns : goal.returns
unfolding first_from
returns c =
    let last : c.loop-number.number ≡ 6 = search rules in
    sym (c.loop-number.invariant ∙ ap (λ (n : ℕ). layer_from (λ (i : ℕ). get_or c.args.at_bases i nan) (6 - n) n c.args.value) last)
