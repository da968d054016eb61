-- `atmosphere::altitudes::height_in` meets its contract: each answer is what the definition picks where the layer's test is as it was found.
-- Assumes nothing.
use Rattle.arithmetic.proofs.Kit.{◌≡◌, sym, ap, ◌∙◌, Bool, true, false, cond, ℕ, rules, Float, lt}
use Rattle.arithmetic.specs.Operators.{◌⊕◌, ◌⊖◌, ◌⊗◌, ◌⊘◌}
use Rattle.atmosphere.specs.Layers.{layers, base_height, base_temperature, gradient, negligible, isothermal}
use Rattle.atmosphere.specs.Altitudes.{scale_height}
use Rattle.atmosphere.proofs.altitudes.height_in.Statement.{statement}
use Rattle.atmosphere.proofs.altitudes.height_in.Tie as tie

-- the definition's choice, by its test
picked : (i : ℕ) (x y : Float) (t : Bool) → isothermal i ≡ t → cond t x y ≡ cond (isothermal i) x y
picked i x y t e = ap (λ (b : Bool). cond b x y) (sym e)

returns : tie.Need-returns-then-abs
unfolding layers
returns c =
    let i = c.args.number in
    ap (λ (x : Float). base_height i ⊕ scale_height i ⊗ x) c.ln.ensures
    ∙ picked i _ _ true (ap (λ (x : Float). lt x negligible) (sym c.abs.ensures) ∙ c.if-abs.true)

returns_2 : tie.Need-returns
unfolding layers
returns_2 c =
    let i = c.args.number in
    ap (λ (x : Float). base_height i ⊕ (base_temperature i ⊗ x ⊖ base_temperature i) ⊘ gradient i) c.power.ensures
    ∙ picked i _ _ false (ap (λ (x : Float). lt x negligible) (sym c.abs.ensures) ∙ c.if-abs.false)

pub height_in_spec : {M : Type 1} → statement M
height_in_spec =
    tie.close (tie.spec (λ c. search rules)
    (λ c. search rules)
    (λ c. search rules)
    (λ c κs. search rules)
    (λ c. search rules)
    (λ c. search rules)
    (λ c κs. search rules)
    returns
    (λ c. search rules)
    (λ c κs. search rules)
    (λ c. search rules)
    (λ c. search rules)
    (λ c. search rules)
    returns_2)
