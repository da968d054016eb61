-- `atmosphere::layers::layer_pressure` meets its contract. Assumes nothing.
use Rattle.arithmetic.proofs.Kit.{◌≡◌, refl, sym, ap, ◌∙◌, Bool, true, false, cond, true≢false, List, [], ◌∷◌, ℕ, zero, suc, ◌<◌, arith, rules, get_or, Float, of_bits, lt}
use Rattle.arithmetic.specs.Operators.{◌⊗◌}
use Rattle.elementary.specs.Exponents.{of_double, pressure_exponent}
use Rattle.elementary.specs.Power.{power, power_at}
use Rattle.arithmetic.specs.Doubles.{abs_double}
use Rattle.atmosphere.specs.Layers.{layers, base_pressure, gradient, negligible, isothermal, isothermal_pressure, gradient_pressure, layer_pressure}
use Rattle.atmosphere.proofs.layers.layer_pressure.Statement.{statement}
use Rattle.atmosphere.proofs.layers.layer_pressure.Tie as tie
use Rattle.arithmetic.specs.Places.{places}

-- the code's numbers of the layers' exponents
numbers : List ℕ
numbers = 0 ∷ 27 ∷ 1 ∷ 2 ∷ 27 ∷ 3 ∷ 4 ∷ []

-- a layer that is not isothermal has its exponent -g₀ / (β R) in elementary's table, at its number
layer_power : (p i : ℕ) (x : Float) → i < 7 → isothermal i ≡ false → power_at p (get_or numbers i 0) x ≡ power p (of_double (pressure_exponent (gradient i))) x
unfolding numbers layers of_bits lt abs_double power_at
layer_power p zero x h e = refl
layer_power p (suc zero) x h e = absurd (true≢false e)
layer_power p (suc (suc zero)) x h e = refl
layer_power p (suc (suc (suc zero))) x h e = refl
layer_power p (suc (suc (suc (suc zero)))) x h e = absurd (true≢false e)
layer_power p (suc (suc (suc (suc (suc zero))))) x h e = refl
layer_power p (suc (suc (suc (suc (suc (suc zero)))))) x h e = refl
layer_power p (suc (suc (suc (suc (suc (suc (suc i))))))) x h e = absurd (omega arith)

-- the definition by its test
by_test : (p i : ℕ) (d T : Float) (t : Bool) → isothermal i ≡ t → cond t (isothermal_pressure p i d) (gradient_pressure p i T) ≡ layer_pressure p i d T
unfolding layer_pressure
by_test p i d T t e = cc

returns : tie.Need-returns-then-abs
unfolding layers
returns c =
    let start = c.before.before.before.before in
    let i = start.args.number in
    ap (λ (x : Float). base_pressure i ⊗ x) c.exp.ensures
    ∙ by_test places i start.args.height_diff start.args.temperature true (ap (λ (x : Float). lt x negligible) (sym c.abs.ensures) ∙ c.if-abs.true)

returns_2 : tie.Need-returns
unfolding numbers layers
returns_2 c =
    let start = c.before.before.before.before in
    let i = start.args.number in
    let tested : isothermal i ≡ false = ap (λ (x : Float). lt x negligible) (sym c.abs.ensures) ∙ c.if-abs.false in
    ap (λ (x : Float). base_pressure i ⊗ x) (c.power.ensures ∙ layer_power places i _ start.requires tested) ∙ by_test places i start.args.height_diff start.args.temperature false tested

pub layer_pressure_spec : {M : Type 1} → statement M
layer_pressure_spec =
    tie.close (tie.spec (λ c. search rules)
    (λ c. search rules)
    (λ c. search rules)
    (λ c κs. search rules)
    (λ c. search rules)
    (λ c. search rules)
    (λ c κs. search rules)
    returns
    (λ c. search rules)
    (λ c. search rules)
    (λ c. search rules)
    (λ c. search rules)
    (λ c κs. search rules)
    returns_2)
