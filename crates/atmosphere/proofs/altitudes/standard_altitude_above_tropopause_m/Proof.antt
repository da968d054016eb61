-- `atmosphere::altitudes::standard_altitude_above_tropopause_m` meets its contract, by the tables of proofs/Chained. Assumes nothing.
use Rattle.arithmetic.proofs.Kit.{ap, ◌∙◌, ℕ, suc, ◌<◌, arith, get_or, Float, nan, le}
use Rattle.arithmetic.specs.Decimals.{one}
use Rattle.arithmetic.specs.Operators.{◌⊘◌}
use Rattle.elementary.specs.Exponents.{of_double, density_exponent}
use Rattle.elementary.specs.Power.{power, power_at}
use Rattle.atmosphere.specs.Layers.{gradient}
use Rattle.atmosphere.specs.Altitudes.{height_in, chained_ratio, height_of_ratio}
use Rattle.atmosphere.proofs.FirstLayer.{first-le}
use Rattle.atmosphere.proofs.HeightFrom.{height_from-same}
use Rattle.atmosphere.proofs.Chained.{ratios, ratio_numbers, ratio-at, ratio-power}
use Rattle.atmosphere.proofs.altitudes.standard_altitude_above_tropopause_m.Statement.{statement}
use Rattle.atmosphere.proofs.altitudes.standard_altitude_above_tropopause_m.Tie as tie
use Rattle.arithmetic.specs.Places.{places}

in_table : (c : tie.After-layer_from-number) → c.layer_from-number.result < 7
unfolding ratios
in_table c = omega (arith, c.layer_from-number.ensures, first-le (λ (i : ℕ). le (get_or ratios (suc i) nan) c.args.ratio) 5 1)

returns : tie.Need-returns
unfolding ratios ratio_numbers height_of_ratio
returns c =
    let x = c.args.ratio in
    let table : ℕ → Float = λ i. get_or ratios i nan in
    let raised : ℕ → Float → Float = λ i. power_at places (get_or ratio_numbers i 0) in
    c.height_in.ensures
    ∙ ap (λ (i : ℕ). height_in places (raised i) i (table i) x) c.layer_from-number.ensures
    ∙ height_from-same places raised (λ (i : ℕ). power places (of_double (one ⊘ density_exponent (gradient i)))) table (chained_ratio places) 5 1 x (λ j l h. ratio-at j (omega arith)) (λ j b l h. ratio-power j b x l (omega arith))

pub standard_altitude_above_tropopause_m_spec : {M : Type 1} → statement M
standard_altitude_above_tropopause_m_spec =
    tie.close (tie.spec (λ c κs. omega arith)
    (λ c. omega (arith, in_table c.before))
    (λ c. in_table c.before)
    (λ c. omega (arith, in_table c.before.before.before))
    (λ c. in_table c.before.before.before)
    (λ c κs. in_table c.before.before.before.before)
    returns)
