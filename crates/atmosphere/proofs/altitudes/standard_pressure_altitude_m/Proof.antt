-- `atmosphere::altitudes::standard_pressure_altitude_m` meets its contract, by the tables of proofs/Chained. Assumes nothing.
use Rattle.arithmetic.proofs.Kit.{ap, ◌∙◌, ℕ, suc, ◌<◌, arith, get_or, Float, nan, le}
use Rattle.elementary.specs.Exponents.{of_double, temperature_exponent}
use Rattle.elementary.specs.Power.{power, power_at}
use Rattle.atmosphere.specs.Layers.{gradient}
use Rattle.atmosphere.specs.Altitudes.{height_in, chained_pressure, height_of_pressure}
use Rattle.atmosphere.proofs.FirstLayer.{first-le}
use Rattle.atmosphere.proofs.HeightFrom.{height_from-same}
use Rattle.atmosphere.proofs.Chained.{pressures, temperature_numbers, pressure_at_lem, temperature-power}
use Rattle.atmosphere.proofs.altitudes.standard_pressure_altitude_m.Statement.{statement}
use Rattle.atmosphere.proofs.altitudes.standard_pressure_altitude_m.Tie as tie
use Rattle.arithmetic.specs.Places.{places}

in_table : (c : tie.After-layer_from-number) → c.layer_from-number.result < 7
unfolding pressures
in_table c = omega (arith, c.layer_from-number.ensures, first-le (λ (i : ℕ). le (get_or pressures (suc i) nan) c.args.pressure_pa) 6 0)

returns : tie.Need-returns
unfolding pressures temperature_numbers height_of_pressure
returns c =
    let x = c.args.pressure_pa in
    let table : ℕ → Float = λ i. get_or pressures i nan in
    let raised : ℕ → Float → Float = λ i. power_at places (get_or temperature_numbers i 0) in
    c.height_in.ensures
    ∙ ap (λ (i : ℕ). height_in places (raised i) i (table i) x) c.layer_from-number.ensures
    ∙ height_from-same places raised (λ (i : ℕ). power places (of_double (temperature_exponent (gradient i)))) table (chained_pressure places) 6 0 x (λ j l h. pressure_at_lem j (omega arith)) (λ j b l h. temperature-power j b x (omega arith))

pub standard_pressure_altitude_m_spec : {M : Type 1} → statement M
standard_pressure_altitude_m_spec = tie.close (tie.spec (λ c κs. omega arith)
    (λ c. omega (arith, in_table c.before))
    (λ c. in_table c.before)
    (λ c. omega (arith, in_table c.before.before.before))
    (λ c. in_table c.before.before.before)
    (λ c κs. in_table c.before.before.before.before)
    returns)
