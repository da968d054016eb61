-- `density_altitude::inverse::station_at` meets its contract: its exponent is number 12 of elementary's table. Assumes nothing.
use Rattle.arithmetic.proofs.Kit.{ap, rules, Float, of_bits, div}
use Rattle.arithmetic.specs.Operators.{◌⊗◌}
use Rattle.elementary.specs.Power.{power_at}
use Rattle.atmosphere.specs.Station.{standard_pressure}
use Rattle.atmosphere.specs.Altitudes.{foot}
use Rattle.density_altitude.proofs.inverse.station_at.Statement.{statement}
use Rattle.density_altitude.proofs.inverse.station_at.Tie as tie

returns : tie.Need-returns
unfolding power_at of_bits div
returns c =
    let a = c.args in
    ap (λ (x : Float). record { altitude_m = a.pressure_alt_ft ⊗ foot; temperature_c = a.temperature_c; pressure_hpa = standard_pressure ⊗ x }) c.power.ensures

pub station_at_spec : {M : Type 1} → statement M
station_at_spec = tie.close (tie.spec (λ c κs. search rules)
    returns)
