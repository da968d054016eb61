-- `density_order::warmth::faa_density_altitudes_ft` meets its contract: the FAA's density altitude never falls with the temperature. Assumes nothing.
use Rattle.density_order.proofs.Kit.{rules}
use Rattle.density_order.proofs.Warmer.{faa-in_order}
use Rattle.density_order.proofs.Owned.{held}
use Rattle.density_order.proofs.warmth.faa_density_altitudes_ft.Statement.{statement}
use Rattle.density_order.proofs.warmth.faa_density_altitudes_ft.Tie as tie

returns : tie.Need-returns
returns c =
    let start = c.before.before in
    let a = start.args in
    let owned = start.well_formed in
    let cold = c.faa_rule_density_altitude_ft.ensures in
    let warm = c.faa_rule_density_altitude_ft-2.ensures in
    (cold, (warm, faa-in_order a.station_pressure_hpa a.cold_f a.warm_f (held a.station_pressure_hpa owned.0.1) (held a.cold_f owned.1.0.1) (held a.warm_f owned.1.1.0.1) cold warm))

pub faa_density_altitudes_ft_spec : {M : Type 1} → statement M
faa_density_altitudes_ft_spec = tie.close (tie.spec (λ c κs. search rules)
    (λ c κs. search rules)
    returns)
