-- `density_altitude::inverse::resolve_atmosphere_for_density_altitude` meets its contract, by whether a temperature is given. Assumes nothing.
use Rattle.arithmetic.proofs.Kit.{sym, ap, ◌∙◌, rules, of_bits, add, mul, div}
use Rattle.density_altitude.specs.Inverse.{resolve}
use Rattle.density_altitude.proofs.inverse.resolve_atmosphere_for_density_altitude.Statement.{statement}
use Rattle.density_altitude.proofs.inverse.resolve_atmosphere_for_density_altitude.Tie as tie
use Rattle.arithmetic.specs.Places.{places}

returns : tie.Need-returns-in-Given
unfolding of_bits add mul div
returns c = c.station_at.ensures ∙ ap (resolve places c.args.density_altitude_m) (sym c.in-Given.is)

returns_2 : tie.Need-returns-in-FromLayer
unfolding of_bits add mul div
returns_2 c = c.station_at-in-FromLayer.ensures ∙ ap (resolve places c.args.density_altitude_m) (sym c.in-FromLayer.is)

pub resolve_atmosphere_for_density_altitude_spec : {M : Type 1} → statement M
resolve_atmosphere_for_density_altitude_spec = tie.close (tie.spec (λ c. search rules)
    (λ c κs. search rules)
    (λ c. search rules)
    (λ c κs. search rules)
    returns
    returns_2)
