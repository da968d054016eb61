-- `air::figures::air_figures` meets its contract. Assumes nothing.
use Rattle.arithmetic.proofs.Kit.{ap, ◌∙◌, rules, Float}
use Rattle.arithmetic.specs.Decimals.{hundred}
use Rattle.arithmetic.specs.Operators.{◌⊕◌, ◌⊗◌}
use Rattle.arithmetic.specs.Places.{places}
use Rattle.humid_air.specs.MoistAir.{ice_point}
use Rattle.humid_air.specs.Humidity.{mole_fraction_celsius}
use Rattle.air.specs.declared.conditions.Air.{Air}
use Rattle.air.specs.declared.conditions.Conditions.{Conditions}
use Rattle.air.specs.Moist.{density_of}
use Rattle.air.specs.Station.{air_of, atmosphere}
use Rattle.air.specs.Matched.{height_of_density, density_matched_altitude}
use Rattle.air.proofs.Served.{served}
use Rattle.air.proofs.figures.air_figures.Statement.{statement}
use Rattle.air.proofs.figures.air_figures.Tie as tie

returns : tie.Need-returns
unfolding atmosphere density_matched_altitude
returns c =
    let fraction = c.before in
    let shown = fraction.before in
    let readings = shown.before in
    let start = readings.before.before.before.before in
    let h = start.args.humidity_percent in
    let e = start.conditions_at-at.ensures in
    let matched : Conditions → Float = λ k. height_of_density places (density_of places (k.shown_c ⊕ ice_point) (k.shown_hpa ⊗ hundred) h).density_kg_m3 in
    λ i. record {
      shown_c = (e i).shown_c;
      shown_hpa = (e i).shown_hpa;
      air = (readings.air_of-air.ensures ∙ ap (λ (k : Conditions). air_of places k.temp_k k.pressure_pa h) e) i;
      uncapped_vapor_mole_fraction = (fraction.uncapped_mole_fraction.ensures ∙ ap (λ (k : Conditions). mole_fraction_celsius places k.shown_c k.shown_hpa h) e) i;
      density_matched_altitude_m = (c.density_matched_altitude_of.ensures ∙ ap (height_of_density places) shown.shown_density-density.ensures ∙ ap matched e) i;
    }

pub air_figures_spec : {M : Type 1} → statement M
air_figures_spec =
    tie.close (tie.spec (λ c κs. search rules)
    (λ c κs. search rules)
    (λ c κs. served _ _ _ c.saturation_at-known.ensures)
    (λ c κs. (served _ _ _ c.saturation_at-known.ensures, ap (λ (a : Air). a.density_kg_m3) c.air_of-air.ensures))
    (λ c κs. served _ _ _ c.saturation_at-known.ensures)
    (λ c κs. search rules)
    returns)
