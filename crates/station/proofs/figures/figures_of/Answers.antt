-- The figures are those of the definition, figure by figure.
use Rattle.arithmetic.proofs.Kit.{ap, ◌∙◌}
use Rattle.arithmetic.specs.Places.{places}
use Rattle.atmosphere.specs.Altitudes.{pressure_altitude}
use Rattle.air.specs.declared.figures.AirFigures.{AirFigures}
use Rattle.station.specs.Figures.{in_cipm_range, figures_with}
use Rattle.station.proofs.figures.figures_of.Goals as goal

pub returns : goal.returns
unfolding figures_with
returns c =
    let e = c.air_figures-found.ensures in
    λ i. record {
      figures = record {
        altitude_m = c.args.resolved.altitude_m;
        temperature_c = (e i).shown_c;
        pressure_hpa = (e i).shown_hpa;
        density_kg_m3 = (e i).air.density_kg_m3;
        speed_of_sound_mps = (e i).air.speed_of_sound_mps;
        pressure_altitude_m = (c.pressure_altitude_m.ensures ∙ ap (λ (f : AirFigures). pressure_altitude places f.shown_hpa) e) i;
        density_matched_altitude_m = (e i).density_matched_altitude_m;
        vapor_mole_fraction = (e i).air.vapor_mole_fraction;
        in_cipm_range = (c.in_cipm_range.ensures ∙ ap (λ (f : AirFigures). in_cipm_range f.shown_c f.shown_hpa) e) i;
      };
      uncapped_vapor_mole_fraction = (e i).uncapped_vapor_mole_fraction;
    }
