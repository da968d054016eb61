-- The checks of the inputs are the rows, in their order.
use Rattle.std.specs.Prelude.{Result}
use Rattle.refusal.specs.declared.Refusal.{Refusal}
use Rattle.arithmetic.proofs.Kit.{◌≡◌, sym, ap, ◌∙◌, Bool, not, [], ◌∷◌, rules, Float}
use Rattle.arithmetic.specs.Places.{places}
use Rattle.atmosphere.specs.declared.given.Reading.{Reading}
use Rattle.arithmetic.specs.Doubles.{is_finite}
use Rattle.refusal.specs.Outcomes.{Outcome, accepted, refusal, row, ◌⟫◌, ◌then◌, passed, outcome}
use Rattle.refusal.proofs.Rows.{then_append, first-passed, after_check}
use Rattle.refusal.specs.declared.inverse.Station.{Station}
use Rattle.density_altitude.specs.Inverse.{resolve, given_rows, input_rows, resolved_rows, station}
use Rattle.density_altitude.proofs.inverse.station_for_density_altitude.Goals.{After-first_of}
use Rattle.density_altitude.proofs.inverse.station_for_density_altitude.Goals as goal

abbrev last : Float → Reading → Outcome Station
last d t = resolved_rows d (resolve places d t) then accepted (resolve places d t)

-- what comes after the checks of the inputs
after : (d : Float) (t : Reading) {k k' : Result (Unit {0}) Refusal} → k ≡ k' → outcome k ≡ passed (input_rows d t) → (outcome k' ⟫ (λ _. last d t)) ≡ station places d t
unfolding station
after d t told e = after_check (input_rows d t) (last d t) told e ∙ sym (then_append (input_rows d t) (resolved_rows d (resolve places d t)) (accepted (resolve places d t)))

inputs : (c : After-first_of) → outcome c.first_of.result ≡ passed (input_rows c.args.density_altitude_m c.args.explicit_temperature_c)
inputs c =
    let d = c.args.density_altitude_m in
    first-passed (row (not (is_finite d)) 1 (d ∷ []) ∷ []) (given_rows c.args.explicit_temperature_c) c.first_of.ensures
    (c.refuse_if-altitude.ensures ∙ ap (λ (b : Bool). passed (row (not b) 1 (d ∷ []) ∷ [])) c.is_finite.ensures)
    c.check_given.ensures

pub returns-in_err-first_of : goal.returns-in_err-first_of
returns-in_err-first_of c =
    let e : outcome c.from_residual.result ≡ refusal c.in_err-first_of.field-0.0 = search rules in
    e ∙ after c.args.density_altitude_m c.args.explicit_temperature_c c.in_err-first_of.was (inputs (goal.at.returns-in_err-first_of c).After-first_of)

pub returns : goal.returns
returns c = c.checked_station.ensures ∙ after c.args.density_altitude_m c.args.explicit_temperature_c c.in_ok-first_of.was (inputs (goal.at.returns c).After-first_of)
