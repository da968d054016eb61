-- The rows of the inverse, then those of the humidity, then those of the air at the station that is found.
use Rattle.refusal.specs.declared.Refusal.{Refusal}
use Rattle.refusal.specs.declared.inverse.Station.{Station}
use Rattle.mast.proofs.Kit.{◌≡◌, sym, ap, ◌∙◌, Float, rules, places, Option, Result, Some, Reading, Outcome, accepted, ◌⟫◌, ◌then◌, outcome, passed, refusal, after_check, then_append, then_next, resolve, station_rows, station, Figures, Readings, temperature, humidity, entry_of, humidity_rows, present, given_temperature, at_station, air_outcome, way_rows, resolved_by}
use Rattle.mast.proofs.judge.inverse_answer.Goals.{After-given_temperature-temperature}
use Rattle.mast.proofs.judge.inverse_answer.Goals as goal

-- a station with the humidity of the readings
abbrev humid : Readings → Station → Outcome Figures
humid r s = present humidity_rows (entry_of r humidity) then air_outcome (at_station s r)

after_station : (d : Float) (r : Readings) {o : Outcome Station} {t : Reading} → o ≡ station places d t → t ≡ given_temperature (entry_of r temperature)
    → (o ⟫ humid r) ≡ (way_rows r (Some d) then air_outcome (resolved_by r (Some d)))
unfolding station
after_station d r e et =
    let given = given_temperature (entry_of r temperature) in
    ap (λ (o : Outcome Station). o ⟫ humid r) (e ∙ ap (station places d) et)
    ∙ then_next (station_rows places d given) (accepted (resolve places d given)) (humid r)
    ∙ sym (then_append (station_rows places d given) (present humidity_rows (entry_of r humidity)) (air_outcome (at_station (resolve places d given) r)))

after_humidity : (r : Readings) (s : Station) {k k' : Result (Unit {0}) Refusal} {e : Option Float} → k ≡ k' → outcome k ≡ passed (present humidity_rows e) → e ≡ entry_of r humidity
    → (outcome k' ⟫ (λ _. air_outcome (at_station s r))) ≡ humid r s
after_humidity r s told e looked =
    after_check (present humidity_rows (entry_of r humidity)) (air_outcome (at_station s r)) told (e ∙ ap (λ (x : Option Float). passed (present humidity_rows x)) looked)

given : (c : After-given_temperature-temperature) → c.given_temperature-temperature.result ≡ given_temperature (entry_of c.args.readings temperature)
given c = c.given_temperature-temperature.ensures ∙ ap given_temperature c.entry_of.ensures

pub returns-in_err-station : goal.returns-in_err-station
returns-in_err-station c =
    let e : outcome c.from_residual.result ≡ refusal c.in_err-station.field-0.0 = search rules in
    e ∙ after_station c.args.density_altitude_m c.args.readings c.in_err-station.ensures (given (goal.at.returns-in_err-station c).After-given_temperature-temperature)

pub returns-in_err-check_humidity : goal.returns-in_err-check_humidity
returns-in_err-check_humidity c =
    let r = c.args.readings in
    let e : outcome c.from_residual-in_err-check_humidity.result ≡ refusal c.in_err-check_humidity.field-0.0 = search rules in
    e
    ∙ after_humidity r c.in_ok-station.station c.in_err-check_humidity.was c.check_humidity.ensures c.entry_of-2.ensures
    ∙ after_station c.args.density_altitude_m r c.in_ok-station.ensures (given (goal.at.returns-in_err-check_humidity c).After-given_temperature-temperature)

pub returns : goal.returns
returns c =
    let r = c.args.readings in
    c.answer_of.ensures
    ∙ ap air_outcome c.at_station.ensures
    ∙ after_humidity r c.in_ok-station.station c.in_ok-check_humidity.was c.check_humidity.ensures c.entry_of-2.ensures
    ∙ after_station c.args.density_altitude_m r c.in_ok-station.ensures (given (goal.at.returns c).After-given_temperature-temperature)
