-- `density_altitude::inverse::checked_station` meets its contract. Assumes nothing.
use Rattle.arithmetic.proofs.Kit.{◌≡◌, sym, ap, ◌∙◌, Bool, not, [], ◌∷◌, rules, Float}
use Rattle.refusal.specs.Outcomes.{accepted, row, ◌then◌}
use Rattle.refusal.specs.declared.inverse.Station.{Station}
use Rattle.density_altitude.specs.Inverse.{has_air, resolved_rows}
use Rattle.density_altitude.proofs.inverse.checked_station.Statement.{statement}
use Rattle.density_altitude.proofs.inverse.checked_station.Tie as tie

-- by the test of a station that is the resolved one
tested : (d : Float) {s s' : Station} {air t : Bool} → air ≡ t → air ≡ has_air s → s ≡ s' → (row (not t) 4 (d ∷ s.altitude_m ∷ []) ∷ [] then accepted s) ≡ (resolved_rows d s' then accepted s')
tested d {s} e f same = ap (λ (b : Bool). row (not b) 4 (d ∷ s.altitude_m ∷ []) ∷ [] then accepted s) (sym e ∙ f) ∙ ap (λ (x : Station). resolved_rows d x then accepted x) same

returns : tie.Need-returns-then-has_air
returns c = tested c.args.density_altitude_m c.if-has_air.true c.has_air.ensures c.resolve_atmosphere_for_density_altitude-station.ensures

returns_2 : tie.Need-returns
returns_2 c = tested c.args.density_altitude_m c.if-has_air.false c.has_air.ensures c.resolve_atmosphere_for_density_altitude-station.ensures

pub checked_station_spec : {M : Type 1} → statement M
checked_station_spec = tie.close (tie.spec (λ c κs. search rules)
    (λ c κs. search rules)
    returns
    returns_2)
