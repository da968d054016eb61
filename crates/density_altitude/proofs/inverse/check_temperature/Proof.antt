-- `density_altitude::inverse::check_temperature` meets its contract. Assumes nothing.
use Rattle.arithmetic.proofs.Kit.{ap, ◌∙◌, Bool, not, [], ◌∷◌, rules, le}
use Rattle.arithmetic.specs.Doubles.{is_finite}
use Rattle.density_altitude.specs.Inverse.{absolute_zero}
use Rattle.refusal.specs.Outcomes.{row, passed}
use Rattle.refusal.proofs.Rows.{first-passed}
use Rattle.density_altitude.proofs.inverse.check_temperature.Statement.{statement}
use Rattle.density_altitude.proofs.inverse.check_temperature.Tie as tie

returns : tie.Need-returns
returns c =
    let t = c.args.temperature_c in
    first-passed (row (not (is_finite t)) 2 (t ∷ []) ∷ []) (row (le t absolute_zero) 3 (t ∷ []) ∷ []) c.first_of.ensures
    (c.refuse_if.ensures ∙ ap (λ (b : Bool). passed (row (not b) 2 (t ∷ []) ∷ [])) c.is_finite.ensures)
    c.refuse_if-2.ensures

pub check_temperature_spec : {M : Type 1} → statement M
check_temperature_spec = tie.close (tie.spec (λ c κs. search rules)
    (λ c κs. search rules)
    (λ c κs. search rules)
    (λ c κs. search rules)
    returns)
