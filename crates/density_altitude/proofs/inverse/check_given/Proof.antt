-- `density_altitude::inverse::check_given` meets its contract. Assumes nothing.
use Rattle.arithmetic.proofs.Kit.{sym, ap, ◌∙◌, rules}
use Rattle.atmosphere.specs.declared.given.Reading.{Reading}
use Rattle.refusal.specs.Outcomes.{passed}
use Rattle.density_altitude.specs.Inverse.{given_rows}
use Rattle.density_altitude.proofs.inverse.check_given.Statement.{statement}
use Rattle.density_altitude.proofs.inverse.check_given.Tie as tie

pub check_given_spec : {M : Type 1} → statement M
check_given_spec =
    tie.close (tie.spec (λ c. search rules)
    (λ c κs. search rules)
    (λ c. search rules)
    (λ c. c.check_temperature.ensures ∙ ap (λ (t : Reading). passed (given_rows t)) (sym c.in-Given.is))
    (λ c. ap (λ (t : Reading). passed (given_rows t)) (sym c.in-FromLayer.is)))
