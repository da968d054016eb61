-- `elementary::power::magnitude` meets its contract: its table computes to the magnitudes of the exponents. Assumes nothing.
use Rattle.arithmetic.proofs.Kit.{rules, Float, nan}
use lib.ListN.{get_or-map}
use Rattle.elementary.specs.Exponents.{exponents, of_double}
use Rattle.elementary.proofs.power.magnitude.Statement.{statement}
use Rattle.elementary.proofs.power.magnitude.Tie as tie

pub magnitude_spec : {M : Type 1} → statement M
magnitude_spec = tie.close (tie.spec (λ c. search rules)
    (λ c. search rules)
    (λ c. unfold exponents in get_or-map (λ (q : Float). (of_double q).magnitude) exponents c.args.number nan))
