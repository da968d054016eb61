-- `elementary::power::is_negative` meets its contract: its table computes to the signs of the exponents. Assumes nothing.
use Rattle.arithmetic.proofs.Kit.{rules, Float, nan}
use lib.ListN.{get_or-map}
use Rattle.elementary.specs.Exponents.{exponents, of_double}
use Rattle.elementary.proofs.power.is_negative.Statement.{statement}
use Rattle.elementary.proofs.power.is_negative.Tie as tie

pub is_negative_spec : {M : Type 1} → statement M
is_negative_spec = tie.close (tie.spec (λ c. search rules)
    (λ c. unfold exponents in get_or-map (λ (q : Float). (of_double q).negative) exponents c.args.number nan))
