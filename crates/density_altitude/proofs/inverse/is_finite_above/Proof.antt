-- `density_altitude::inverse::is_finite_above` meets its contract. Assumes nothing.
use Rattle.arithmetic.proofs.Kit.{sym, ap, ◌∙◌, Bool, ◌&&◌, rules, lt}
use Rattle.density_altitude.proofs.inverse.is_finite_above.Statement.{statement}
use Rattle.density_altitude.proofs.inverse.is_finite_above.Tie as tie

pub is_finite_above_spec : {M : Type 1} → statement M
is_finite_above_spec =
    tie.close (tie.spec (λ c κs. search rules)
    (λ c. let a = c.args in ap (λ (t : Bool). t && lt a.bound a.x) (sym c.if-is_finite.true ∙ c.is_finite.ensures))
    (λ c. let a = c.args in c.if-is_finite.false ∙ ap (λ (t : Bool). t && lt a.bound a.x) (sym c.if-is_finite.false ∙ c.is_finite.ensures)))
