-- The checks are the rows.
use Rattle.mast.proofs.Kit.{◌∙◌, rules, outcome, refusal, ordinary_rows, ordinary, air_outcome, after_check, ◌≡◌}
use Rattle.mast.proofs.judge.ordinary_answer.Goals as goal

pub returns-in_err-check_ordinary : goal.returns-in_err-check_ordinary
returns-in_err-check_ordinary c =
    let r = c.args.readings in
    let e : outcome c.from_residual.result ≡ refusal c.in_err-check_ordinary.field-0.0 = search rules in
    e ∙ after_check (ordinary_rows r) (air_outcome (ordinary r)) c.in_err-check_ordinary.was c.check_ordinary.ensures
