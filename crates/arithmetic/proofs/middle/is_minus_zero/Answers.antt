use Rattle.arithmetic.proofs.Kit.{sym, ap, ◌∙◌, Bool, ◌&&◌}
use Rattle.std.specs.Float.{is_sign_negative}
use Rattle.arithmetic.proofs.Zeros.{minus-zero}
use Rattle.arithmetic.proofs.middle.is_minus_zero.Goals as goal

pub returns-then-x : goal.returns-then-x
returns-then-x c = c.is_sign_negative.ensures ∙ sym (ap (λ (t : Bool). t && is_sign_negative c.args.x) c.if-x.true) ∙ minus-zero c.args.x

pub returns-else-x : goal.returns-else-x
returns-else-x c = c.if-x.false ∙ sym (ap (λ (t : Bool). t && is_sign_negative c.args.x) c.if-x.false) ∙ minus-zero c.args.x
