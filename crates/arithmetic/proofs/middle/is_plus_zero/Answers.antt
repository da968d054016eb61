use Rattle.arithmetic.proofs.Kit.{sym, ap, ◌∙◌, Bool, not, ◌&&◌}
use Rattle.std.specs.Float.{is_sign_negative}
use Rattle.arithmetic.proofs.Zeros.{plus-zero}
use Rattle.arithmetic.proofs.middle.is_plus_zero.Goals as goal

pub returns-then-x : goal.returns-then-x
returns-then-x c = c.is_sign_positive.ensures ∙ sym (ap (λ (t : Bool). t && not (is_sign_negative c.args.x)) c.if-x.true) ∙ plus-zero c.args.x

pub returns-else-x : goal.returns-else-x
returns-else-x c = c.if-x.false ∙ sym (ap (λ (t : Bool). t && not (is_sign_negative c.args.x)) c.if-x.false) ∙ plus-zero c.args.x
