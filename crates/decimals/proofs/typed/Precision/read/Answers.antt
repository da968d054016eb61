-- The first byte says whether there is a sign.
use Rattle.std.proofs.Common.{◌∙◌, arith}
use Rattle.decimals.proofs.Parts.{no_bytes, after_minus, after_plus, no_sign}
use Rattle.decimals.proofs.typed.Precision.read.Goals as goal

pub returns-in-empty : goal.returns-in-empty
returns-in-empty c = no_bytes c.args.self.places c.args.text.now (omega arith)

pub returns-in-45 : goal.returns-in-45
returns-in-45 c = c.after_sign.ensures ∙ after_minus c.args.self.places c.args.text.now (omega arith) (omega arith)

pub returns-in-43 : goal.returns-in-43
returns-in-43 c = c.after_sign-in-43.ensures ∙ after_plus c.args.self.places c.args.text.now (omega arith) (omega arith)

pub returns-in_default : goal.returns-in_default
returns-in_default c =
    c.after_sign-in_default.ensures ∙ no_sign c.args.self.places c.args.text.now (omega arith) (λ e. omega arith) (λ e. omega arith)
