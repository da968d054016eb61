-- By what follows the digits.
use Rattle.std.proofs.Common.{◌∙◌, arith}
use Rattle.decimals.proofs.TypedDigits.{digits_within_lem}
use Rattle.decimals.proofs.Parts.{no_digits, split, whole-only, after-point, other_byte}
use Rattle.decimals.proofs.typed.Precision.after_sign.Goals as goal

pub returns-then-n-eq0 : goal.returns-then-n-eq0
returns-then-n-eq0 c = let a = c.args in no_digits a.self.places a.negative a.text.now c.digits_in-n.result c.digits_in-n.ensures c.if-n-eq0.true

pub split_at-requires : goal.split_at-requires
split_at-requires c = omega (arith, c.digits_in-n.ensures, digits_within_lem c.args.text.now)

pub returns-in-empty : goal.returns-in-empty
returns-in-empty c =
    let a = c.args in
    let rest = c.split_at.result.1.now in
    c.from_digits.ensures
    ∙ whole-only a.self.places a.negative c.split_at.result.0.now rest (omega arith)
    ∙ split a.self.places a.negative a.text.now c.digits_in-n.result c.digits_in-n.ensures c.if-n-eq0.false c.split_at.ensures.front c.split_at.ensures.back

pub returns-in-46 : goal.returns-in-46
returns-in-46 c =
    let a = c.args in
    let rest = c.split_at.result.1.now in
    c.with_decimals.ensures
    ∙ after-point a.self.places a.negative c.split_at.result.0.now rest (omega arith) (omega arith)
    ∙ split a.self.places a.negative a.text.now c.digits_in-n.result c.digits_in-n.ensures c.if-n-eq0.false c.split_at.ensures.front c.split_at.ensures.back

pub returns-in_default : goal.returns-in_default
returns-in_default c =
    let a = c.args in
    let rest = c.split_at.result.1.now in
    other_byte a.self.places a.negative c.split_at.result.0.now rest (omega arith) (λ e. omega arith)
    ∙ split a.self.places a.negative a.text.now c.digits_in-n.result c.digits_in-n.ensures c.if-n-eq0.false c.split_at.ensures.front c.split_at.ensures.back
