-- The digits of the whole number before its decimals, and a sign before both.
use Rattle.std.proofs.Common.{◌≡◌, ◌∙◌, ap, ℕ, ◌/◌, ◌^◌, ◌++◌, arith}
use Rattle.arithmetic.proofs.Kit.{pow-le-pow_right, lit<, lt-ltb, le-ltb}
use Rattle.decimals.specs.declared.shown.DecimalText.{DecimalText}
use Rattle.decimals.specs.Decimal.{digits, pointed, count_text}
use Rattle.decimals.specs.Places.{in_sixteen, Before}
use Rattle.decimals.proofs.shown.count_text.Goals as goal
use Rattle.decimals.proofs.shown.count_text.Goals.{else-negative-via-then-negative+else-n-gt0, else-negative-via-else-negative}

pub nonzero_div-n : goal.nonzero_div-n
nonzero_div-n c = omega (arith, c.power_of_ten.ensures, pow-le-pow_right {n = 10} (lit< tt) {i = 0} {j = c.args.decimals} (omega arith))

-- the text without its sign
size : (k n p : ℕ) {text r : DecimalText} → p ≡ 10 ^ k → text ≡ in_sixteen (pointed k n) → Before text (digits (n / p)) r → r ≡ in_sixteen (digits (n / 10 ^ k) ++ pointed k n)
size k n p power decimals before =
    before.stands (pointed k n) decimals ∙ ap (λ (q : ℕ). in_sixteen (digits (n / q) ++ pointed k n)) power

pub returns-then-n-gt0 : goal.returns-then-n-gt0
unfolding count_text
returns-then-n-gt0 c =
    let a = c.args in
    let sized = size a.decimals a.n c.power_of_ten.result c.power_of_ten.ensures c.decimals_text.ensures c.with_digits-size.ensures in
    rw (c.if-negative.true, lt-ltb 0 a.n c.if-n-gt0.true) (c.with_byte.ensures.stands (digits (a.n / 10 ^ a.decimals) ++ pointed a.decimals a.n) sized)

pub returns : goal.returns
unfolding count_text
returns c =
    let a = c.args in
    let sized = size a.decimals a.n c.power_of_ten.result c.power_of_ten.ensures c.decimals_text.ensures c.with_digits-size.ensures in
    elim c.else-negative.branch [
      | else-negative-via-then-negative+else-n-gt0 w ↦ rw (w.if-negative.true, le-ltb 0 a.n w.if-n-gt0.false) sized
      | else-negative-via-else-negative w ↦ rw w.if-negative.false sized
    ]
