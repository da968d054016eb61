-- One digit more before those of the turns passed.
use Rattle.std.proofs.Common.{◌≡◌, ◌∙◌, sym, ap, ℕ, ◌+◌, ◌/◌, ◌%◌, ◌^◌, [], ◌∷◌}
use Rattle.arithmetic.proofs.Kit.{pow-suc, div-one, div-div-eq-div-mul, add-one}
use Rattle.decimals.specs.Decimal.{last_digits}
use Rattle.decimals.proofs.Standing.{no_more, and_before, same_more}
use Rattle.decimals.proofs.shown.DecimalText.with_last_digits.Goals as goal

pub loop-init : goal.loop-init
unfolding last_digits
loop-init c = (sym (div-one c.args.n), no_more c.args.self)

pub loop-preserved : goal.loop-preserved
unfolding last_digits
loop-preserved c =
    let n : ℕ = c.args.n in
    let i : ℕ = c.loop.counter in
    let digit : 48 + c.loop.rest % 10 ≡ 48 + n / 10 ^ i % 10 = ap (λ (m : ℕ). 48 + m % 10) c.loop.invariant.0 in (
      rw (add-one, pow-suc 10 i) (ap (λ (m : ℕ). m / 10) c.loop.invariant.0 ∙ div-div-eq-div-mul n (10 ^ i) 10),
      rw add-one (and_before c.loop.invariant.1 (same_more (ap (λ (b : ℕ). b ∷ []) digit) c.with_byte-longer.ensures)),
    )
