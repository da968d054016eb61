-- Whatever is guessed, the check is of the mantissa. Assumes nothing.
use Rattle.arithmetic.proofs.Kit.{sym, subst, ℕ, ◌*◌, ◌/◌, ◌^◌}
use Rattle.std.proofs.Common.{IfSome}
use Rattle.antilog.specs.Log.{mantissa_of}
use Rattle.antilog.specs.Among.{WithinTwo}
use Rattle.antilog.proofs.Window.{if_true}
use Rattle.elementary.proofs.guess.near_bits.Goals as goal

pub returns : goal.returns
returns c =
    let u = c.args.units in
    let P : ℕ → Type 0 = WithinTwo (mantissa_of (u.q * 2 ^ u.k)) in
    subst (λ r. IfSome r P) (sym c.then_some.ensures) (if_true P _ _ (λ e. subst (λ (m : ℕ). WithinTwo m (c.wrapping_sub_u64-bits.result / 2 ^ 4)) c.mantissa-m.ensures.value (c.within_two.ensures e)))
