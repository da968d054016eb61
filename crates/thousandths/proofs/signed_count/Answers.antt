-- A size with a sign is a whole number of 128 bits, which fits 32 bits where it is a count.
use Rattle.std.proofs.Common.{◌≡◌, ◌∙◌, refl, sym, ap, arith, Bool, true, false, ℤ, w32, to_z, Some, None, Result, Ok, Err, OkIff}
use Rattle.std.proofs.lemmas.Int.{ints}
use mir.Val.{SFits}
use Rattle.std.specs.Int.{w128}
use Rattle.std.specs.Result.{result_ok}
use Rattle.arithmetic.specs.Whole.{signed}
use Rattle.thousandths.specs.Thousandths.{in_range, counted}
use Rattle.thousandths.proofs.Words.{fits-in_range, in_range-fits}
use Rattle.thousandths.proofs.Laws.{in_range-counted, not_counted}
use Rattle.thousandths.proofs.signed_count.Goals as goal
use Rattle.thousandths.proofs.signed_count.Goals.{then-negative, else-negative}

counted_ok : {E : Type 0} (r : Result ℤ E) (n : ℤ) → OkIff r (SFits w32 n) n → result_ok r ≡ counted n
counted_ok (Ok v) n h = ap Some h.1 ∙ sym (in_range-counted n (fits-in_range n h.0))
counted_ok (Err e) n h = go (in_range n) refl
  where
    go : (b : Bool) → in_range n ≡ b → None ≡ counted n
    go true e = absurd (h (in_range-fits n e))
    go false e = sym (not_counted n e)

pub returns : goal.returns
returns c =
    let z : ℤ = to_z w128 c.if-negative.try_from-bits in
    let is : z ≡ signed c.args.negative c.args.size =
    elim c.if-negative.branch [
      | then-negative w ↦ rw w.if-negative.true (omega (arith, ints, w.try_from-is, c.from-size.ensures))
      | else-negative w ↦ rw w.if-negative.false (omega (arith, ints, w.try_from-is, c.from-size.ensures))
    ] in
    c.ok.ensures.value ∙ counted_ok c.try_from.result z c.try_from.ensures ∙ ap counted is
