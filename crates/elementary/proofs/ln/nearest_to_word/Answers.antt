-- The sign goes through the rounding. Assumes nothing.
use Rattle.arithmetic.proofs.Kit.{◌≡◌, sym, ap, ◌∙◌, Bool, cond, ℕ, suc, ◌+◌, ◌*◌, ◌^◌, arith, pos, negsuc, binary64, neg}
use Rattle.arithmetic.specs.Whole.{word_digits}
use Rattle.arithmetic.specs.Nearest.{nearest_ratio}
use Rattle.arithmetic.specs.Places.{places}
use Rattle.arithmetic.proofs.Rounding.{round-opposite}
use Rattle.elementary.proofs.ln.nearest_to_word.Goals as goal

pub returns-then-w : goal.returns-then-w
returns-then-w c =
    let w = c.args.w in
    let a : ℕ = word_digits places w in
    let next : w.whole * 2 ^ places + (w.part + 1) ≡ suc a = omega arith in
    ap neg (c.nearest_to_digits.ensures ∙ ap (λ (n : ℕ). nearest_ratio (pos n) (2 ^ places)) next)
    ∙ sym (round-opposite binary64 (suc a) (2 ^ places))
    ∙ ap (λ (s : Bool). nearest_ratio (cond s (negsuc a) (pos a)) (2 ^ places)) (sym c.if-w.true)
