-- The laws of proofs/Scaled, with the 11 digits that 64 are more than 53.
use Rattle.arithmetic.proofs.Kit.{sym, ap, ◌∙◌, subst, ◌≡◌, ℕ, ◌+◌, ◌*◌, ◌^◌, ◌≤◌, ◌<◌, arith, binary64, of_bits, closest}
use Rattle.arithmetic.proofs.Scaled.{pattern-at_most, normal-bits, pattern-no_nan}
use Rattle.arithmetic.proofs.nearest.normal.Goals as goal

-- the pattern is at most the infinity's
bounded : (y d q : ℕ) → y < 2 ^ 64 → d ≤ 2045 → q ≡ closest y (2 ^ 11) → d * 2 ^ 52 + q ≤ 0x7FF * 2 ^ 52
bounded y d q fits few is = subst (λ (q : ℕ). d * 2 ^ 52 + q ≤ 0x7FF * 2 ^ 52) (sym is) (pattern-at_most binary64 11 y fits d (omega arith))

pub float_from_bits-result : goal.float_from_bits-result
float_from_bits-result c = pattern-no_nan binary64 (c.args.d * 2 ^ 52 + c.rounded.result) (bounded c.args.y c.args.d _ c.ranges.y.fits c.requires.d_bound c.rounded.ensures)

pub returns : goal.returns
returns c =
    let d = c.args.d in
    ap (λ (q : ℕ). of_bits binary64 (d * 2 ^ 52 + q)) c.rounded.ensures ∙ sym (normal-bits binary64 11 c.args.y c.ranges.y.fits d c.requires.bound (omega arith))
