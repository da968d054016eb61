-- With m * 2 ^ 1085 as y * 2 ^ t, m * 2 ^ k is y * 2 ^ (k + t) / 2 ^ 1085.
use Rattle.arithmetic.proofs.Kit.{sym, ap, ◌∙◌, ℕ, ◌+◌, ◌*◌, ◌^◌, zero-mul, arith, pow_pos, binary64, nan_bits}
use Rattle.arithmetic.proofs.Scaled.{infinite-bits, product_as, zero_bits}
use Rattle.arithmetic.proofs.nearest.nearest_product.Goals as goal

pub returns-then-m-eq0 : goal.returns-then-m-eq0
returns-then-m-eq0 c = let k = c.args.k in zero_bits (c.args.m * 2 ^ k) 1 (ap (λ (m : ℕ). m * 2 ^ k) c.if-m-eq0.true ∙ zero-mul (2 ^ k)) (pow_pos 0)

pub float_from_bits-result : goal.float_from_bits-result
float_from_bits-result c = unfold nan_bits in tt

pub returns-then-k-n : goal.returns-then-k-n
returns-then-k-n c =
    let n = c.normalise-n in
    let y = n.result.digits in
    let t = n.result.places in
    let k = c.args.k in
    sym (product_as binary64 1085 c.args.m y t n.ensures.same k ∙ infinite-bits binary64 11 y n.ensures.short (k + t) n.ensures.full (omega arith))

pub returns : goal.returns
returns c = let n = c.normalise-n in c.normal.ensures ∙ sym (product_as binary64 1085 c.args.m n.result.digits n.result.places n.ensures.same c.args.k)
