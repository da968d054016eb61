-- With m * 2 ^ 1085 as y * 2 ^ t, m / 2 ^ k is y * 2 ^ (t - k) / 2 ^ 1085, or below 2 ^ -1022 it is y / 2 ^ (1085 + (k - t)).
use Rattle.arithmetic.proofs.Kit.{sym, ap, ◌∙◌, subst, false, ℕ, ◌+◌, ◌-◌, ◌*◌, ◌^◌, ◌≤◌, ◌<◌, add_assoc, lt_of_lt_of_le, arith, pow_pos, pow_mono, binary64, round, of_bits}
use Rattle.arithmetic.proofs.Scaled.{pattern-at_most, subnormal_bits, pattern-no_nan, quotient_as, quotient-under, zero_bits}
use Rattle.arithmetic.proofs.nearest.nearest_quotient.Goals as goal

in_range : (y j : ℕ) → y < 2 ^ 64 → y < 2 ^ (53 + (11 + j))
in_range y j h = lt_of_lt_of_le h (pow_mono {i = 64} (omega arith))

pub returns-then-m-eq0 : goal.returns-then-m-eq0
returns-then-m-eq0 c = zero_bits c.args.m (2 ^ c.args.k) c.if-m-eq0.true (pow_pos c.args.k)

pub returns-then-k-n : goal.returns-then-k-n
returns-then-k-n c = let n = c.normalise-n in c.normal.ensures ∙ sym (quotient_as binary64 1085 c.args.m n.result.digits n.result.places n.ensures.same c.args.k (omega arith))

pub float_from_bits-result : goal.float_from_bits-result
float_from_bits-result c =
    let n = c.normalise-n in
    let y = n.result.digits in
    let j = c.args.k - n.result.places in
    let few : c.rounded.result ≤ 0x7FF * 2 ^ 52 = subst (λ (q : ℕ). q ≤ 0x7FF * 2 ^ 52) (sym c.rounded.ensures) (omega (arith, pattern-at_most binary64 (11 + j) y (in_range y j n.ensures.short) 0 (omega arith))) in
    pattern-no_nan binary64 c.rounded.result few

pub returns : goal.returns
returns c =
    let n = c.normalise-n in
    let y = n.result.digits in
    let t = n.result.places in
    let k = c.args.k in
    let j = k - t in
    ap (of_bits binary64) c.rounded.ensures
    ∙ sym
    (quotient-under binary64 1085 c.args.m y t n.ensures.same k (omega arith)
    ∙ ap (λ (i : ℕ). round binary64 false y (2 ^ i)) (add_assoc 1074 11 j)
    ∙ subnormal_bits binary64 (11 + j) y (in_range y j n.ensures.short))
