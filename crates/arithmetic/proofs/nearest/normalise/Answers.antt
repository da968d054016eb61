-- m has 64 - z digits, so m * 2 ^ z has 64.
use Rattle.arithmetic.proofs.Kit.{◌≡◌, sym, ap, ◌∙◌, subst, ℕ, suc, ◌+◌, ◌-◌, ◌*◌, ◌%◌, ◌^◌, ◌≤◌, le_trans, le_of_eq, mul_assoc, mul-le-mul_right, arith, pow-add, shl_exact, count_leading_zeros, leading_top}
use Rattle.arithmetic.proofs.nearest.normalise.Goals as goal

pub returns : goal.returns
returns c =
    let m = c.args.m in
    let z = count_leading_zeros 64 m in
    let t = leading_top 64 m c.requires (omega arith) in
    let j = t.0 in
    let exact : m * 2 ^ z % 2 ^ 64 ≡ m * 2 ^ z = shl_exact (suc j) z 64 t.3 (omega arith) in
    let places : z + (1085 - z) ≡ 1085 = omega arith in
    let same : m * 2 ^ 1085 ≡ m * 2 ^ z * 2 ^ (1085 - z) = ap (λ (i : ℕ). m * 2 ^ i) (sym places) ∙ ap (λ (x : ℕ). m * x) (pow-add 2 z (1085 - z)) ∙ sym (mul_assoc m (2 ^ z) (2 ^ (1085 - z))) in
    let lead : j + z ≡ 63 = omega arith in
    let full : 2 ^ 63 ≤ m * 2 ^ z = le_trans (le_of_eq (ap (λ (i : ℕ). 2 ^ i) (sym lead) ∙ pow-add 2 j z)) (mul-le-mul_right (2 ^ z) t.2) in
    record {
      same = same ∙ ap (λ (y : ℕ). y * 2 ^ (1085 - z)) (sym exact);
      full = subst (λ (y : ℕ). 2 ^ 63 ≤ y) (sym exact) full;
      short = omega arith;
      least = omega arith;
      most = omega arith;
    }
