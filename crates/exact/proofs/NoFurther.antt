-- What is near a number is no further from it than any greater distance. Assumes nothing.
use Rattle.exact.proofs.Kit.{◌≡◌, sym, ap, ◌∙◌, ℕ, ◌+◌, ◌-◌, ◌*◌, ◌^◌, ◌≤◌, le_trans, le_of_eq, mul-one, mul-le-mul_left, le_of_mul-le-mul_right, arith, pow-add, pow_pos, Float, Exact, ◌⊟◌, number, IsNear}

pub no_further : (j k : ℕ) (x : Float) (X : Exact) → j ≤ k → IsNear k x X → IsNear j x X
no_further j k x X less n =
    let d = number x ⊟ X in
    record {
      is_finite = n.is_finite;
      proper = n.proper;
      not_above = go d.plus d.minus d.under n.not_above;
      not_below = go d.minus d.plus d.under n.not_below;
    }
  where
    go : (a b u : ℕ) → a * 2 ^ k ≤ b * 2 ^ k + u → a * 2 ^ j ≤ b * 2 ^ j + u
    go a b u h =
        let i : ℕ = k - j in
        let whole : 2 ^ k ≡ 2 ^ j * 2 ^ i = ap (λ (n : ℕ). 2 ^ n) {x = k} {y = j + i} (omega arith) ∙ pow-add 2 j i in
        let more : u ≤ u * 2 ^ i = le_trans (le_of_eq (sym (mul-one u))) (mul-le-mul_left u (pow_pos i)) in
        le_of_mul-le-mul_right {k = 2 ^ i} (omega (arith, h, more, ap (λ (n : ℕ). a * n) whole, ap (λ (n : ℕ). b * n) whole)) (pow_pos i)
