-- `decimals::typed::from_digits` meets its contract: a number that was counted no further than 2^32 is out of range as the whole one is. Assumes nothing.
use Rattle.arithmetic.proofs.Kit.{◌≡◌, sym, ap, ap₂, ◌∙◌, ◌++◌, ℕ, ◌-◌, ◌*◌, ◌^◌, ◌≤◌, min, le_trans, le_of_eq, lt_of_le_of_lt, mul-le-mul, pow-le-pow_right, arith, lit<, rules, length}
use Rattle.decimals.specs.Typed.{number_from, in_counts}
use Rattle.decimals.proofs.TypedDigits.{number_append, number-capped, counts-capped}
use Rattle.decimals.proofs.typed.Precision.from_digits.Statement.{statement}
use Rattle.decimals.proofs.typed.Precision.from_digits.Tie as tie

mul_in_counts : tie.Need-overflow_mul-size
mul_in_counts c =
    let a = c.args in
    let n : ℕ = a.self.places - length a.decimals.now in
    let few : c.power_of_ten.result ≤ 10000 = le_trans (le_of_eq c.power_of_ten.ensures) (pow-le-pow_right {n = 10} (lit< tt) {i = n} {j = 4} (omega arith)) in
    let size : c.number_from-size.result ≤ 4294967296 = omega (arith, c.number_from-size.ensures) in
    record { fits = lt_of_le_of_lt (mul-le-mul size few) (lit< tt) }

returns : tie.Need-returns
returns c =
    let a = c.args in
    let w = a.whole.now in
    let d = a.decimals.now in
    let N : ℕ = number_from 0 (w ++ d) in
    let t : ℕ = 10 ^ (a.self.places - length d) in
    let size : c.number_from-size.result ≡ min N 4294967296 =
    c.number_from-size.ensures
    ∙ ap (λ (n : ℕ). min (number_from n d) 4294967296) c.number_from.ensures
    ∙ number-capped 4294967296 (number_from 0 w) d
    ∙ ap (λ (n : ℕ). min n 4294967296) (sym (number_append 0 w d)) in
    c.in_counts.ensures
    ∙ ap₂ (λ (m k : ℕ). in_counts a.negative (m * k)) size c.power_of_ten.ensures
    ∙ counts-capped a.negative N t (pow-le-pow_right {n = 10} (lit< tt) {i = 0} {j = a.self.places - length d} (omega arith))

pub from_digits_spec : {M : Type 1} → statement M
from_digits_spec =
    tie.close (tie.spec (λ c κs. search rules)
    (λ c κs. search rules)
    (λ c. search rules)
    (λ c. search rules)
    (λ c κs. search rules)
    mul_in_counts
    (λ c κs. search rules)
    returns)
