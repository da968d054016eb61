-- `antilog::estimate::joined` meets its contract: the shifted upper word of the product is its part. Assumes nothing.
use Rattle.arithmetic.proofs.Kit.{◌≡◌, sym, ap, ◌∙◌, ℕ, ◌+◌, ◌*◌, ◌/◌, ◌^◌, ◌<◌, add-zero, div-div-eq-div-mul, div-eq_of_lt, arith, rules, pow_pos, pow-add}
use native.Mathlib.Nat.{mul-add-div_right}
use Rattle.antilog.proofs.estimate.joined.Statement.{statement}
use Rattle.antilog.proofs.estimate.joined.Tie as tie

-- of the product's two words the upper one, cut by k + 4 places more
cut : (x y k hi lo : ℕ) → lo < 2 ^ 64 → hi * 2 ^ 64 + lo ≡ x * y → hi / 2 ^ (k + 4) ≡ x * y / 2 ^ (68 + k)
cut x y k hi lo short made =
    let upper : x * y / 2 ^ 64 ≡ hi = ap (λ (n : ℕ). n / 2 ^ 64) (sym made) ∙ mul-add-div_right (pow_pos 64) hi lo ∙ ap (λ (n : ℕ). hi + n) (div-eq_of_lt short) ∙ add-zero hi in
    let all : 64 + (k + 4) ≡ 68 + k = omega arith in
    ap (λ (n : ℕ). n / 2 ^ (k + 4)) (sym upper) ∙ div-div-eq-div-mul (x * y) (2 ^ 64) (2 ^ (k + 4)) ∙ ap (λ (n : ℕ). x * y / n) (sym (pow-add 2 64 (k + 4)) ∙ ap (λ (n : ℕ). 2 ^ n) all)

upper_is : (c : tie.After-struct_known-1) → c.product-both.result.hi / 2 ^ (c.args.k + 4) ≡ c.args.x * c.args.y / 2 ^ (68 + c.args.k)
upper_is c = cut _ _ _ _ _ c.struct_known-1.given.1.0.fits c.product-both.ensures

returns : tie.Need-returns
returns c = ap (λ (n : ℕ). c.args.x + c.args.y / 16 + n) (upper_is c)

pub joined_spec : {M : Type 1} → statement M
joined_spec =
    tie.close (tie.spec (λ c κs. search rules)
    (λ c. omega (arith, c.requires.1))
    (λ c. omega (arith, c.requires.0))
    (λ c. search rules)
    (λ c. omega (arith, upper_is c, c.requires.1))
    returns)
