-- `antilog::estimate::moved` meets its contract: the shifted upper word of the product is its part. Assumes nothing.
use Rattle.arithmetic.proofs.Kit.{◌≡◌, sym, ap, ◌∙◌, subst, ℕ, ◌+◌, ◌*◌, ◌/◌, ◌^◌, ◌<◌, add-zero, div-div-eq-div-mul, div-eq_of_lt, arith, rules, pow_pos}
use native.Mathlib.Nat.{mul-add-div_right}
use Rattle.antilog.specs.Estimate.{moved}
use Rattle.antilog.proofs.Entries.{last, last-is}
use Rattle.antilog.proofs.estimate.moved.Statement.{statement}
use Rattle.antilog.proofs.estimate.moved.Tie as tie

-- of the product's two words the upper one, cut by 32 places more
cut : (a n hi lo : ℕ) → lo < 2 ^ 64 → hi * 2 ^ 64 + lo ≡ a * (n * last) → a + hi / 2 ^ 32 ≡ moved a n
unfolding moved
cut a n hi lo short made =
    let x : ℕ = a * (n * last) in
    let upper : x / 2 ^ 64 ≡ hi = ap (λ (m : ℕ). m / 2 ^ 64) (sym made) ∙ mul-add-div_right (pow_pos 64) hi lo ∙ ap (λ (m : ℕ). hi + m) (div-eq_of_lt short) ∙ add-zero hi in
    ap (λ (m : ℕ). a + m) (ap (λ (m : ℕ). m / 2 ^ 32) (sym upper) ∙ div-div-eq-div-mul x (2 ^ 64) (2 ^ 32)) ∙ ap (λ (m : ℕ). a + a * (n * m) / 2 ^ 96) (sym last-is)

returns : tie.Need-returns
returns c = cut _ _ _ _ c.struct_known-1.given.1.0.fits c.product-more.ensures

pub moved_spec : {M : Type 1} → statement M
moved_spec =
    tie.close (tie.spec (λ c. omega (arith, c.requires.0))
    (λ c κs. search rules)
    (λ c. record { fits = subst (λ (m : ℕ). m < 2 ^ 64) (sym (returns c)) c.requires.1 })
    returns)
