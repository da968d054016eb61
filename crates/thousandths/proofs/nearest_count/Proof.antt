-- `thousandths::nearest_count` meets its contract: the unit is even, so that its half is a whole number. Assumes nothing.
use Rattle.arithmetic.proofs.Kit.{◌≡◌, sym, ap, ◌∙◌, ℕ, zero, suc, ◌+◌, ◌*◌, ◌/◌, ◌%◌, ◌^◌, ◌<◌, one-mul, mod-eq_of_lt, mul-div-mul_right, pow-suc, arith, lit<, pow_pos, pow-lt, rules}
use Rattle.thousandths.specs.Thousandths.{nearest_whole}
use Rattle.thousandths.proofs.nearest_count.Statement.{statement}
use Rattle.thousandths.proofs.nearest_count.Tie as tie

-- the shifted word holds the unit
unit_is : (p : ℕ) → p < 64 → 1 * 2 ^ p % 18446744073709551616 ≡ 2 ^ p
unit_is p h = ap (λ (x : ℕ). x % 18446744073709551616) (one-mul (2 ^ p)) ∙ mod-eq_of_lt (pow-lt h)

half : (p : ℕ) → 0 < p → 2 ^ p / 2 * 2 ≡ 2 ^ p
half zero h = elim h [ ]
half (suc p) h = omega (arith, pow-suc 2 p)

rounded : (a p : ℕ) → 0 < p → (a + 2 ^ p / 2) / 2 ^ p ≡ nearest_whole a (2 ^ p)
rounded a p h =
    sym (mul-div-mul_right (a + 2 ^ p / 2) (2 ^ p) (lit< tt)) ∙ ap (λ (x : ℕ). x / (2 ^ p * 2)) (omega (arith, half p h))

pub nearest_count_spec : {M : Type 1} → statement M
nearest_count_spec =
    tie.close (tie.spec (λ c. search rules)
    (λ c. search rules)
    (λ c. search rules)
    (λ c. rw (unit_is c.args.places c.requires.1.1) (pow_pos c.args.places))
    (λ c. rw (unit_is c.args.places c.requires.1.1) (rounded (c.args.digits * 1000) c.args.places c.requires.1.0)))
