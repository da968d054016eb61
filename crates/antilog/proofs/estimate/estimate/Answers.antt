-- The loop of `antilog::estimate`: the excess fits a word, since it is never too great. Assumes nothing.
use Rattle.arithmetic.proofs.Kit.{◌≡◌, sym, ap, ◌∙◌, subst, ℕ, suc, ◌+◌, ◌-◌, ◌*◌, ◌/◌, ◌%◌, ◌^◌, ◌≤◌, ◌<◌, arith}
use Rattle.antilog.specs.Estimate.{entry_of, joined, excess_from, estimate}
use Rattle.antilog.proofs.Entries.{last, last-is}
use Rattle.antilog.proofs.Near.{from-fits}
use Rattle.antilog.proofs.estimate.estimate.Goals as goal

last_bits : (part : ℕ) → part % 2 ^ 28 * last ≡ excess_from 0 8 part
unfolding excess_from
last_bits part = ap (λ (n : ℕ). part % 2 ^ 28 * n) (sym last-is)

one_digit : (part more j n : ℕ) {X : ℕ} → X ≡ entry_of j part → more ≡ excess_from n (suc j) part → joined X more (4 * j) ≡ excess_from (suc n) j part
unfolding excess_from
one_digit part more j n is was = rw (is, was)

-- what the loop's body makes of them
step : (part more j : ℕ) {X : ℕ} → 0 < j → j ≤ 8 → more ≡ excess_from (8 - j) j part → X ≡ entry_of (j - 1) part → joined X more (4 * (j - 1)) ≡ excess_from (8 - (j - 1)) (j - 1) part
step part more j {X} some few was is =
    let next : j ≡ suc (j - 1) = omega arith in
    let digits : suc (8 - j) ≡ 8 - (j - 1) = omega arith in
    one_digit part more (j - 1) (8 - j) {X = X} is (was ∙ ap (λ (i : ℕ). excess_from (8 - j) i part) next) ∙ ap (λ (n : ℕ). excess_from n (j - 1) part) digits

all_digits : (part more j : ℕ) → j ≡ 0 → more ≡ excess_from (8 - j) j part → 2 ^ 63 + more / 2 ≡ estimate part
unfolding estimate
all_digits part more j none was = ap (λ (n : ℕ). 2 ^ 63 + n / 2) (was ∙ ap (λ (i : ℕ). excess_from (8 - i) i part) none)

pub loop-j-init : goal.loop-j-init
loop-j-init c = last_bits _

pub joined-more-requires : goal.joined-more-requires
joined-more-requires c =
    let few : c.loop-j.j ≤ 8 = omega arith in
    let some : 0 < c.loop-j.j = omega arith in (
      omega arith,
      subst (λ (n : ℕ). n < 2 ^ 64) (sym (step _ _ _ some few c.loop-j.invariant c.excess.ensures)) (from-fits _ _ _ (omega arith)),
    )

pub loop-j-preserved : goal.loop-j-preserved
loop-j-preserved c = c.joined-more.ensures ∙ step _ _ _ (omega arith) (omega arith) c.loop-j.invariant c.excess.ensures

pub returns : goal.returns
returns c = all_digits _ _ _ (omega arith) c.loop-j.invariant
