-- `decimals::count::nearest_count` meets its contract: its words are the halves of `Halves`. Assumes nothing.
use Rattle.arithmetic.proofs.Kit.{◌≡◌, ap, ◌∙◌, ℕ, ◌+◌, ◌-◌, ◌*◌, ◌/◌, ◌%◌, ◌^◌, ◌≤◌, ◌<◌, arith, rules, lit≤, shl_exact}
use Rattle.arithmetic.specs.declared.wide.Wide.{Wide}
use Rattle.arithmetic.specs.Value.{value}
use Rattle.decimals.proofs.Halves.{halves, moved-halves, small, great, great-exponent}
use Rattle.decimals.proofs.count.nearest_count.Statement.{statement}
use Rattle.decimals.proofs.count.nearest_count.Tie as tie

-- the words by themselves
high_word : (w : Wide) (n : ℕ) → value w ≡ n → 0 < w.hi → 2 ^ 64 ≤ n
high_word w n e h = omega arith

low_word : (w : Wide) (n : ℕ) → value w ≡ n → w.hi ≤ 0 → w.lo ≡ n
low_word w n e h = omega arith

half_fits : (n : ℕ) → n < 2 ^ 64 → n / 2 + n % 2 < 2 ^ 64
half_fits n h = omega arith

words_are : (c : tie.After-shifted_right-halves) → let a = c.args in value c.shifted_right-halves.result ≡ halves (a.q * 2 ^ a.k) a.s
words_are c =
    let start = c.before.before.before in
    let a = start.args in
    c.shifted_right-halves.ensures
    ∙ ap (λ (n : ℕ). n / 2 ^ (1084 - a.k)) (c.product.ensures ∙ ap (λ (n : ℕ). n * a.s) (shl_exact 53 11 64 start.requires.0.short (lit≤ tt)))
    ∙ moved-halves a.q a.k a.s c.if-k-gt1084.false

returns : tie.Need-returns-then-k-gt1084
returns c =
    let start = c.before in
    let a = start.args in
    great (a.q * 2 ^ a.k) a.s (great-exponent a.q a.k a.s start.requires.0 start.requires.1 c.if-k-gt1084.true)

returns_2 : tie.Need-returns-then-halves-gt0
returns_2 c =
    let shifted = c.before.before in
    let a = shifted.args in
    great (a.q * 2 ^ a.k) a.s (high_word shifted.shifted_right-halves.result _ (words_are shifted) c.if-halves-gt0.true)

low_is : (c : tie.After-shifted_right-halves) → c.shifted_right-halves.result.hi ≤ 0
    → let a = c.args in c.shifted_right-halves.result.lo ≡ halves (a.q * 2 ^ a.k) a.s
low_is c none = low_word c.shifted_right-halves.result _ (words_are c) none

lo_fits : (c : tie.After-struct_known-3-1) → c.shifted_right-halves.result.lo < 2 ^ 64
lo_fits c = c.struct_known-3-1.given.1.0.fits

returns_3 : tie.Need-returns
returns_3 c =
    let shifted = c.before.before.before.before in
    let a = shifted.args in
    small (a.q * 2 ^ a.k) a.s shifted.shifted_right-halves.result.lo (low_is shifted c.if-halves-gt0.false) (lo_fits c)

pub nearest_count_spec : {M : Type 1} → statement M
nearest_count_spec = tie.close (tie.spec returns
    (λ c κs. search rules)
    (λ c κs. search rules)
    returns_2
    (λ c. record { fits = half_fits _ (lo_fits c) })
    returns_3)
