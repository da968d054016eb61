-- n / 2 ^ k is n * 2 ^ (1074 + g - k) / 2 ^ (1074 + g), where g digits of n are dropped (proofs/Scaled).
use Rattle.arithmetic.proofs.Kit.{◌≡◌, refl, sym, ap, ap₂, ◌∙◌, subst, ℕ, suc, ◌+◌, ◌-◌, ◌*◌, ◌/◌, ◌%◌, ◌^◌, ◌≤◌, ◌<◌, mod-lt, lt_of_not-le, not-le_of_lt, lt_of_lt_of_le, le_trans, le_of_eq, arith, lit<, lit≤, count_leading_zeros, leading_top, pow_pos, pow_mono, binary64, of_bits, closest}
use Prim.Native.Nat.{compare}
use Rattle.std.proofs.Common.{lt_trans, shr_lt}
use lib.Ieee.{nearest}
use lib.Pow.{mod-mod-pow}
use Rattle.arithmetic.proofs.Carried.{one-moved}
use Rattle.arithmetic.proofs.Scaled.{pattern-at_most, normal-bits, pattern-no_nan, quotient_as}
use Rattle.arithmetic.proofs.nearest.nearest_wide_quotient.Goals as goal

-- n has 53 digits and g more
record Dropped (n g : ℕ) : Type 0 where
  least : 12 ≤ g
  most : g ≤ 63
  reaches : 2 ^ (52 + g) ≤ n
  short : n < 2 ^ (53 + g)

dropped : (n : ℕ) → 2 ^ 64 ≤ n → n < 2 ^ 116 → Dropped n (75 - count_leading_zeros 128 n)
dropped n some few =
    let top = leading_top 128 n (lt_of_lt_of_le (lit< tt) some) (lt_trans few (lit< tt)) in
    let j = top.0 in
    let below : j < 116 = lt_of_not-le (λ h. not-le_of_lt few (le_trans (pow_mono h) top.2)) in
    let above : 64 < suc j = lt_of_not-le (λ h. not-le_of_lt top.3 (le_trans (pow_mono {i = suc j} {j = 64} h) some)) in
    let lower : 52 + (75 - count_leading_zeros 128 n) ≡ j = omega arith in
    let upper : suc j ≡ 53 + (75 - count_leading_zeros 128 n) = omega arith in
    record {
      least = omega arith;
      most = omega arith;
      reaches = le_trans (le_of_eq (ap (λ (i : ℕ). 2 ^ i) lower)) top.2;
      short = lt_of_lt_of_le top.3 (le_of_eq (ap (λ (i : ℕ). 2 ^ i) upper));
    }

module _ (n : ℕ) (some : 2 ^ 64 ≤ n) (few : n < 2 ^ 116) where
  -- the digits dropped, and the unit as the machine shifts it
  abbrev g : ℕ
  g = 75 - count_leading_zeros 128 n

  abbrev unit : ℕ
  unit = 1 * 2 ^ g % 2 ^ 64

  drops : Dropped n g
  drops = dropped n some few

  unit_is : unit ≡ 2 ^ g
  unit_is = one-moved g drops.most

  unit_pos : 0 < unit
  unit_pos = subst (λ (u : ℕ). 0 < u) (sym unit_is) (pow_pos g)

  quotient_lt : n / 2 ^ g < 2 ^ 53
  quotient_lt = shr_lt 53 g drops.short

  above_is : n % 2 ^ 64 % unit ≡ n % 2 ^ g
  above_is =
      let there : 64 - g + g ≡ 64 = omega (arith, drops) in
      ap (λ (u : ℕ). n % 2 ^ 64 % u) unit_is ∙ ap (λ (i : ℕ). n % 2 ^ i % 2 ^ g) (sym there) ∙ mod-mod-pow n (64 - g) g

  kept_is : {q : ℕ} → q ≡ nearest (n / 2 ^ g) (compare (n % 2 ^ 64 % unit * 2) unit) → q ≡ closest n (2 ^ g)
  kept_is is = is ∙ ap₂ (λ (a u : ℕ). nearest (n / 2 ^ g) (compare (a * 2) u)) above_is unit_is

  -- the pattern is at most the infinity's
  bounded : (k : ℕ) {q : ℕ} → k ≤ 1085 → q ≡ closest n (2 ^ g) → (1074 + g - k) * 2 ^ 52 + q ≤ 0x7FF * 2 ^ 52
  bounded k {q} l is =
      subst (λ (q : ℕ). (1074 + g - k) * 2 ^ 52 + q ≤ 0x7FF * 2 ^ 52) (sym is) (pattern-at_most binary64 g n drops.short (1074 + g - k) (omega (arith, drops)))

pub overflow_shl-unit : goal.overflow_shl-unit
overflow_shl-unit c = omega (arith, drops c.args.n c.if-n-lt18446744073709551616.false c.requires.0)

pub overflow_sub-dropped : goal.overflow_sub-dropped
overflow_sub-dropped c = omega (arith, drops c.args.n c.if-n-lt18446744073709551616.false c.requires.0)

pub overflow_cast-n : goal.overflow_cast-n
overflow_cast-n c = record { fits = lt_of_lt_of_le (quotient_lt c.args.n c.if-n-lt18446744073709551616.false c.requires.0) (lit≤ tt) }

pub nonzero_rem-low-2 : goal.nonzero_rem-low-2
nonzero_rem-low-2 c = unit_pos c.args.n c.if-n-lt18446744073709551616.false c.requires.0

pub nearer-kept-requires : goal.nearer-kept-requires
nearer-kept-requires c =
    let n = c.args.n in
    let above : n % 2 ^ 64 % unit c.args.n c.if-n-lt18446744073709551616.false c.requires.0 < unit c.args.n c.if-n-lt18446744073709551616.false c.requires.0 = mod-lt (n % 2 ^ 64) (unit_pos c.args.n c.if-n-lt18446744073709551616.false c.requires.0) in
    let most : 2 ^ g c.args.n c.if-n-lt18446744073709551616.false c.requires.0 ≤ 2 ^ 63 = pow_mono (drops c.args.n c.if-n-lt18446744073709551616.false c.requires.0).most in
    (above, omega (arith, unit_is c.args.n c.if-n-lt18446744073709551616.false c.requires.0, quotient_lt c.args.n c.if-n-lt18446744073709551616.false c.requires.0))

pub overflow_sub-result : goal.overflow_sub-result
overflow_sub-result c = omega (arith, drops c.args.n c.if-n-lt18446744073709551616.false c.requires.0, c.requires.1)

pub overflow_add-result-2 : goal.overflow_add-result-2
overflow_add-result-2 c = record { fits = omega (arith, bounded c.args.n c.if-n-lt18446744073709551616.false c.requires.0 c.args.k c.requires.1 (kept_is c.args.n c.if-n-lt18446744073709551616.false c.requires.0 c.nearer-kept.ensures)) }

pub float_from_bits-result : goal.float_from_bits-result
float_from_bits-result c = pattern-no_nan binary64 _ (bounded c.args.n c.if-n-lt18446744073709551616.false c.requires.0 c.args.k c.requires.1 (kept_is c.args.n c.if-n-lt18446744073709551616.false c.requires.0 c.nearer-kept.ensures))

pub returns : goal.returns
returns c =
    let n = c.args.n in
    let k = c.args.k in
    let digits = drops c.args.n c.if-n-lt18446744073709551616.false c.requires.0 in
    let dropped = g c.args.n c.if-n-lt18446744073709551616.false c.requires.0 in
    ap (λ (q : ℕ). of_bits binary64 ((1074 + dropped - k) * 2 ^ 52 + q)) (kept_is c.args.n c.if-n-lt18446744073709551616.false c.requires.0 c.nearer-kept.ensures)
    ∙ sym
    (quotient_as binary64 (1074 + dropped) n n (1074 + dropped) refl k (omega (arith, c.requires.1, digits))
    ∙ normal-bits binary64 dropped n digits.short (1074 + dropped - k) digits.reaches (omega (arith, digits)))
