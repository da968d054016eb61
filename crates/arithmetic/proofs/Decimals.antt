-- The double of a decimal is the logic's own rounding of the fraction that its text stands for. Assumes nothing.
use Rattle.arithmetic.proofs.Kit.{◌≡◌, refl, sym, ap, ap₂, ◌∙◌, subst, Bool, true, false, not, cond, ℕ, zero, suc, ◌+◌, ◌-◌, ◌*◌, ◌/◌, ◌%◌, ◌^◌, ◌≤◌, ◌<◌, min, le_trans, le_of_eq, zero-add, div-one, mul_comm, le-div_iff_mul-le, div-lt_iff_lt-mul, arith, T, ltb, eqb, ltb→lt, nltb→le, pow-add, pow_pos, [], ◌∷◌, map, replicate, nan, inf, binary64, size, odd, round, neg, of_fields, of_bits, size-lt, size_reaches, closest, le-leb, lt-leb}
use Prim.Native.String.{String}
use native.Mathlib.Nat.{min-le_right, two-pow-succ}
use Rattle.std.proofs.Common.{shr_lt}
use Rattle.arithmetic.specs.Decimals.{fraction, binary_digits, pattern, nearest_to, decimal}
use Rattle.arithmetic.proofs.Rounding.{odd_opposite, round-opposite}
use Rattle.arithmetic.proofs.Pattern.{size_is, round-bits}
use Rattle.arithmetic.proofs.Size.{size_pos}

-- ---- the digits are counted right
-- those above the lowest s, and these
size-cut : (n s : ℕ) → 2 ^ s ≤ n → s + size (n / 2 ^ s) ≡ size n
size-cut n s h =
    let m = n / 2 ^ s in
    let some : 0 < size m = size_pos m ((le-div_iff_mul-le (pow_pos s)).1 (omega arith)) in
    let j = size m - 1 in
    let e : s + size m ≡ suc (s + j) = omega arith in
    e
    ∙ sym
    (size_is n (s + j)
    (le_trans (le_of_eq (pow-add 2 s j ∙ mul_comm (2 ^ s) (2 ^ j))) ((le-div_iff_mul-le (pow_pos s)).0 (size_reaches m j (omega arith))))
    (subst (λ (x : ℕ). n < x) (mul_comm (2 ^ size m) (2 ^ s) ∙ sym (pow-add 2 s (size m)) ∙ ap (λ (i : ℕ). 2 ^ i) e) ((div-lt_iff_lt-mul (pow_pos s)).0 (size-lt m))))

size_small : (n : ℕ) → n < 2 → n ≡ size n
unfolding size
size_small zero h = refl
size_small (suc zero) h = refl
size_small (suc (suc n)) h = omega arith

digits-size : (k n : ℕ) → n < 2 ^ (2 ^ k) → binary_digits k n ≡ size n
digits-size zero n h = size_small n h
digits-size (suc k) n h = go (ltb n (2 ^ (2 ^ k))) (ltb→lt n (2 ^ (2 ^ k))) (nltb→le n (2 ^ (2 ^ k))) (digits-size k)
  where
    go : (b : Bool) → (T b → n < 2 ^ (2 ^ k)) → (T (not b) → 2 ^ (2 ^ k) ≤ n) → ((m : ℕ) → m < 2 ^ (2 ^ k) → binary_digits k m ≡ size m)
        → cond b 0 (2 ^ k) + binary_digits k (n / 2 ^ cond b 0 (2 ^ k)) ≡ size n
    go true l g shorter = zero-add (binary_digits k (n / 1)) ∙ ap (binary_digits k) (div-one n) ∙ shorter n (l tt)
    go false l g shorter = ap (λ (x : ℕ). 2 ^ k + x) (shorter (n / 2 ^ (2 ^ k)) (shr_lt (2 ^ k) (2 ^ k) (subst (λ (e : ℕ). n < 2 ^ e) (two-pow-succ k) h))) ∙ size-cut n (2 ^ k) (g tt)

-- ---- the sign is the pattern's highest digit
fields-opposite : (x t : ℕ) → of_fields binary64 true x t ≡ neg (of_fields binary64 false x t)
unfolding of_fields neg
fields-opposite zero t = odd_opposite 53 t 0 1074
fields-opposite (suc x) t = go (eqb (suc x) 0x7FF) (eqb t 0)
  where
    go : (b c : Bool) → cond b (cond c (inf true) nan) (odd 53 true (2 ^ 52 + t) x 1074) ≡ neg (cond b (cond c (inf false) nan) (odd 53 false (2 ^ 52 + t) x 1074))
    go true true = refl
    go true false = refl
    go false c = odd_opposite 53 (2 ^ 52 + t) x 1074

bits-opposite : (b : ℕ) → b < 2 ^ 63 → of_bits binary64 (2 ^ 63 + b) ≡ neg (of_bits binary64 b)
unfolding of_bits
bits-opposite b h =
    let high : (2 ^ 63 + b) % 2 ^ 63 ≡ b % 2 ^ 63 = omega arith in
    let low : (2 ^ 63 + b) % 2 ^ 52 ≡ b % 2 ^ 52 = omega arith in
    ap (λ (s : Bool). of_fields binary64 s ((2 ^ 63 + b) % 2 ^ 63 / 2 ^ 52) ((2 ^ 63 + b) % 2 ^ 52)) (le-leb (2 ^ 63) (2 ^ 63 + b) (omega arith))
    ∙ ap₂ (λ (x t : ℕ). of_fields binary64 true (x / 2 ^ 52) t) high low
    ∙ fields-opposite (b % 2 ^ 63 / 2 ^ 52) (b % 2 ^ 52)
    ∙ ap (λ (s : Bool). neg (of_fields binary64 s (b % 2 ^ 63 / 2 ^ 52) (b % 2 ^ 52))) (sym (lt-leb (2 ^ 63) b h))

-- ---- the law
pattern_rounds : (num den : ℕ) → num * 2 ^ 1074 / den < 2 ^ 2 ^ 12 → of_bits binary64 (pattern num den) ≡ round binary64 false num den
pattern_rounds num den h =
    let n = num * 2 ^ 1074 in
    ap (λ (z : ℕ). of_bits binary64 (min ((z - 53) * 2 ^ 52 + closest n (den * 2 ^ (z - 53))) (2047 * 2 ^ 52))) (digits-size 12 (n / den) h) ∙ sym (round-bits binary64 num den)

nearest_rounds : (s : Bool) (num den : ℕ) → num * 2 ^ 1074 / den < 2 ^ 2 ^ 12 → nearest_to (record { is_number = true; negative = s; numerator = num; denominator = den }) ≡ round binary64 s num den
nearest_rounds false num den h = ap (of_bits binary64) (zero-add (pattern num den)) ∙ pattern_rounds num den h
nearest_rounds true num den h =
    bits-opposite (pattern num den) (omega (arith, min-le_right (pattern num den) (2047 * 2 ^ 52)))
    ∙ ap neg (pattern_rounds num den h)
    ∙ sym (round-opposite binary64 num den)

-- of any text whose number is below 2 ^ 3022
pub decimal_rounds : (t : String) → let f = fraction t in f.is_number ≡ true → f.numerator * 2 ^ 1074 / f.denominator < 2 ^ 2 ^ 12
    → decimal t ≡ round binary64 f.negative f.numerator f.denominator
decimal_rounds t is h =
    let f = fraction t in
    ap (λ (b : Bool). nearest_to (record { is_number = b; negative = f.negative; numerator = f.numerator; denominator = f.denominator })) is
    ∙ nearest_rounds f.negative f.numerator f.denominator h

-- and of any other text
pub no_decimal : (t : String) → (fraction t).is_number ≡ false → decimal t ≡ nan
no_decimal t is = let f = fraction t in ap (λ (b : Bool). nearest_to (record { is_number = b; negative = f.negative; numerator = f.numerator; denominator = f.denominator })) is

-- ---- the ways in which a text is no decimal
-- nothing, no digit, a letter for a digit, a digit left out before or after the point, in the power or after its minus, a second point or minus, a plus, a blank
pub not_read : map decimal ("" ∷ "-" ∷ "1.O5" ∷ ".5" ∷ "1." ∷ "1e" ∷ "1e-" ∷ "1.2.3" ∷ "--1" ∷ "+1" ∷ " 1" ∷ []) ≡ replicate 11 nan
not_read = refl
