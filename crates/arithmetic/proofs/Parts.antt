-- A double by the fields of its bit pattern: which `Parts` it is taken apart into; and how many units of 2 ^ -1074 a finite one is. Assumes nothing.
use Rattle.arithmetic.proofs.Kit.{◌≡◌, refl, sym, ap, ap₂, ◌∙◌, subst, inl, inr, ⊎_elim, Bool, true, false, not, cond, true≢false, ℕ, zero, suc, ◌+◌, ◌-◌, ◌*◌, ◌/◌, ◌%◌, ◌^◌, ◌≤◌, ◌<◌, le_of_lt, le_of_eq, le_trans, lt_of_lt_of_le, mul-le-mul_right, mul-lt-mul_of_pos_right, mul-div_cancel, mul-pos, zero-mul, arith, ℤ, pos, pow_pos, pow_mono, pow-add, shl_lt, T, leb, eqb, eqb→eq, eqb·suc-zero, Float, nan, inf, fin, binary64, up, down, odd, fits, is_nan, ne, of_fields, of_bits, to_bits, size, down_pos, of_bits-to_bits, size-le, HasValue}
use Rattle.std.proofs.Common.{ne_of_lt}
use lib.Dec.{not_T}
use lib.Ieee.Fits.{odd-fits}
use lib.Ieee.Bits.{cond_no}
use lib.Ieee.Exact.{odd_sign}
use Rattle.arithmetic.specs.declared.double.Parts.{Parts}
use Rattle.arithmetic.specs.declared.double.Parts.TheVariants.{NotANumber, Infinite, Zero, Finite}
use Rattle.arithmetic.specs.Nearest.{units_of}
use Rattle.arithmetic.specs.Parts.{parts_of, TakenApart, Digits}
use Rattle.arithmetic.proofs.Pattern.{size_is}

-- only the NaN differs from itself
pub not_nan : (x : Float) → ne x x ≡ false → T (not (is_nan x))
unfolding ne is_nan
not_nan nan same = absurd (true≢false same)
not_nan (inf s) same = tt
not_nan (fin s m e) same = tt

-- the same by Rust's own test
pub is_a_number : (x : Float) → is_nan x ≡ false → T (not (is_nan x))
is_a_number x e = subst (λ (t : Bool). T (not t)) (sym e) tt

pub is_not_a_number : (x : Float) → is_nan x ≡ true → TakenApart x NotANumber
unfolding is_nan
is_not_a_number nan h = record { same = refl; within = tt }
is_not_a_number (inf s) h = absurd (true≢false (sym h))
is_not_a_number (fin s m e) h = absurd (true≢false (sym h))

-- ---- the three fields of a double's pattern
abbrev pub negative : Float → Bool
negative x = leb (2 ^ 63) (to_bits binary64 x)

abbrev pub field : Float → ℕ
field x = to_bits binary64 x % 2 ^ 63 / 2 ^ 52

abbrev pub fraction : Float → ℕ
fraction x = to_bits binary64 x % 2 ^ 52

-- ---- what the fields s, k and t are read as, at the two ends of the range of k and between them
infinite-read : (s : Bool) (t : ℕ) (x : Float) → of_fields binary64 s 0x7FF t ≡ x → T (not (is_nan x)) → inf s ≡ x
unfolding of_fields is_nan
infinite-read s zero x read number = read
infinite-read s (suc t) x read number = absurd (subst (λ (y : Float). T (not (is_nan y))) (sym read ∙ ap (λ (b : Bool). cond b (inf s) nan) (eqb·suc-zero t)) number)

zero-read : (s : Bool) (k t : ℕ) → k ≡ 0 → t ≡ 0 → fin s 0 (pos 0) ≡ of_fields binary64 s k t
unfolding of_fields odd
zero-read s k t e z = rw (e, z)

subnormal_read : (s : Bool) (k t : ℕ) → k ≡ 0 → odd 53 s t 0 1074 ≡ of_fields binary64 s k t
unfolding of_fields
subnormal_read s k t e = rw e

normal-read : (s : Bool) (k t : ℕ) → (k ≡ 0x7FF → ⊥) → (k ≡ 0 → ⊥) → odd 53 s (2 ^ 52 + t) (k - 1) 1074 ≡ of_fields binary64 s k t
unfolding of_fields
normal-read s zero t finite normal = absurd (normal refl)
normal-read s (suc k) t finite normal =
    let back : suc k - 1 ≡ k = omega arith in
    ap (λ (i : ℕ). odd 53 s (2 ^ 52 + t) i 1074) back
    ∙ sym (cond_no (eqb (suc k) 0x7FF) (cond (eqb t 0) (inf s) nan) (odd 53 s (2 ^ 52 + t) k 1074) (not_T (eqb (suc k) 0x7FF) (λ same. finite (eqb→eq (suc k) 0x7FF same))))

-- ---- which kind of double x is, by the fields of its pattern
module _ (x : Float) (held : T (fits binary64 x)) where
  read_back : of_fields binary64 (negative x) (field x) (fraction x) ≡ x
  unfolding of_bits
  read_back = of_bits-to_bits binary64 x held

  pub infinite-apart : field x ≡ 0x7FF → T (not (is_nan x)) → TakenApart x (Infinite (negative x))
  infinite-apart e number = record {
    same = infinite-read (negative x) (fraction x) x (ap (λ (k : ℕ). of_fields binary64 (negative x) k (fraction x)) (sym e) ∙ read_back) number;
    within = tt;
  }

  pub zero-apart : field x ≡ 0 → fraction x ≡ 0 → TakenApart x (Zero (negative x))
  zero-apart e z = record { same = zero-read (negative x) (field x) (fraction x) e z ∙ read_back; within = tt }

  pub subnormal_apart : field x ≡ 0 → (fraction x ≡ 0 → ⊥) → TakenApart x (Finite (negative x) (fraction x) 0)
  subnormal_apart e some = record {
    same = subnormal_read (negative x) (field x) (fraction x) e ∙ read_back;
    within = record { positive = omega arith; short = omega arith; exponent = omega arith; full = inl refl };
  }

  pub normal-apart : (field x ≡ 0x7FF → ⊥) → (field x ≡ 0 → ⊥) → TakenApart x (Finite (negative x) (2 ^ 52 + fraction x) (field x - 1))
  normal-apart finite normal = record {
    same = normal-read (negative x) (field x) (fraction x) finite normal ∙ read_back;
    within = record { positive = omega arith; short = omega arith; exponent = omega arith; full = inr (omega arith) };
  }

-- what is known of x once its kind is
pub told : {x : Float} {r s : Parts} → TakenApart x r → r ≡ s → TakenApart x s
told {x} apart e = subst (TakenApart x) e apart

pub signed_parts : {x : Float} {s b : Bool} {q k : ℕ} → TakenApart x (Finite s q k) → s ≡ b → odd 53 b q k 1074 ≡ x
signed_parts {q = q} {k = k} apart e = ap (λ (t : Bool). odd 53 t q k 1074) (sym e) ∙ apart.same

-- ---- how many units of 2 ^ -1074 a double is
pub units_of-value : (x : Float) (s : Bool) (a : ℕ) → HasValue x s a (2 ^ 1074) → units_of x ≡ a
units_of-value nan s a h = absurd h
units_of-value (inf t) s a h = absurd h
units_of-value (fin t m e) s a h = ap (λ (n : ℕ). n / down e) h.1 ∙ mul-div_cancel a (down_pos e)

pub units_of-parts : (s : Bool) (q k : ℕ) → units_of (odd 53 s q k 1074) ≡ q * 2 ^ k
units_of-parts s q k = units_of-value (odd 53 s q k 1074) s (q * 2 ^ k) (odd_sign 53 s q k 1074)

-- a finite double of some units is written with a magnitude that is not zero
finite-of-value : (x : Float) (s : Bool) (a : ℕ) → 0 < a → HasValue x s a (2 ^ 1074) → (m : ℕ) × (e : ℤ) × (x ≡ fin s (suc m) e)
finite-of-value nan s a some h = absurd h
finite-of-value (inf t) s a some h = absurd h
finite-of-value (fin t zero e) s a some h = absurd (ne_of_lt (mul-pos some (down_pos e)) (sym (ap (λ (n : ℕ). n * 2 ^ 1074) (zero-mul (up e))) ∙ h.1))
finite-of-value (fin t (suc m) e) s a some h = (m, e, ap (λ (b : Bool). fin b (suc m) e) h.0)

pub finite-of-parts : (s : Bool) (q k : ℕ) → 0 < q → (m : ℕ) × (e : ℤ) × (odd 53 s q k 1074 ≡ fin s (suc m) e)
finite-of-parts s q k some = finite-of-value (odd 53 s q k 1074) s (q * 2 ^ k) (mul-pos some (pow_pos k)) (odd_sign 53 s q k 1074)

-- the parts of a finite double are a double
pub parts-fit : (s : Bool) (q k : ℕ) → Digits q k → T (fits binary64 (odd 53 s q k 1074))
parts-fit s q k d = odd-fits binary64 53 s q k d.short (le_of_lt d.short) (lt_of_lt_of_le (shl_lt 53 k d.short) (pow_mono {j = 2098} (omega (arith, d.exponent))))

-- ---- there is one way to take a double apart

-- q * 2 ^ k has k digits more than 53, or k is 0
kept-digits : (q k : ℕ) → Digits q k → size (q * 2 ^ k) - 53 ≡ k
kept-digits q k d =
    ⊎_elim
    (λ none. let few : size (q * 2 ^ k) ≤ 53 = size-le (q * 2 ^ k) 53 (rw none (omega (arith, d.short))) in omega arith)
    (λ full.
    let low : 2 ^ (52 + k) ≤ q * 2 ^ k = le_trans (le_of_eq (pow-add 2 52 k)) (mul-le-mul_right (2 ^ k) full) in
    let high : q * 2 ^ k < 2 ^ suc (52 + k) = lt_of_lt_of_le (mul-lt-mul_of_pos_right d.short (pow_pos k)) (le_of_eq (sym (pow-add 2 53 k) ∙ ap (λ (n : ℕ). 2 ^ n) (omega arith))) in
    omega (arith, size_is (q * 2 ^ k) (52 + k) low high))
    d.full

finite-parts : (s : Bool) (q k : ℕ) → Digits q k → Finite s q k ≡ parts_of (odd 53 s q k 1074)
unfolding parts_of
finite-parts s q k d =
    let f = finite-of-parts s q k d.positive in
    let units : q * 2 ^ k ≡ units_of (fin s (suc f.0) f.1) = sym (units_of-parts s q k) ∙ ap units_of f.2 in
    ap₂ (λ (n j : ℕ). Finite s n j) (sym (mul-div_cancel q (pow_pos k)) ∙ ap (λ (j : ℕ). q * 2 ^ k / 2 ^ j) (sym (kept-digits q k d))) (sym (kept-digits q k d))
    ∙ ap (λ (n : ℕ). let j = size n - 53 in Finite s (n / 2 ^ j) j) units
    ∙ ap parts_of (sym f.2)

one_way : (r : Parts) {x : Float} → TakenApart x r → r ≡ parts_of x
unfolding parts_of
one_way NotANumber apart = ap parts_of apart.same
one_way (Infinite s) apart = ap parts_of apart.same
one_way (Zero s) apart = ap parts_of apart.same
one_way (Finite s q k) apart = finite-parts s q k apart.within ∙ ap parts_of apart.same

pub in_one_way : (r : Parts) {x : Float} → TakenApart x r → (r ≡ parts_of x) × TakenApart x r
in_one_way r apart = (one_way r apart, apart)
