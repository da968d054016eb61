-- What `round` gives, as a bit pattern: the exponent's field counts the digits that it drops, the number that it keeps is added to that, and the
-- pattern goes no higher than the infinity's. The leading digit of a number that is kept adds one to the field, and a number that rounding brought
-- to the next power of two adds two. Assumes nothing.
use Rattle.arithmetic.proofs.Kit.{◌≡◌, refl, sym, ap, ◌∙◌, subst, inl, inr, true, false, true≢false, ℕ, suc, ◌+◌, ◌-◌, ◌*◌, ◌/◌, ◌^◌, ◌≤◌, ◌<◌, min, eq-or-lt_of_le, le_antisymm, le_of_eq, le_trans, lt_of_lt_of_le, lt_of_not-le, not-le_of_lt, lt-suc_self, zero-add, mul-one, suc-mul, mul-le-mul_right, mul-div_cancel, div-div-eq-div-mul, le-div_iff_mul-le, min-eq_left, min-eq_right, pow-succ', add-one, arith, T, ltb, le→nltb, pow-add, pow_pos, pow_mono, pow-lt, shl_lt, Float, nan, inf, fin, binary64, down, size, odd, units, round, of_bits, to_bits, fits, size-lt, size-le, size_reaches, down_pos, round-fits, of_bits-to_bits, HasValue, kept}
use Rattle.std.proofs.Common.{eq-zero-or-pos}
use native.Mathlib.Decide.{dec_lt}
use lib.Pow.{shl-shr}
use lib.Ieee.{Format, binary32, prec, emax, low, hid, ones}
use lib.Ieee.Fits.{kept-lt, round_is, reach, two, two-le_pos}
use lib.Ieee.Bits.{cond_no}
use lib.Ieee.Order.{drop}
use lib.Ieee.Scale.{grid, overflow, round_val}
use Rattle.arithmetic.proofs.Closest.{closest_at_most, closest_at_least}

-- ---- a number's digits
size_above : (n j : ℕ) → 2 ^ j ≤ n → j < size n
size_above n j h = lt_of_not-le (λ (g : size n ≤ j). not-le_of_lt (lt_of_lt_of_le (size-lt n) (pow_mono g)) h)

pub size_is : (n j : ℕ) → 2 ^ j ≤ n → n < 2 ^ suc j → size n ≡ suc j
size_is n j lo hi = le_antisymm (size-le n (suc j) hi) (size_above n j lo)

pub pow_pred : (p : ℕ) → 0 < p → 2 ^ p ≡ 2 * 2 ^ (p - 1)
pow_pred p P = let e : p ≡ suc (p - 1) = omega arith in ap (λ (i : ℕ). 2 ^ i) e ∙ pow-succ' 2 (p - 1)

-- ---- the pattern of a finite value of a units, for a format of p digits
abbrev written : ℕ → ℕ → ℕ
written p a = (size a - p) * 2 ^ (p - 1) + a / 2 ^ (size a - p)

to_bits_written : (f : Format) (x : Float) (a : ℕ) → HasValue x false a (2 ^ low f) → to_bits f x ≡ written (prec f) a
unfolding to_bits
to_bits_written f nan a h = absurd h
to_bits_written f (inf s) a h = absurd h
to_bits_written f (fin true m e) a h = absurd (true≢false h.0)
to_bits_written f (fin false m e) a h =
    ap (λ (n : ℕ). 0 + (size n - prec f) * hid f + n / 2 ^ (size n - prec f)) (ap (λ (n : ℕ). n / down e) h.1 ∙ mul-div_cancel a (down_pos e))
    ∙ ap (λ (x : ℕ). x + a / 2 ^ (size a - prec f)) (zero-add ((size a - prec f) * hid f))

-- ---- the pattern of q * 2 ^ k units is k fields and q, if q has p digits, or fewer where k is 0, or is 2 ^ p
written_of : (p a k q : ℕ) → size a - p ≡ k → a ≡ q * 2 ^ k → written p a ≡ k * 2 ^ (p - 1) + q
written_of p a k q d e = ap (λ (j : ℕ). j * 2 ^ (p - 1) + a / 2 ^ j) d ∙ ap (λ (x : ℕ). k * 2 ^ (p - 1) + x) (ap (λ (x : ℕ). x / 2 ^ k) e ∙ shl-shr q k)

written-few : (p q : ℕ) → 0 < p → q < 2 ^ (p - 1) → written p (q * 2 ^ 0) ≡ 0 * 2 ^ (p - 1) + q
written-few p q P small =
    let s : size (q * 2 ^ 0) ≤ p - 1 = size-le (q * 2 ^ 0) (p - 1) (subst (λ (x : ℕ). x < 2 ^ (p - 1)) (sym (mul-one q)) small) in
    let none : size (q * 2 ^ 0) - p ≡ 0 = omega arith in
    written_of p (q * 2 ^ 0) 0 q none refl

written-full : (p q k : ℕ) → 0 < p → 2 ^ (p - 1) ≤ q → q < 2 ^ p → written p (q * 2 ^ k) ≡ k * 2 ^ (p - 1) + q
written-full p q k P lo hi =
    let a = q * 2 ^ k in
    let next : p + k ≡ suc (p - 1 + k) = omega arith in
    let below : 2 ^ (p - 1 + k) ≤ a = le_trans (le_of_eq (pow-add 2 (p - 1) k)) (mul-le-mul_right (2 ^ k) lo) in
    let above : a < 2 ^ suc (p - 1 + k) = subst (λ (i : ℕ). a < 2 ^ i) next (shl_lt p k hi) in
    let s : size a ≡ suc (p - 1 + k) = size_is a (p - 1 + k) below above in
    let dropped : size a - p ≡ k = omega arith in
    written_of p a k q dropped refl

-- the carry: one field more, and half as much
written-carry : (p k : ℕ) → 0 < p → written p (2 ^ p * 2 ^ k) ≡ k * 2 ^ (p - 1) + 2 ^ p
written-carry p k P =
    let a = 2 ^ p * 2 ^ k in
    let is : 2 ^ (p + k) ≡ a = pow-add 2 p k in
    let s : size a ≡ suc (p + k) = size_is a (p + k) (le_of_eq is) (subst (λ (x : ℕ). x < 2 ^ suc (p + k)) is (pow-lt (lt-suc_self (p + k)))) in
    let dropped : size a - p ≡ suc k = omega arith in
    let shifted : p + k ≡ p - 1 + suc k = omega arith in
    let t : 2 ^ p ≡ 2 * 2 ^ (p - 1) = pow_pred p P in
    let c : suc k * 2 ^ (p - 1) ≡ k * 2 ^ (p - 1) + 2 ^ (p - 1) = suc-mul k (2 ^ (p - 1)) in
    let w : written p a ≡ suc k * 2 ^ (p - 1) + 2 ^ (p - 1) = written_of p a (suc k) (2 ^ (p - 1)) dropped (sym is ∙ ap (λ (i : ℕ). 2 ^ i) shifted ∙ pow-add 2 (p - 1) (suc k)) in
    omega arith

written_grid : (p q k : ℕ) → 0 < p → q ≤ 2 ^ p → (0 < k → 2 ^ (p - 1) ≤ q) → written p (q * 2 ^ k) ≡ k * 2 ^ (p - 1) + q
written_grid p q k P hi lo =
    elim (dec_lt q (2 ^ (p - 1))) [
      | yes small ↦
          elim (eq-zero-or-pos k) [
            | inl z ↦ subst (λ (j : ℕ). written p (q * 2 ^ j) ≡ j * 2 ^ (p - 1) + q) (sym z) (written-few p q P small)
            | inr some ↦ absurd (not-le_of_lt small (lo some))
          ]
      | no big ↦
          elim (eq-or-lt_of_le hi) [
            | inl e ↦ subst (λ (x : ℕ). written p (x * 2 ^ k) ≡ k * 2 ^ (p - 1) + x) (sym e) (written-carry p k P)
            | inr l ↦ written-full p q k P (omega arith) l
          ]
    ]

-- ---- the pattern of 2 ^ (p - 1 + o) units is o + 1 fields, and the patterns are in the order of the units
written-under : (p o a : ℕ) → 0 < p → 0 < o → a < 2 ^ (p - 1 + o) → written p a ≤ suc o * 2 ^ (p - 1)
written-under p o a P O h =
    let s : size a ≤ p - 1 + o = size-le a (p - 1 + o) h in
    let j = size a - p in
    let l : suc j ≤ o = omega arith in
    let m : suc j * 2 ^ (p - 1) ≤ o * 2 ^ (p - 1) = mul-le-mul_right (2 ^ (p - 1)) l in
    let d : suc j * 2 ^ (p - 1) ≡ j * 2 ^ (p - 1) + 2 ^ (p - 1) = suc-mul j (2 ^ (p - 1)) in
    let e : suc o * 2 ^ (p - 1) ≡ o * 2 ^ (p - 1) + 2 ^ (p - 1) = suc-mul o (2 ^ (p - 1)) in
    let r : a / 2 ^ j < 2 ^ p = kept-lt p a in
    let t : 2 ^ p ≡ 2 * 2 ^ (p - 1) = pow_pred p P in
    omega arith

written_over : (p o a : ℕ) → 0 < p → 2 ^ (p - 1 + o) ≤ a → suc o * 2 ^ (p - 1) ≤ written p a
written_over p o a P h =
    let s : p - 1 + o < size a = size_above a (p - 1 + o) h in
    let j = size a - p in
    let l : o ≤ j = omega arith in
    let m : o * 2 ^ (p - 1) ≤ j * 2 ^ (p - 1) = mul-le-mul_right (2 ^ (p - 1)) l in
    let e : suc o * 2 ^ (p - 1) ≡ o * 2 ^ (p - 1) + 2 ^ (p - 1) = suc-mul o (2 ^ (p - 1)) in
    let t : p - 1 + j < size a = omega arith in
    let r : 2 ^ (p - 1) ≤ a / 2 ^ j = (le-div_iff_mul-le (pow_pos j)).1 (le_trans (le_of_eq (sym (pow-add 2 (p - 1) j))) (size_reaches a (p - 1 + j) t)) in
    omega arith

-- ---- what `round` keeps: at most p digits, or 2 ^ p; and no fewer where it drops some
kept-at_most : (p n den : ℕ) → kept p n den ≤ 2 ^ p
kept-at_most p n den =
    let k = drop p n den in
    closest_at_most n (den * 2 ^ k) (2 ^ p) (subst (λ (x : ℕ). x < 2 ^ p) (div-div-eq-div-mul n den (2 ^ k)) (kept-lt p (n / den)))

kept-at_least : (p n den : ℕ) → 0 < p → 0 < drop p n den → 2 ^ (p - 1) ≤ kept p n den
kept-at_least p n den P some =
    let k = drop p n den in
    let reached : p - 1 + k < size (n / den) = omega arith in
    let leading : 2 ^ (p - 1) * 2 ^ k ≤ n / den = le_trans (le_of_eq (sym (pow-add 2 (p - 1) k))) (size_reaches (n / den) (p - 1 + k) reached) in
    closest_at_least n (den * 2 ^ k) (2 ^ (p - 1)) (subst (λ (x : ℕ). 2 ^ (p - 1) ≤ x) (div-div-eq-div-mul n den (2 ^ k)) ((le-div_iff_mul-le (pow_pos k)).1 leading))

-- ---- the infinity
infinity_bits : (f : Format) → of_bits f (ones f * hid f) ≡ inf false
unfolding of_bits
infinity_bits binary32 = refl
infinity_bits binary64 = refl

units-over : (f : Format) (q k : ℕ) → overflow f ≤ q * 2 ^ k → units f false q k ≡ inf false
unfolding units
units-over f q k h = cond_no (ltb (q * 2 ^ k) (overflow f)) (odd (suc (prec f)) false q k (low f)) (inf false) (le→nltb (q * 2 ^ k) (overflow f) h)

-- ---- the law
pub round-bits : (f : Format) (num den : ℕ) → let n = num * 2 ^ low f in round f false num den ≡ of_bits f (min (drop (prec f) n den * hid f + kept (prec f) n den) (ones f * hid f))
round-bits f num den =
    let p = prec f in
    let n = num * 2 ^ low f in
    let k = drop p n den in
    let q = kept p n den in
    let P : 0 < p = two-le_pos p (two f) in
    let w : written p (q * 2 ^ k) ≡ k * hid f + q = written_grid p q k P (kept-at_most p n den) (kept-at_least p n den P) in
    let fields : suc (2 * emax f) * hid f ≡ ones f * hid f = ap (λ (x : ℕ). x * hid f) (sym (add-one (2 * emax f))) in
    let top : low f + suc (emax f) ≡ p - 1 + 2 * emax f = omega (arith, two f) in
    elim (dec_lt (grid f num den) (overflow f)) [
      | yes under ↦
          let few : written p (q * 2 ^ k) ≤ suc (2 * emax f) * hid f = written-under p (2 * emax f) (q * 2 ^ k) P (omega (arith, two f, reach f)) (subst (λ (i : ℕ). q * 2 ^ k < 2 ^ i) top under) in
          sym (of_bits-to_bits f (round f false num den) (round-fits f false num den))
          ∙ ap (of_bits f) (to_bits_written f (round f false num den) (q * 2 ^ k) (round_val f num den under) ∙ w ∙ sym (min-eq_left (omega arith)))
      | no over ↦
          let many : suc (2 * emax f) * hid f ≤ written p (q * 2 ^ k) = written_over p (2 * emax f) (q * 2 ^ k) P (subst (λ (i : ℕ). 2 ^ i ≤ q * 2 ^ k) top (omega arith)) in
          round_is f false num den
          ∙ units-over f q k (omega arith)
          ∙ sym (infinity_bits f)
          ∙ ap (of_bits f) (sym (min-eq_right (omega arith)))
    ]

-- ---- doubles with one pattern are one double
pub one-pattern : (x y : Float) → T (fits binary64 x) → T (fits binary64 y) → to_bits binary64 x ≡ to_bits binary64 y → x ≡ y
one-pattern x y f g same = sym (of_bits-to_bits binary64 x f) ∙ ap (of_bits binary64) same ∙ of_bits-to_bits binary64 y g
