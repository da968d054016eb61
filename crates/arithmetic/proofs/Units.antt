-- A double's size as a count of units of 2 ^ -1074: it has 53 significant binary digits at most, it is below 2 ^ 2098, and it is zero only for a
-- zero. And of counts of so many digits `round` changes none. Assumes nothing.
use Rattle.arithmetic.proofs.Kit.{◌≡◌, refl, sym, ap, ◌∙◌, subst, ◌⊎◌, inl, inr, Bool, false, ◌&&◌, ℕ, zero, suc, ◌+◌, ◌-◌, ◌*◌, ◌/◌, ◌%◌, ◌^◌, ◌≤◌, ◌<◌, le_trans, le_of_eq, le_of_suc-le-suc, lt_of_lt_of_le, lt_of_not-le, not-le_of_lt, eq-or-lt_of_le, zero-lt-suc, zero-mul, one-mul, mul-one, mul_assoc, mul_right_comm, mul-pos, mul-le-mul_right, mul-lt-mul_of_pos_right, zero-div, mul-div_cancel, le-div_iff_mul-le, div-lt_iff_lt-mul, pow-suc, arith, ℤ, pos, negsuc, T, leb, ltb, eqb, leb→le, ltb→lt, lit<, lit≤, pow-add, pow_pos, pow_mono, pow-lt, shl_lt, fin, binary64, up, down, round, fits, up_pos, down_pos, and_l, and_r, HasValue}
use lib.Ieee.Digits.{back}
use lib.Ieee.Exact.{round_exact}
use Rattle.arithmetic.specs.Nearest.{units_of}

-- X is c * 2 ^ k with c below 2 ^ 53
abbrev pub Short : ℕ → Type 0
Short X = (c : ℕ) × (k : ℕ) × (c < 2 ^ 53) × (X ≡ c * 2 ^ k)

-- ---- powers of two
-- a factor of 2 ^ j taken out
pub split-power : (c k j : ℕ) → j ≤ k → c * 2 ^ k ≡ c * 2 ^ (k - j) * 2 ^ j
split-power c k j h = ap (λ (x : ℕ). c * x) (ap (λ (x : ℕ). 2 ^ x) (sym (back k j h)) ∙ pow-add 2 (k - j) j) ∙ sym (mul_assoc c (2 ^ (k - j)) (2 ^ j))

pub one-higher : (k : ℕ) → 2 ^ 53 * 2 ^ k ≡ 2 ^ 52 * 2 ^ suc k
one-higher k = omega (arith, pow-suc 2 k)

-- 2 ^ e in units of 2 ^ -l, for an e of -l at least
pub unit-exponent : (l : ℕ) (e : ℤ) → down e ≤ 2 ^ l → (j : ℕ) × (up e * 2 ^ l ≡ 2 ^ j * down e)
unit-exponent l (pos k) h = (k + l, sym (mul-one (2 ^ (k + l)) ∙ pow-add 2 k l))
unit-exponent l (negsuc k) h =
    let le : suc k ≤ l = le_of_suc-le-suc (lt_of_not-le (λ (g : suc l ≤ suc k). not-le_of_lt (pow-lt g) h)) in
    (l - suc k, one-mul (2 ^ l) ∙ ap (λ (x : ℕ). 2 ^ x) (sym (back l (suc k) le)) ∙ pow-add 2 (l - suc k) (suc k))

-- ---- the count of a double
-- what it takes for a number that is not zero to be a double: few digits, not too far behind the point, and not too great
pub in_range_lem : (s : Bool) (m : ℕ) (e : ℤ) → T (fits binary64 (fin s (suc m) e)) → (suc m < 2 ^ 53) × (down e ≤ 2 ^ 1074) × (suc m * up e < 2 ^ 1024 * down e)
unfolding fits
in_range_lem s m e t =
    let odd : Bool = eqb (suc m % 2) 1 in
    let few : Bool = ltb (suc m) (2 ^ 53) in
    let fine : Bool = leb (down e) (2 ^ 1074) in
    let small : Bool = ltb (suc m * up e) (2 ^ 1024 * down e) in
    let first = and_l (odd && few && fine) small t in (
      ltb→lt (suc m) (2 ^ 53) (and_r odd few (and_l (odd && few) fine first)),
      leb→le (down e) (2 ^ 1074) (and_r (odd && few) fine first),
      ltb→lt (suc m * up e) (2 ^ 1024 * down e) (and_r (odd && few && fine) small t),
    )

-- the division in `units_of` is exact
pub units_are : (s : Bool) (m : ℕ) (e : ℤ) (j : ℕ) → up e * 2 ^ 1074 ≡ 2 ^ j * down e → units_of (fin s m e) ≡ m * 2 ^ j
units_are s m e j h =
    ap (λ (x : ℕ). x / down e) (mul_assoc m (up e) (2 ^ 1074) ∙ ap (λ (x : ℕ). m * x) h ∙ sym (mul_assoc m (2 ^ j) (down e))) ∙ mul-div_cancel (m * 2 ^ j) (down_pos e)

pub units-short : (s : Bool) (m : ℕ) (e : ℤ) → T (fits binary64 (fin s m e)) → Short (units_of (fin s m e))
units-short s zero e t = (0, 0, lit< tt, ap (λ (x : ℕ). x * 2 ^ 1074 / down e) (zero-mul (up e)) ∙ zero-div (down e))
units-short s (suc m) e t =
    let range = in_range_lem s m e t in
    let j = unit-exponent 1074 e range.1 in
    (suc m, j.0, range.0, units_are s (suc m) e j.0 j.1)

pub units-below : (s : Bool) (m : ℕ) (e : ℤ) → T (fits binary64 (fin s (suc m) e)) → units_of (fin s (suc m) e) < 2 ^ 2098
units-below s m e t =
    (div-lt_iff_lt-mul (down_pos e)).1 (subst (λ (x : ℕ). suc m * up e * 2 ^ 1074 < x) (mul_right_comm (2 ^ 1024) (down e) (2 ^ 1074)) (mul-lt-mul_of_pos_right (in_range_lem s m e t).2 (pow_pos 1074)))

pub units_pos : (s : Bool) (m : ℕ) (e : ℤ) → T (fits binary64 (fin s (suc m) e)) → 0 < units_of (fin s (suc m) e)
units_pos s m e t =
    (le-div_iff_mul-le (down_pos e)).1
    (le_trans (le_of_eq (one-mul (down e))) (le_trans (in_range_lem s m e t).1 (subst (λ (x : ℕ). x ≤ suc m * up e * 2 ^ 1074) (one-mul (2 ^ 1074)) (mul-le-mul_right (2 ^ 1074) (mul-pos (zero-lt-suc m) (up_pos e))))))

-- ---- the double of a count
-- rounding changes nothing
abbrev pub Kept : ℕ → Type 0
Kept X = HasValue (round binary64 false X (2 ^ 1074)) false X (2 ^ 1074)

below_top : (c j : ℕ) → c < 2 ^ 54 → j ≤ 2000 → c * 2 ^ j < 2 ^ 2098
below_top c j h k = lt_of_lt_of_le (shl_lt 54 j h) (pow_mono {i = 54 + j} {j = 2098} (omega arith))

-- 2 ^ 53 is 2 ^ 52 one place higher
pub units-kept : (c j : ℕ) → c ≤ 2 ^ 53 → j ≤ 2000 → Kept (c * 2 ^ j)
units-kept c j h k = go (eq-or-lt_of_le h)
  where
    go : (c ≡ 2 ^ 53) ⊎ (c < 2 ^ 53) → Kept (c * 2 ^ j)
    go (inl e) =
        subst (λ (x : ℕ). Kept (x * 2 ^ j)) (sym e)
        (round_exact binary64 false (2 ^ 53 * 2 ^ j) (2 ^ 1074) (2 ^ 52) (suc j) (pow_pos 1074) (lit< tt) (subst (λ (x : ℕ). x < 2 ^ 2098) (one-higher j) (below_top (2 ^ 53) j (lit< tt) k)) (ap (λ (x : ℕ). x * 2 ^ 1074) (one-higher j)))
    go (inr l) = round_exact binary64 false (c * 2 ^ j) (2 ^ 1074) c j (pow_pos 1074) l (below_top c j (lt_of_lt_of_le l (lit≤ tt)) k) refl
