-- A number n with d digits to the base 4, and N of `sqrt_of_units`, which has the same digits moved to 53 places: the bounds of N, and that no digit
-- is lost where n has 53 significant binary digits at most. Assumes nothing.
use Rattle.arithmetic.proofs.Kit.{◌≡◌, sym, ap, ◌∙◌, subst, ℕ, ◌+◌, ◌-◌, ◌*◌, ◌/◌, ◌^◌, ◌≤◌, ◌<◌, lt_of_lt_of_le, zero-lt-suc, mul_assoc, mul-le-mul_right, one-le-pow, le-div_iff_mul-le, div-lt_iff_lt-mul, arith, pow-add, pow_mono, shl_lt, size, size-lt, size_reaches, size-le}
use native.Mathlib.Nat.{div-eq_of_eq-mul_left}
use Rattle.roots.proofs.Root.{four-pow}
use Rattle.arithmetic.proofs.Size.{size_pos}
use Rattle.arithmetic.proofs.Units.{Short, split-power}

double-power : (d : ℕ) → 4 ^ d ≡ 2 ^ (d + d)
double-power d = four-pow d ∙ sym (pow-add 2 d d)

four-power_pos : (d : ℕ) → 0 < 4 ^ d
four-power_pos d = one-le-pow d 4 (zero-lt-suc 3)

-- d
abbrev pub digits_of : ℕ → ℕ
digits_of n = (size n + 1) / 2

-- N
abbrev pub moved : ℕ → ℕ
moved n = n * 4 ^ 53 / 4 ^ digits_of n

module _ (n : ℕ) where
  abbrev d : ℕ
  d = digits_of n

  below_power : n < 4 ^ d
  below_power = rw double-power (lt_of_lt_of_le (size-lt n) (pow_mono (omega arith)))

  above_quarter : 0 < n → 4 ^ d ≤ n * 4
  above_quarter P =
      let D : 0 < size n = size_pos n P in
      let e : d + d ≡ d + d - 2 + 2 = omega arith in
      rw (double-power, e, pow-add) (mul-le-mul_right 4 (size_reaches n (d + d - 2) (omega arith)))

  pub moved-below : moved n < 4 ^ 53
  moved-below = (div-lt_iff_lt-mul (four-power_pos d)).1 (omega (arith, below_power))

  pub moved-above : 0 < n → 4 ^ 52 ≤ moved n
  moved-above P = (le-div_iff_mul-le (four-power_pos d)).1 (omega (arith, above_quarter P))

  module _ (c k : ℕ) (h : c < 2 ^ 53) (e : n ≡ c * 2 ^ k) where
    factored : n * 4 ^ 53 ≡ c * 2 ^ (k + 106 - (d + d)) * 4 ^ d
    factored =
        let few : size n ≤ 53 + k = size-le n (53 + k) (subst (λ (x : ℕ). x < 2 ^ (53 + k)) (sym e) (shl_lt 53 k h)) in
        ap (λ (x : ℕ). x * 2 ^ 106) e ∙ mul_assoc c (2 ^ k) (2 ^ 106) ∙ ap (λ (x : ℕ). c * x) (sym (pow-add 2 k 106)) ∙ split-power c (k + 106) (d + d) (omega arith) ∙ ap (λ (x : ℕ). c * 2 ^ (k + 106 - (d + d)) * x) (sym (double-power d))

    pub moved-is : moved n ≡ c * 2 ^ (k + 106 - (d + d))
    moved-is = div-eq_of_eq-mul_left (four-power_pos d) factored

  pub moved-exact : Short n → n * 4 ^ 53 ≡ moved n * 4 ^ d
  moved-exact s = let f = factored s.0 s.1 s.2 s.3 in f ∙ ap (λ (x : ℕ). x * 4 ^ d) (sym (moved-is s.0 s.1 s.2 s.3))
