-- The floor of the root of a number to the base B, from the floor s of the root of its digits above the lowest two: what those leave over s * s, with the
-- next digit, divided by 2 * s gives the root's lowest digit or one more than it. Assumes nothing.
use Rattle.arithmetic.proofs.Kit.{◌≡◌, sym, ap, ◌∙◌, subst, ℕ, zero, suc, ◌+◌, ◌-◌, ◌*◌, ◌/◌, ◌%◌, ◌≤◌, ◌<◌, le_trans, le_of_suc-le-suc, add_assoc, add_comm, add-mul, mul-add, mul_assoc, mul_comm, mul_left_comm, mul-le-mul, mul-le-mul_right, mul-suc, suc-mul, mod-lt, div-add-mod', div-lt_iff_lt-mul, arith, digits_lt}
use Rattle.std.proofs.Common.{two-mul}
use native.Mathlib.Nat.{add_left_comm}
use Rattle.roots.proofs.Root.{IsRoot}

-- ---- the root of a number that is the square of x but for a little: w more and d less

pub next-square : (x : ℕ) → suc x * suc x ≡ suc (x * x + 2 * x)
next-square x = omega (arith, mul-suc (suc x) x, suc-mul x x)

pub left_over : (n x : ℕ) → IsRoot n x → n - x * x ≤ 2 * x
left_over n x h = omega (arith, next-square x)

kept : (n x w d : ℕ) → n + d ≡ x * x + w → w < 2 * x → d ≤ w → IsRoot n x
kept n x w d e room h = omega (arith, next-square x)

lessened : (n x w d : ℕ) → n + d ≡ x * x + w → d ≤ x → w < d → IsRoot n (x - 1)
lessened n zero w d e room h = absurd (omega arith)
lessened n (suc p) w d e room h = let r : IsRoot n p = omega (arith, next-square p) in subst (λ (x : ℕ). IsRoot n x) (omega arith) r

-- ---- how far the number is from a square

-- its lowest digits are b and a, and the digits above them are s * s + r
abbrev pub number : (B s r b a : ℕ) → ℕ
number B s r b a = ((s * s + r) * B + b) * B + a

abbrev pub quotient : (B s r b : ℕ) → ℕ
quotient B s r b = (r * B + b) / (2 * s)

abbrev pub remainder : (B s r b : ℕ) → ℕ
remainder B s r b = (r * B + b) % (2 * s)

number_spread : (B s r b a : ℕ) → number B s r b a ≡ (r * B + b) * B + (s * s * (B * B) + a)
number_spread B s r b a = simp (add-mul, mul_assoc, mul_comm, mul_left_comm, add_assoc, add_left_comm)

square-spread : (B s a q u : ℕ) → (q * (2 * s) + u) * B + (s * s * (B * B) + a) + q * q ≡ (s * B + q) * (s * B + q) + (u * B + a)
square-spread B s a q u = simp (two-mul, add-mul, mul-add, mul_assoc, mul_comm, mul_left_comm, add_assoc, add_comm, add_left_comm)

from-square : (B s r b a : ℕ) → let q = quotient B s r b in number B s r b a + q * q ≡ (s * B + q) * (s * B + q) + (remainder B s r b * B + a)
from-square B s r b a =
    let q = quotient B s r b in
    ap (λ (x : ℕ). x + q * q) (number_spread B s r b a) ∙ ap (λ (x : ℕ). x * B + (s * s * (B * B) + a) + q * q) (sym (div-add-mod' (r * B + b) (2 * s)))
    ∙ square-spread B s a q (remainder B s r b)

-- ---- the root

-- what is known of the division, and which root its quotient gives
pub record Halved (B s r b a : ℕ) : Type 0 where
  pub digit : quotient B s r b ≤ B
  pub rest : remainder B s r b < 2 * s
  pub exact : quotient B s r b * quotient B s r b ≤ remainder B s r b * B + a → IsRoot (number B s r b a) (s * B + quotient B s r b)
  pub less : remainder B s r b * B + a < quotient B s r b * quotient B s r b → IsRoot (number B s r b a) (s * B + quotient B s r b - 1)

pub halved : (B s r b a : ℕ) → r ≤ 2 * s → b < B → a < B → B ≤ s → Halved B s r b a
halved B s r b a r-le b_lt a_lt large =
    let q = quotient B s r b in
    let u = remainder B s r b in
    let q-le : q ≤ B = le_of_suc-le-suc ((div-lt_iff_lt-mul {k = 2 * s} {x = r * B + b} {y = suc B} (omega arith)).1 (omega (arith, mul-le-mul_right B r-le, suc-mul B (2 * s), mul_comm B (2 * s)))) in
    let u-lt : u < 2 * s = mod-lt (r * B + b) (omega arith) in
    let w-lt : u * B + a < 2 * (s * B + q) = omega (arith, digits_lt u-lt a_lt, mul_assoc 2 s B) in
    let d-le : q * q ≤ s * B + q = le_trans (mul-le-mul q-le q-le) (omega (arith, mul-le-mul_right B large)) in
    record {
      digit = q-le;
      rest = u-lt;
      exact = kept (number B s r b a) (s * B + q) (u * B + a) (q * q) (from-square B s r b a) w-lt;
      less = lessened (number B s r b a) (s * B + q) (u * B + a) (q * q) (from-square B s r b a) d-le;
    }
