-- A whole number as the difference of two natural numbers: which differences are the same, its sum, its product with a factor, its floor and remainder.
-- Assumes nothing.
use Rattle.arithmetic.proofs.Kit.{◌≡◌, sym, ap, ◌∙◌, subst, ℕ, zero, suc, ◌+◌, ◌-◌, ◌*◌, ◌/◌, ◌%◌, ◌≤◌, ◌<◌, lt_of_not-le, add-mul, mod-lt, div-add-mod', le-div_iff_mul-le, div-lt_iff_lt-mul, dec_le, arith, Bool, cond, ℤ, pos, negsuc, neg_ℤ, ◌+ℤ◌, ◌*ℤ◌, leb, ltb, le→leb, lt→ltb, le→nltb, digits_div, minus, is_true, is_false}
use lib.IntN.{sub_ℕ}
use lib.Arith.{lt→nleb, digits_mod}
use Rattle.arithmetic.specs.Whole.{floor_div, floor_mod}

-- ---- by its sign
pub minus-above : (a b : ℕ) → b ≤ a → minus a b ≡ pos (a - b)
minus-above a b h = ap (λ (t : Bool). cond t (pos (a - b)) (negsuc (b - suc a))) (is_true (leb b a) (le→leb b a h))

pub minus-below : (a b : ℕ) → a < b → minus a b ≡ negsuc (b - suc a)
minus-below a b h = ap (λ (t : Bool). cond t (pos (a - b)) (negsuc (b - suc a))) (is_false (leb b a) (lt→nleb b a h))

pub by_sign : (P : ℤ → Type 0) (a b : ℕ) → (b ≤ a → P (pos (a - b))) → (a < b → P (negsuc (b - suc a))) → P (minus a b)
by_sign P a b above below = go (dec_le b a)
  where
    go : Dec (b ≤ a) → P (minus a b)
    go (yes h) = subst P (sym (minus-above a b h)) (above h)
    go (no h) = subst P (sym (minus-below a b (lt_of_not-le h))) (below (lt_of_not-le h))

-- as sums of whole numbers have it
pub minus_is : (a b : ℕ) → sub_ℕ a b ≡ minus a b
minus_is a b =
    by_sign (λ z. sub_ℕ a b ≡ z) a b
    (λ h. ap (λ (t : Bool). cond t (negsuc (b - suc a)) (pos (a - b))) (is_false (ltb a b) (le→nltb a b h)))
    (λ h. ap (λ (t : Bool). cond t (negsuc (b - suc a)) (pos (a - b))) (is_true (ltb a b) (lt→ltb a b h)))

pub minus-same : (a b c d : ℕ) → a + d ≡ c + b → minus a b ≡ minus c d
minus-same a b c d e =
    by_sign (λ z. z ≡ minus c d) a b
    (λ h. ap pos (omega arith) ∙ sym (minus-above c d (omega arith)))
    (λ h. ap negsuc (omega arith) ∙ sym (minus-below c d (omega arith)))

pub minus_plus : (a b c : ℕ) → minus a b +ℤ pos c ≡ minus (a + c) b
minus_plus a b c =
    by_sign (λ z. z +ℤ pos c ≡ minus (a + c) b) a b
    (λ h. ap pos (omega arith) ∙ sym (minus-above (a + c) b (omega arith)))
    (λ h. minus_is c (suc (b - suc a)) ∙ minus-same c (suc (b - suc a)) (a + c) b (omega arith))

-- ---- times a factor
pub opposite : (n : ℕ) → neg_ℤ (pos n) ≡ minus 0 n
opposite zero = sym (minus-above 0 0 (omega arith))
opposite (suc n) = ap negsuc (omega arith) ∙ sym (minus-below 0 (suc n) (omega arith))

pub minus-times : (a b m : ℕ) → minus a b *ℤ pos m ≡ minus (a * m) (b * m)
minus-times a b m =
    by_sign (λ z. z *ℤ pos m ≡ minus (a * m) (b * m)) a b
    (λ h.
    let parts : (a - b) * m + b * m ≡ a * m = sym (add-mul (a - b) b m) ∙ ap (λ (n : ℕ). n * m) (omega arith) in
    ap pos (omega arith) ∙ sym (minus-above ((a - b) * m) 0 (omega arith)) ∙ minus-same ((a - b) * m) 0 (a * m) (b * m) (omega arith))
    (λ h.
    let parts : suc (b - suc a) * m + a * m ≡ b * m = sym (add-mul (suc (b - suc a)) a m) ∙ ap (λ (n : ℕ). n * m) (omega arith) in
    opposite (suc (b - suc a) * m) ∙ minus-same 0 (suc (b - suc a) * m) (a * m) (b * m) (omega arith))

-- ---- the floor and the remainder
module _ (a t d : ℕ) (D : 0 < d) where
  split-above : t * d ≤ a → a - t * d ≡ (a / d - t) * d + a % d
  split-above h =
      let least : t ≤ a / d = (le-div_iff_mul-le D).1 h in
      let parts : (a / d - t) * d + t * d ≡ a / d * d = sym (add-mul (a / d - t) t d) ∙ ap (λ (n : ℕ). n * d) (omega arith) in
      omega (arith, div-add-mod' a d)

  split_below : a < t * d → t * d - suc a ≡ (t - suc (a / d)) * d + (d - suc (a % d))
  split_below h =
      let most : a / d < t = (div-lt_iff_lt-mul D).1 h in
      let parts : (t - suc (a / d)) * d + (a / d * d + d) ≡ t * d = ap (λ (n : ℕ). (t - suc (a / d)) * d + n) (sym (add-mul (a / d) 1 d ∙ omega arith)) ∙ sym (add-mul (t - suc (a / d)) (a / d + 1) d) ∙ ap (λ (n : ℕ). n * d) (omega arith) in
      omega (arith, div-add-mod' a d, mod-lt a D)

  pub floor_minus : floor_div (minus a (t * d)) d ≡ minus (a / d) t
  floor_minus =
      by_sign (λ z. floor_div z d ≡ minus (a / d) t) a (t * d)
      (λ h. ap (λ (n : ℕ). pos (n / d)) (split-above h) ∙ ap pos (digits_div (a / d - t) (mod-lt a D)) ∙ sym (minus-above (a / d) t ((le-div_iff_mul-le D).1 h)))
      (λ h. ap (λ (n : ℕ). negsuc (n / d)) (split_below h) ∙ ap negsuc (digits_div (t - suc (a / d)) (omega arith)) ∙ sym (minus-below (a / d) t ((div-lt_iff_lt-mul D).1 h)))

  pub remainder-minus : floor_mod (minus a (t * d)) d ≡ a % d
  remainder-minus =
      by_sign (λ z. floor_mod z d ≡ a % d) a (t * d)
      (λ h. ap (λ (n : ℕ). n % d) (split-above h) ∙ digits_mod (a / d - t) (mod-lt a D))
      (λ h. ap (λ (n : ℕ). d - suc (n % d)) (split_below h) ∙ ap (λ (n : ℕ). d - suc n) (digits_mod (t - suc (a / d)) (omega arith)) ∙ omega (arith, mod-lt a D))
