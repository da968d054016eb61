-- The order of the whole numbers, and what keeps or turns it: the opposite, a product with a fixed factor, a floor. Assumes nothing.
use Rattle.arithmetic.proofs.Kit.{◌≡◌, refl, sym, ap, ◌∙◌, ℕ, zero, suc, ◌-◌, ◌*◌, ◌/◌, ◌≤◌, ◌<◌, zero-le, suc-le-suc, le_trans, le_of_suc-le-suc, not-suc-le-zero, zero-lt-suc, mul-le-mul_right, le_of_mul-le-mul_right, mul-pos, zero-mul, arith, Bool, true, false, cond, ℤ, pos, negsuc, neg_ℤ, ◌*ℤ◌, T, leb, leb→le, le→leb, ◌≤ℤ◌, minus}
use Rattle.std.proofs.Common.{sub-one}
use lib.IntN.{neg_ℤ-neg_ℤ, *ℤ-zero, *ℤ-negsuc}
use lib.Ieee.Nearest.{div_mono as div-ratios}
use Rattle.arithmetic.specs.Whole.{signed, floor_div}

-- ---- the order
pub pos_le : {a b : ℕ} → a ≤ b → pos a ≤ℤ pos b
pos_le {a} {b} h = record { le = le→leb a b h }

pub le-of_pos : {a b : ℕ} → pos a ≤ℤ pos b → a ≤ b
le-of_pos {a} {b} h = leb→le a b h.le

negsuc_le : {a b : ℕ} → b ≤ a → negsuc a ≤ℤ negsuc b
negsuc_le {a} {b} h = record { le = le→leb b a h }

pub le-of_negsuc : {a b : ℕ} → negsuc a ≤ℤ negsuc b → b ≤ a
le-of_negsuc {a} {b} h = leb→le b a h.le

pub ≤ℤ-trans : {a b c : ℤ} → a ≤ℤ b → b ≤ℤ c → a ≤ℤ c
≤ℤ-trans {a = pos a} {b = pos b} {c = pos c} h k = pos_le (le_trans (le-of_pos h) (le-of_pos k))
≤ℤ-trans {a = pos a} {b = pos b} {c = negsuc c} h k = absurd k.le
≤ℤ-trans {a = pos a} {b = negsuc b} {c = c} h k = absurd h.le
≤ℤ-trans {a = negsuc a} {b = pos b} {c = pos c} h k = record { le = tt }
≤ℤ-trans {a = negsuc a} {b = pos b} {c = negsuc c} h k = absurd k.le
≤ℤ-trans {a = negsuc a} {b = negsuc b} {c = pos c} h k = record { le = tt }
≤ℤ-trans {a = negsuc a} {b = negsuc b} {c = negsuc c} h k = negsuc_le (le_trans (le-of_negsuc k) (le-of_negsuc h))

-- ---- the opposite
pub opposite-of : (n : ℕ) → 0 < n → neg_ℤ (pos n) ≡ negsuc (n - 1)
opposite-of zero h = absurd (not-suc-le-zero h)
opposite-of (suc n) h = ap negsuc (sym (sub-one (suc n)))

pub neg-below : (n m : ℕ) → neg_ℤ (pos n) ≤ℤ pos m
neg-below zero m = pos_le zero-le
neg-below (suc n) m = record { le = tt }

pub opposites : {a b : ℕ} → a ≤ b → neg_ℤ (pos b) ≤ℤ neg_ℤ (pos a)
opposites {a = zero} {b = b} h = neg-below b 0
opposites {a = suc a} {b = zero} h = absurd (not-suc-le-zero h)
opposites {a = suc a} {b = suc b} h = negsuc_le (le_of_suc-le-suc h)

pub not_below-neg : (a b : ℕ) → 0 < b → pos a ≤ℤ neg_ℤ (pos b) → ⊥
not_below-neg a zero some h = not-suc-le-zero some
not_below-neg a (suc b) some h = h.le

pub le-of-opposites : (a b : ℕ) → neg_ℤ (pos b) ≤ℤ neg_ℤ (pos a) → a ≤ b
le-of-opposites zero b h = zero-le
le-of-opposites (suc a) zero h = absurd h.le
le-of-opposites (suc a) (suc b) h = suc-le-suc (le-of_negsuc h)

-- ---- a product with a number that is not negative, and with its opposite
pub times_mono : (q : ℕ) {a b : ℤ} → a ≤ℤ b → (a *ℤ pos q) ≤ℤ (b *ℤ pos q)
times_mono q {a = pos a} {b = pos b} h = pos_le (mul-le-mul_right q (le-of_pos h))
times_mono q {a = pos a} {b = negsuc b} h = absurd h.le
times_mono q {a = negsuc a} {b = pos b} h = neg-below (suc a * q) (b * q)
times_mono q {a = negsuc a} {b = negsuc b} h = opposites (mul-le-mul_right q (suc-le-suc (le-of_negsuc h)))

pub times-cancel : (q : ℕ) → 0 < q → (a b : ℤ) → (a *ℤ pos q) ≤ℤ (b *ℤ pos q) → a ≤ℤ b
times-cancel q some (pos a) (pos b) h = pos_le (le_of_mul-le-mul_right (le-of_pos h) some)
times-cancel q some (pos a) (negsuc b) h = absurd (not_below-neg (a * q) (suc b * q) (mul-pos (zero-lt-suc b) some) h)
times-cancel q some (negsuc a) (pos b) h = record { le = tt }
times-cancel q some (negsuc a) (negsuc b) h = negsuc_le (le_of_suc-le-suc (le_of_mul-le-mul_right (le-of-opposites (suc b * q) (suc a * q) h) some))

pub neg-times : (a : ℤ) (q : ℕ) → a *ℤ neg_ℤ (pos q) ≡ neg_ℤ (a *ℤ pos q)
neg-times a zero = *ℤ-zero a ∙ ap neg_ℤ (sym (*ℤ-zero a))
neg-times a (suc q) = *ℤ-negsuc a q

pub neg_left : (a : ℤ) (q : ℕ) → neg_ℤ a *ℤ pos q ≡ neg_ℤ (a *ℤ pos q)
neg_left (pos zero) q = ap pos (zero-mul q) ∙ ap (λ (n : ℕ). neg_ℤ (pos n)) (sym (zero-mul q))
neg_left (pos (suc a)) q = refl
neg_left (negsuc a) q = sym (neg_ℤ-neg_ℤ (pos (suc a * q)))

pub signed-times : (s : Bool) (a q : ℕ) → signed s a *ℤ pos q ≡ signed s (a * q)
signed-times false a q = refl
signed-times true a q = neg_left (pos a) q

pub neg_mono : {a b : ℤ} → a ≤ℤ b → neg_ℤ b ≤ℤ neg_ℤ a
neg_mono {a = pos a} {b = pos b} h = opposites (le-of_pos h)
neg_mono {a = pos a} {b = negsuc b} h = absurd h.le
neg_mono {a = negsuc a} {b = pos b} h = neg-below b (suc a)
neg_mono {a = negsuc a} {b = negsuc b} h = pos_le (suc-le-suc (le-of_negsuc h))

pub times_anti : (q : ℕ) {a b : ℤ} → a ≤ℤ b → (b *ℤ neg_ℤ (pos q)) ≤ℤ (a *ℤ neg_ℤ (pos q))
times_anti q {a} {b} h = rw (neg-times a q, neg-times b q) (neg_mono (times_mono q h))

-- ---- floors
pub div_mono : (d : ℕ) → 0 < d → {a b : ℕ} → a ≤ b → a / d ≤ b / d
div_mono d D {a} {b} h = div-ratios a d b d D D (mul-le-mul_right d h)

pub floor_div_mono : (d : ℕ) → 0 < d → {a b : ℤ} → a ≤ℤ b → floor_div a d ≤ℤ floor_div b d
floor_div_mono d D {a = pos a} {b = pos b} h = pos_le (div_mono d D (le-of_pos h))
floor_div_mono d D {a = pos a} {b = negsuc b} h = absurd h.le
floor_div_mono d D {a = negsuc a} {b = pos b} h = record { le = tt }
floor_div_mono d D {a = negsuc a} {b = negsuc b} h = negsuc_le (div_mono d D (le-of_negsuc h))

-- ---- a difference of two numbers that are not negative
pub minus_mono : (k : ℕ) {a b : ℕ} → a ≤ b → minus a k ≤ℤ minus b k
minus_mono k {a} {b} h = go (leb k a) (leb k b) (leb→le k a) (le→leb k b)
  where
    go : (x y : Bool) → (T x → k ≤ a) → (k ≤ b → T y) → cond x (pos (a - k)) (negsuc (k - suc a)) ≤ℤ cond y (pos (b - k)) (negsuc (k - suc b))
    go true true f g = pos_le (omega arith)
    go true false f g = absurd (g (le_trans (f tt) h))
    go false true f g = record { le = tt }
    go false false f g = negsuc_le (omega arith)
