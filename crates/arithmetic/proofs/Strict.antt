-- The strict order of doubles: one number is less than another exactly if the other is not at most it. So what is less stays less than what rises.
-- Assumes nothing.
use Rattle.arithmetic.proofs.Kit.{Bool, true, false, ℕ, zero, suc, ◌+◌, ◌*◌, ◌≤◌, ◌<◌, lt_of_not-le, not-le_of_lt, arith, pos, T, ltb→lt, lt→ltb, ◌≤ℤ◌, ≤ℤ_refl, Float, nan, inf, fin, binary64, up, down, fits, lt, le, eq}
use lib.Ieee.{below}
use Rattle.arithmetic.specs.Whole.{signed}
use Rattle.arithmetic.proofs.Integers.{pos_le, le-of_pos, neg-below, opposites, not_below-neg, le-of-opposites}
use Rattle.arithmetic.proofs.Order.{or_left, signed-of-le, le-of-signed, number, highest, numbers-of-le, le-trans-double}

-- ---- ±a against ±b, as `lt` compares them
less-of-signed : (s t : Bool) (a b : ℕ) → (signed t b ≤ℤ signed s a → ⊥) → T (below s a t b)
less-of-signed false false a b h = lt→ltb a b (lt_of_not-le (λ (g : b ≤ a). h (pos_le g)))
less-of-signed false true a b h = h (neg-below b a)
less-of-signed true false zero zero h = absurd (h (≤ℤ_refl (pos 0)))
less-of-signed true false zero (suc b) h = lt→ltb 0 (zero + suc b) (omega arith)
less-of-signed true false (suc a) b h = lt→ltb 0 (suc a + b) (omega arith)
less-of-signed true true a b h = lt→ltb b a (lt_of_not-le (λ (g : a ≤ b). h (opposites g)))

not_signed-of-less : (s t : Bool) (a b : ℕ) → T (below s a t b) → signed t b ≤ℤ signed s a → ⊥
not_signed-of-less false false a b h k = not-le_of_lt (ltb→lt a b h) (le-of_pos k)
not_signed-of-less false true a b h k = h
not_signed-of-less true false zero b h k = let some : 0 < 0 + b = ltb→lt 0 (0 + b) h in let none : b ≤ 0 = le-of_pos k in omega (arith, some, none)
not_signed-of-less true false (suc a) b h k = not_below-neg b (suc a) (omega arith) k
not_signed-of-less true true a b h k = not-le_of_lt (ltb→lt b a h) (le-of-opposites a b k)

-- ---- doubles
pub less-of_not_le : (x y : Float) → T (number x) → T (number y) → (T (le y x) → ⊥) → T (lt x y)
unfolding le lt
less-of_not_le nan y u v h = absurd u
less-of_not_le (inf s) nan u v h = absurd v
less-of_not_le (inf true) (inf true) u v h = absurd (h tt)
less-of_not_le (inf true) (inf false) u v h = tt
less-of_not_le (inf false) (inf t) u v h = absurd (h (highest (inf t) tt))
less-of_not_le (inf true) (fin t n d) u v h = tt
less-of_not_le (inf false) (fin t n d) u v h = absurd (h tt)
less-of_not_le (fin s m e) nan u v h = absurd v
less-of_not_le (fin s m e) (inf true) u v h = absurd (h tt)
less-of_not_le (fin s m e) (inf false) u v h = tt
less-of_not_le (fin s m e) (fin t n d) u v h =
    less-of-signed s t (m * up e * down d) (n * up d * down e) (λ g. h (le-of-signed t s (n * up d * down e) (m * up e * down d) g))

pub not_le-of-less : (x y : Float) → T (lt x y) → T (le y x) → ⊥
unfolding le lt
not_le-of-less nan y h k = h
not_le-of-less (inf s) nan h k = h
not_le-of-less (inf true) (inf true) h k = h
not_le-of-less (inf true) (inf false) h k = k
not_le-of-less (inf false) (inf t) h k = h
not_le-of-less (inf true) (fin t n d) h k = k
not_le-of-less (inf false) (fin t n d) h k = h
not_le-of-less (fin s m e) nan h k = h
not_le-of-less (fin s m e) (inf true) h k = h
not_le-of-less (fin s m e) (inf false) h k = k
not_le-of-less (fin s m e) (fin t n d) h k =
    not_signed-of-less s t (m * up e * down d) (n * up d * down e) h (signed-of-le t s (n * up d * down e) (m * up e * down d) k)

le_of_lt : (x y : Float) → T (lt x y) → T (le x y)
unfolding le
le_of_lt x y h = or_left (lt x y) (eq x y) h

pub lt-le-trans : (x y z : Float) → T (fits binary64 x) → T (fits binary64 y) → T (fits binary64 z) → T (lt x y) → T (le y z) → T (lt x z)
lt-le-trans x y z f g h l k =
    less-of_not_le x z (numbers-of-le x y (le_of_lt x y l)).0 (numbers-of-le y z k).1 (λ (j : T (le z x)). not_le-of-less x y l (le-trans-double y z x g h f k j))
