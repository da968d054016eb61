-- `closest`, a fraction rounded to the nearest whole number with a tie to the even one, by the comparisons that decide it; and its bounds.
-- Assumes nothing.
use Rattle.arithmetic.proofs.Kit.{◌≡◌, refl, sym, ap, ◌∙◌, subst, not, ℕ, suc, ◌+◌, ◌*◌, ◌/◌, ◌%◌, ◌≤◌, ◌<◌, div-eq_of_lt, mod-eq_of_lt, le_trans, arith, T, eqb, leb→le, nleb→lt, eqb→eq, closest}
use Prim.Native.Nat.{compare, Ordering}
use lib.Dec.{is_le, compare_is_eq, eqb_refl}
use lib.Arith.{lt_of_le-ne}
use lib.Ieee.{nearest}
use lib.Ieee.Fits.{nearest-le}
use lib.Ieee.Nearest.{nearest-ge}

-- ---- `nearest` chooses as a and b compare
pub nearest-is : (q a b r : ℕ) → (a < b → r ≡ q) → (a ≡ b → r ≡ q + q % 2) → (b < a → r ≡ suc q) → r ≡ nearest q (compare a b)
nearest-is q a b r less same more = go (compare a b) (leb→le a b) (nleb→lt a b) (eqb→eq a b) (λ (e : a ≡ b). subst (λ (x : ℕ). T (eqb a x)) e (eqb_refl a))
  where
    go : (o : Ordering) → (T (is_le o) → a ≤ b) → (T (not (is_le o)) → b < a) → (T (compare_is_eq o) → a ≡ b) → (a ≡ b → T (compare_is_eq o)) → r ≡ nearest q o
    go Ordering.lt le gt eq is = less (lt_of_le-ne (le tt) is)
    go Ordering.eq le gt eq is = same (eq tt)
    go Ordering.gt le gt eq is = more (gt tt)

-- ---- a fraction below 1
proper : (y u r : ℕ) → y < u → r ≡ nearest 0 (compare (y * 2) u) → r ≡ closest y u
proper y u r h e = e ∙ ap (λ (x : ℕ). nearest 0 (compare (x * 2) u)) (sym (mod-eq_of_lt h)) ∙ ap (λ (q : ℕ). nearest q (compare (y % u * 2) u)) (sym (div-eq_of_lt h))

pub closest_none : (y u : ℕ) → y < u → y * 2 ≤ u → 0 ≡ closest y u
closest_none y u h half = proper y u 0 h (nearest-is 0 (y * 2) u 0 (λ l. refl) (λ e. refl) (λ g. omega arith))

-- ---- the bounds that the quotient has
pub closest_at_most : (y u b : ℕ) → y / u < b → closest y u ≤ b
closest_at_most y u b h = le_trans (nearest-le (y / u) (compare (y % u * 2) u)) h

pub closest_at_least : (y u b : ℕ) → b ≤ y / u → b ≤ closest y u
closest_at_least y u b h = le_trans h (nearest-ge (y / u) (compare (y % u * 2) u))
