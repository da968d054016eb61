-- A number is tested to be at most, or at least, 2 to the power x / 2 ^ p: it is squared once for each place, each square cut to a whole number on the side that
-- keeps the test true. The tables' rule is such a test, computed over all entries. Assumes nothing.
use Rattle.arithmetic.proofs.Kit.{◌≡◌, sym, ap, ◌∙◌, subst, subst₂, Bool, true, ◌&&◌, List, [], ◌∷◌, ℕ, zero, suc, ◌+◌, ◌-◌, ◌*◌, ◌/◌, ◌%◌, ◌^◌, ◌≤◌, ◌<◌, le_trans, le_of_eq, add-zero, div-add-mod', div-mul-le_self, mod-lt, arith, T, leb, leb→le, length, get_or, pow_pos, pow-add, and_l, and_r}
use Rattle.arithmetic.proofs.Powers.{pow-one, pow-power, pow-scaled}
use Rattle.arithmetic.proofs.Compared.{Comparison, at_most_lem, turned, next_place}
use Rattle.antilog.proofs.Nearly.{AtMost, AtLeast}

-- ---- one number

-- a / b, cut upwards
abbrev ceiling : ℕ → ℕ → ℕ
ceiling a b = (a + (b - 1)) / b

unfoldable pub test_at_most : (S p x B : ℕ) → Bool
test_at_most S zero x B = leb B (2 ^ (S + x))
test_at_most S (suc p) x B = test_at_most S p (x % 2 ^ p) (ceiling (B * B) (2 ^ (S + x / 2 ^ p)))

unfoldable pub test_at_least : (S p x B : ℕ) → Bool
test_at_least S zero x B = leb (2 ^ (S + x)) B
test_at_least S (suc p) x B = test_at_least S p (x % 2 ^ p) (B * B / 2 ^ (S + x / 2 ^ p))

ceiling_ge : (a b : ℕ) → 0 < b → a ≤ ceiling a b * b
ceiling_ge a b h =
    let n : ℕ = a + (b - 1) in
    omega (arith, div-add-mod' n b, mod-lt n h)

-- what `next_place` says of units of 2 ^ S, put together of its digits
placed : {R : ℕ → ℕ → Type 0} → Comparison R → (S p x B C : ℕ) → R (B * B) (C * 2 ^ (S + x / 2 ^ p)) → R (C ^ 2 ^ p) ((2 ^ S) ^ 2 ^ p * 2 ^ (x % 2 ^ p)) → R (B ^ 2 ^ suc p) ((2 ^ S) ^ 2 ^ suc p * 2 ^ x)
placed {R} c S p x B C step rest =
    subst (λ (n : ℕ). R (B ^ 2 ^ suc p) ((2 ^ S) ^ 2 ^ suc p * 2 ^ n)) (div-add-mod' x (2 ^ p))
    (next_place c (2 ^ S) p (x / 2 ^ p) (x % 2 ^ p) B C (pow_pos S) (subst (λ (n : ℕ). R (B * B) (C * n)) (pow-add 2 S (x / 2 ^ p)) step) rest)

units : (S k x : ℕ) → (2 ^ S) ^ k * 2 ^ x ≡ 2 ^ (S * k + x)
units S k x = ap (λ (n : ℕ). n * 2 ^ x) (pow-power 2 S k) ∙ sym (pow-add 2 (S * k) x)

at_most-places : (S p x B : ℕ) → T (test_at_most S p x B) → B ^ 2 ^ p ≤ (2 ^ S) ^ 2 ^ p * 2 ^ x
unfolding test_at_most
at_most-places S zero x B h = rw (pow-one B, pow-one (2 ^ S)) (le_trans (leb→le B (2 ^ (S + x)) h) (le_of_eq (pow-add 2 S x)))
at_most-places S (suc p) x B h =
    placed at_most_lem S p x B (ceiling (B * B) (2 ^ (S + x / 2 ^ p))) (ceiling_ge (B * B) (2 ^ (S + x / 2 ^ p)) (pow_pos (S + x / 2 ^ p)))
    (at_most-places S p (x % 2 ^ p) (ceiling (B * B) (2 ^ (S + x / 2 ^ p))) h)

at_least-places : (S p x B : ℕ) → T (test_at_least S p x B) → (2 ^ S) ^ 2 ^ p * 2 ^ x ≤ B ^ 2 ^ p
unfolding test_at_least
at_least-places S zero x B h = rw (pow-one B, pow-one (2 ^ S)) (le_trans (le_of_eq (sym (pow-add 2 S x))) (leb→le (2 ^ (S + x)) B h))
at_least-places S (suc p) x B h =
    placed (turned at_most_lem) S p x B (B * B / 2 ^ (S + x / 2 ^ p)) (div-mul-le_self (B * B) (2 ^ (S + x / 2 ^ p)))
    (at_least-places S p (x % 2 ^ p) (B * B / 2 ^ (S + x / 2 ^ p)) h)

-- ---- with 32 bits more, so that what the squares lose does not matter

finer : {R : ℕ → ℕ → Type 0} → Comparison R → (s p x B : ℕ) → R ((B * 2 ^ 32) ^ 2 ^ p) (2 ^ ((s + 32) * 2 ^ p + x)) → R (B ^ 2 ^ p) (2 ^ (s * 2 ^ p + x))
finer {R} c s p x B h =
    let k : ℕ = 2 ^ p in
    let split : (s + 32) * k + x ≡ s * k + x + 32 * k = omega arith in
    c.cancel (B ^ k) (2 ^ (s * k + x)) (2 ^ (32 * k)) (pow_pos (32 * k))
    (subst₂ R (pow-scaled B 32 k) (ap (λ (n : ℕ). 2 ^ n) split ∙ pow-add 2 (s * k + x) (32 * k)) h)

-- X is what 2 to the power x / 2 ^ p exceeds 1 by, in units of 2 ^ -s, cut to a whole number
pub record Excess (s p x X : ℕ) : Type 0 where
  pub not_above : AtMost s p x (2 ^ s + X)
  pub next_not_below : AtLeast s p x (2 ^ s + X + 1)

abbrev pub is_excess : (s p x X : ℕ) → Bool
is_excess s p x X = test_at_most (s + 32) p x ((2 ^ s + X) * 2 ^ 32) && test_at_least (s + 32) p x ((2 ^ s + X + 1) * 2 ^ 32)

pub excess : (s p x X : ℕ) → T (is_excess s p x X) → Excess s p x X
unfolding AtMost AtLeast
excess s p x X h =
    let low = test_at_most (s + 32) p x ((2 ^ s + X) * 2 ^ 32) in
    let high = test_at_least (s + 32) p x ((2 ^ s + X + 1) * 2 ^ 32) in
    record {
      not_above = finer at_most_lem s p x (2 ^ s + X) (le_trans (at_most-places (s + 32) p x _ (and_l low high h)) (le_of_eq (units (s + 32) (2 ^ p) x)));
      next_not_below = finer (turned at_most_lem) s p x (2 ^ s + X + 1) (le_trans (le_of_eq (sym (units (s + 32) (2 ^ p) x))) (at_least-places (s + 32) p x _ (and_r low high h)));
    }

-- ---- a table

-- a test of each entry with its number, from k on
unfoldable pub every : (ℕ → ℕ → Bool) → ℕ → List ℕ → Bool
every right k [] = true
every right k (x ∷ xs) = right k x && every right (suc k) xs

pub every-at : (right : ℕ → ℕ → Bool) (k : ℕ) (xs : List ℕ) → T (every right k xs) → (n : ℕ) → n < length xs → T (right (k + n) (get_or xs n 0))
unfolding every
every-at right k [] h n l = absurd (omega arith)
every-at right k (x ∷ xs) h zero l = subst (λ (i : ℕ). T (right i x)) (sym (add-zero k)) (and_l (right k x) (every right (suc k) xs) h)
every-at right k (x ∷ xs) h (suc n) l =
    let moved : suc k + n ≡ k + suc n = omega arith in
    subst (λ (i : ℕ). T (right i (get_or xs n 0))) moved (every-at right (suc k) xs (and_r (right k x) (every right (suc k) xs) h) n (omega arith))
