-- A number that is at most, or at least, 2 to the power x / 2 ^ p, in units of 2 ^ -s: products, more places, multiples and half the units. Assumes nothing.
use Rattle.arithmetic.proofs.Kit.{◌≡◌, refl, sym, ap, ◌∙◌, subst, ℕ, zero, suc, ◌+◌, ◌*◌, ◌^◌, ◌≤◌, ◌<◌, le_trans, le_of_eq, lt_of_le_of_lt, lt_of_lt_of_le, zero-mul, suc-mul, add-mul, mul-add, mul_assoc, mul_comm, mul-le-mul_right, arith, lit<, pow_pos, pow-add, pow-lt}
use Rattle.arithmetic.proofs.Powers.{pow-power, pow-scaled, lt-of-powers, two-each-le-next}
use Rattle.arithmetic.proofs.Compared.{at_most_lem, turned, product_compares, more-places}

-- A / 2 ^ s is at most 2 to the power x / 2 ^ p
unfoldable pub AtMost : (s p x A : ℕ) → Type 0
AtMost s p x A = A ^ 2 ^ p ≤ 2 ^ (s * 2 ^ p + x)

-- and at least
unfoldable pub AtLeast : (s p x A : ℕ) → Type 0
AtLeast s p x A = 2 ^ (s * 2 ^ p + x) ≤ A ^ 2 ^ p

-- ---- bounds of products and of more places

module _ (p : ℕ) where
  one : (s : ℕ) {A : ℕ} → A ≡ 2 ^ s → A ^ 2 ^ p ≡ 2 ^ (s * 2 ^ p + 0)
  one s e = ap (λ (n : ℕ). n ^ 2 ^ p) e ∙ pow-power 2 s (2 ^ p) ∙ ap (λ (n : ℕ). 2 ^ n) (omega arith)

  one_at_most : (s : ℕ) {A : ℕ} → A ≡ 2 ^ s → AtMost s p 0 A
  unfolding AtMost
  one_at_most s e = le_of_eq (one s e)

  one-at_least : (s : ℕ) {A : ℕ} → A ≡ 2 ^ s → AtLeast s p 0 A
  unfolding AtLeast
  one-at_least s e = le_of_eq (sym (one s e))

  pub times-at_most : (s t x y A B C : ℕ) → 0 < B → C * 2 ^ t ≤ A * B → AtMost s p x A → AtMost t p y B → AtMost s p (x + y) C
  unfolding AtMost
  times-at_most s t x y A B C positive made = product_compares at_most_lem (2 ^ p) t (s * 2 ^ p + x) (t * 2 ^ p + y) (s * 2 ^ p + (x + y)) A B C (pow_pos p) positive (omega arith) made

  pub times-at_least : (s t x y A B C : ℕ) → 0 < B → A * B ≤ C * 2 ^ t → AtLeast s p x A → AtLeast t p y B → AtLeast s p (x + y) C
  unfolding AtLeast
  times-at_least s t x y A B C positive made =
      product_compares (turned at_most_lem) (2 ^ p) t (s * 2 ^ p + x) (t * 2 ^ p + y) (s * 2 ^ p + (x + y)) A B C (pow_pos p) positive (omega arith) made

pub more-at_most : (s p q x A : ℕ) → AtMost s p x A → AtMost s (p + q) (x * 2 ^ q) A
unfolding AtMost
more-at_most s p q x A = more-places at_most_lem s p q x A

pub more-at_least : (s p q x A : ℕ) → AtLeast s p x A → AtLeast s (p + q) (x * 2 ^ q) A
unfolding AtLeast
more-at_least s p q x A = more-places (turned at_most_lem) s p q x A

-- ---- r times the smallest power: B is 2 ^ s and its excess X, and so is B ^ r, nearly, 2 ^ s and r times its excess

module _ (s p X : ℕ) where
  pub multiples_at_most : AtMost s p 1 (2 ^ s + X) → (r : ℕ) → AtMost s p r (2 ^ s + r * X)
  multiples_at_most once zero = one_at_most p s (omega (arith, zero-mul X))
  multiples_at_most once (suc r) =
      let U : ℕ = 2 ^ s in
      let next : r + 1 ≡ suc r = omega arith in
      let grown : (U + suc r * X) * U ≤ (U + r * X) * (U + X) =
      rw (suc-mul r X, mul-add (U + r * X) U X, add-mul U (r * X) X) (omega (arith, mul_comm X U, add-mul U (X + r * X) U, add-mul X (r * X) U, add-mul U (r * X) U)) in
      subst (λ (n : ℕ). AtMost s p n (U + suc r * X)) next (times-at_most p s s r 1 (U + r * X) (U + X) (U + suc r * X) (omega (arith, pow_pos s)) grown (multiples_at_most once r) once)

  pub multiples_at_least : (n d : ℕ) → n * (X * (X + d)) ≤ 2 ^ s * d → AtLeast s p 1 (2 ^ s + X) → (r : ℕ) → r ≤ n → AtLeast s p r (2 ^ s + r * (X + d))
  multiples_at_least n d small once zero few = one-at_least p s (omega (arith, zero-mul (X + d)))
  multiples_at_least n d small once (suc r) few =
      let U : ℕ = 2 ^ s in
      let E : ℕ = X + d in
      let next : r + 1 ≡ suc r = omega arith in
      let rest : r * E * X ≤ U * d = le_trans (le_of_eq (mul_assoc r E X ∙ ap (λ (k : ℕ). r * k) (mul_comm E X))) (le_trans (mul-le-mul_right (X * E) (omega arith)) small) in
      let grown : (U + r * E) * (U + X) ≤ (U + suc r * E) * U =
      rw (suc-mul r E, mul-add (U + r * E) U X, add-mul U (r * E) X) (omega (arith, mul_comm X U, mul-add U X d, mul_comm E U, add-mul U (E + r * E) U, add-mul E (r * E) U, add-mul U (r * E) U)) in
      subst (λ (k : ℕ). AtLeast s p k (U + suc r * E)) next
      (times-at_least p s s r 1 (U + r * E) (U + X) (U + suc r * E) (omega (arith, pow_pos s)) grown (multiples_at_least n d small once r (omega arith)) once)

-- ---- with half the units

module _ (p x A C : ℕ) where
  pub half_at_most : C * 2 ^ 1 ≤ A * 1 → AtMost 64 p x A → AtMost 63 p x C
  unfolding AtMost
  half_at_most made h = product_compares at_most_lem (2 ^ p) 1 (64 * 2 ^ p + x) (0 * 2 ^ p + 0) (63 * 2 ^ p + x) A 1 C (pow_pos p) (lit< tt) (omega arith) made h (le_of_eq (one p 0 refl))

  pub half-at_least : A * 1 ≤ C * 2 ^ 1 → AtLeast 64 p x A → AtLeast 63 p x C
  unfolding AtLeast
  half-at_least made h = product_compares (turned at_most_lem) (2 ^ p) 1 (64 * 2 ^ p + x) (0 * 2 ^ p + 0) (63 * 2 ^ p + x) A 1 C (pow_pos p) (lit< tt) (omega arith) made h (le_of_eq (sym (one p 0 refl)))

-- ---- what a power below 2 comes to

pub below_64 : (p x A : ℕ) → x < 2 ^ p → AtMost 63 p x A → A < 2 ^ 64
unfolding AtMost
below_64 p x A few h =
    let k : ℕ = 2 ^ p in
    let less : 63 * k + x < 64 * k = omega arith in
    lt-of-powers A (2 ^ 64) k (lt_of_le_of_lt h (subst (λ (n : ℕ). 2 ^ (63 * k + x) < n) (sym (pow-power 2 64 k)) (pow-lt less)))

-- 2 to the power x / 2 ^ (i + j) is at most 1 + 2 ^ -i where x is at most 2 ^ j: in units of 2^-(64 + i) the excess fits a word
pub excess-fits : (i j x X : ℕ) → x < 2 ^ j → AtMost (64 + i) (i + j) x (2 ^ (64 + i) + X) → X < 2 ^ 64
unfolding AtMost
excess-fits i j x X few h =
    let k : ℕ = 2 ^ (i + j) in
    let n : ℕ = 2 ^ i in
    let D : ℕ = 2 ^ j in
    let all : n * D ≡ k = sym (pow-add 2 i j) in
    let two : n ^ k * 2 ^ D ≤ suc n ^ k = subst (λ (m : ℕ). n ^ m * 2 ^ D ≤ suc n ^ m) all (two-each-le-next n D (pow_pos i)) in
    let split : 2 ^ ((64 + i) * k + D) ≡ n ^ k * 2 ^ D * 2 ^ (64 * k) =
    ap (λ (m : ℕ). 2 ^ m) (omega (arith, add-mul 64 i k)) ∙ pow-add 2 (i * k + D) (64 * k) ∙ ap (λ (m : ℕ). m * 2 ^ (64 * k)) (pow-add 2 (i * k) D ∙ ap (λ (m : ℕ). m * 2 ^ D) (sym (pow-power 2 i k))) in
    let less : 2 ^ ((64 + i) * k + x) < 2 ^ ((64 + i) * k + D) = pow-lt (omega arith) in
    let most : 2 ^ ((64 + i) * k + D) ≤ (suc n * 2 ^ 64) ^ k = rw split (le_trans (mul-le-mul_right (2 ^ (64 * k)) two) (le_of_eq (sym (pow-scaled (suc n) 64 k)))) in
    let word : 2 ^ (64 + i) + X < suc n * 2 ^ 64 = lt-of-powers (2 ^ (64 + i) + X) (suc n * 2 ^ 64) k (lt_of_le_of_lt h (lt_of_lt_of_le less most)) in
    omega (arith, pow-add 2 64 i, mul_comm (2 ^ 64) n, suc-mul n (2 ^ 64))
