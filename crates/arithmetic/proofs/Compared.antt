-- Powers that compare: one order for ≤, < and both turned round, and how it goes from one binary place to the next and through a product. Log word, antilog and
-- estimate share it. Assumes nothing.
use Rattle.arithmetic.proofs.Kit.{◌≡◌, sym, ap, ◌∙◌, subst, subst₂, ℕ, suc, ◌+◌, ◌*◌, ◌^◌, ◌≤◌, ◌<◌, le_trans, ne_of_gt, add-mul, mul_assoc, mul_comm, mul-mul-mul_comm, mul-pos, mul-le-mul_right, mul-lt-mul_of_pos_right, le_of_mul-le-mul_right, lt_of_mul-lt-mul_right, one-le-pow, pow-le-pow_left, pow-lt-pow_left, pow_pos, pow-add}
use Rattle.std.proofs.Common.{lt_trans}
use Rattle.arithmetic.proofs.Powers.{pow-product, pow-power, pow-scaled, pow-squared}

-- ---- the lemma over the places

-- what it asks of an order: ≤ and < have it, and so has each of them turned round
pub record Comparison (R : ℕ → ℕ → Type 0) : Type 0 where
  pub trans : (a b c : ℕ) → R a b → R b c → R a c
  pub times : (a b c : ℕ) → 0 < c → R a b → R (a * c) (b * c)
  pub cancel : (a b c : ℕ) → 0 < c → R (a * c) (b * c) → R a b
  pub power : (a b k : ℕ) → 0 < k → R a b → R (a ^ k) (b ^ k)

pub at_most_lem : Comparison (λ a b. a ≤ b)
at_most_lem =
    record {
      trans = λ a b c. le_trans;
      times = λ a b c z. mul-le-mul_right c;
      cancel = λ a b c z h. le_of_mul-le-mul_right h z;
      power = λ a b k z h. pow-le-pow_left h k;
    }

pub below : Comparison (λ a b. a < b)
below =
    record {
      trans = λ a b c. lt_trans;
      times = λ a b c z h. mul-lt-mul_of_pos_right h z;
      cancel = λ a b c z. lt_of_mul-lt-mul_right c;
      power = λ a b k z h. pow-lt-pow_left h (ne_of_gt z);
    }

pub turned : {R : ℕ → ℕ → Type 0} → Comparison R → Comparison (λ a b. R b a)
turned c =
    record {
      trans = λ x y z h g. c.trans z y x g h;
      times = λ x y. c.times y x;
      cancel = λ x y. c.cancel y x;
      power = λ x y. c.power y x;
    }

units_and_place : (U p t x : ℕ) → U ^ 2 ^ p * 2 ^ x * (U * 2 ^ t) ^ 2 ^ p ≡ U ^ 2 ^ suc p * 2 ^ (t * 2 ^ p + x)
units_and_place U p t x =
    let k : ℕ = 2 ^ p in
    rw (pow-squared U p, pow-product U U k, pow-scaled U t k, pow-add 2 (t * k) x)
    (mul-mul-mul_comm (U ^ k) (2 ^ x) (U ^ k) (2 ^ (t * k)) ∙ ap (λ (n : ℕ). U ^ k * U ^ k * n) (mul_comm (2 ^ x) (2 ^ (t * k))))

-- In units of U, A stands for A / U and B for B / U. Where (A / U) ^ 2 compares with B / U * 2 ^ t, and (B / U) ^ 2 ^ p with 2 ^ x, there
-- (A / U) ^ 2 ^ (p + 1) compares in the same way with 2 to the word of p + 1 places that has t for its highest bit and x for the others.
pub next_place : {R : ℕ → ℕ → Type 0} → Comparison R → (U p t x A B : ℕ) → 0 < U → R (A * A) (B * (U * 2 ^ t)) → R (B ^ 2 ^ p) (U ^ 2 ^ p * 2 ^ x)
    → R (A ^ 2 ^ suc p) (U ^ 2 ^ suc p * 2 ^ (t * 2 ^ p + x))
next_place {R} c U p t x A B some step rest =
    let k : ℕ = 2 ^ p in
    let W : ℕ = U * 2 ^ t in
    let first : R ((A * A) ^ k) ((B * W) ^ k) = c.power (A * A) (B * W) k (pow_pos p) step in
    let second : R (B ^ k * W ^ k) (U ^ k * 2 ^ x * W ^ k) = c.times (B ^ k) (U ^ k * 2 ^ x) (W ^ k) (one-le-pow k W (mul-pos some (pow_pos t))) rest in
    subst₂ R (sym (pow-squared A p)) (units_and_place U p t x)
    (c.trans ((A * A) ^ k) (B ^ k * W ^ k) (U ^ k * 2 ^ x * W ^ k) (subst (λ (n : ℕ). R ((A * A) ^ k) n) (pow-product B W k) first) second)

-- ---- a product

-- A compares with 2 ^ x and B with 2 ^ y, both to the power k. What compares with A * B in units of 2 ^ t compares with the product.
pub product_compares : {R : ℕ → ℕ → Type 0} → Comparison R → (k t x y z A B C : ℕ) → 0 < k → 0 < B → x + y ≡ z + t * k → R (C * 2 ^ t) (A * B) → R (A ^ k) (2 ^ x) → R (B ^ k) (2 ^ y)
    → R (C ^ k) (2 ^ z)
product_compares {R} c k t x y z A B C some positive sums both first second =
    let u : ℕ = 2 ^ (t * k) in
    let made : R (C ^ k * u) (A ^ k * B ^ k) = subst₂ R (pow-scaled C t k) (pow-product A B k) (c.power (C * 2 ^ t) (A * B) k some both) in
    let left : R (A ^ k * B ^ k) (2 ^ x * B ^ k) = c.times (A ^ k) (2 ^ x) (B ^ k) (one-le-pow k B positive) first in
    let right : R (2 ^ x * B ^ k) (2 ^ z * u) =
    subst₂ R (mul_comm (B ^ k) (2 ^ x)) (mul_comm (2 ^ y) (2 ^ x) ∙ sym (pow-add 2 x y) ∙ ap (λ (n : ℕ). 2 ^ n) sums ∙ pow-add 2 z (t * k))
    (c.times (B ^ k) (2 ^ y) (2 ^ x) (pow_pos x) second) in
    c.cancel (C ^ k) (2 ^ z) u (pow_pos (t * k)) (c.trans (C ^ k * u) (A ^ k * B ^ k) (2 ^ z * u) made (c.trans (A ^ k * B ^ k) (2 ^ x * B ^ k) (2 ^ z * u) left right))

-- ---- with q places more

pub more-places : {R : ℕ → ℕ → Type 0} → Comparison R → (s p q x A : ℕ) → R (A ^ 2 ^ p) (2 ^ (s * 2 ^ p + x)) → R (A ^ 2 ^ (p + q)) (2 ^ (s * 2 ^ (p + q) + x * 2 ^ q))
more-places {R} c s p q x A h =
    let places : 2 ^ p * 2 ^ q ≡ 2 ^ (p + q) = sym (pow-add 2 p q) in
    let exponent : (s * 2 ^ p + x) * 2 ^ q ≡ s * 2 ^ (p + q) + x * 2 ^ q = add-mul (s * 2 ^ p) x (2 ^ q) ∙ ap (λ (n : ℕ). n + x * 2 ^ q) (mul_assoc s (2 ^ p) (2 ^ q) ∙ ap (λ (n : ℕ). s * n) places) in
    subst₂ R (pow-power A (2 ^ p) (2 ^ q) ∙ ap (λ (n : ℕ). A ^ n) places) (pow-power 2 (s * 2 ^ p + x) (2 ^ q) ∙ ap (λ (n : ℕ). 2 ^ n) exponent)
    (c.power (A ^ 2 ^ p) (2 ^ (s * 2 ^ p + x)) (2 ^ q) (pow_pos q) h)
