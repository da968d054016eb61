-- The digits of a number: those of its tenth and then the last one, and how many a number has at least. Assumes nothing.
use Rattle.arithmetic.proofs.Kit.{◌≡◌, refl, ap, ◌∙◌, Bool, true, false, cond, List, [], ◌∷◌, ◌++◌, ℕ, zero, suc, ◌+◌, ◌/◌, ◌%◌, ◌^◌, ◌≤◌, ◌<◌, pow-suc, pow-le-pow_right, arith, ltb-true, ltb-false, lt-ltb, le-ltb, ltb, lit<, length, length-append}
use Rattle.decimals.specs.Decimal.{last_digits, digits_within, digits}

-- more room than digits changes nothing
enough : (j k n : ℕ) → n < j → n < k → digits_within j (ltb n 10) n ≡ digits_within k (ltb n 10) n
unfolding digits_within
enough zero k n h g = absurd (omega arith)
enough (suc j) zero n h g = absurd (omega arith)
enough (suc j) (suc k) n h g = go (ltb n 10) refl (enough j k (n / 10))
  where
    go : (b : Bool) → ltb n 10 ≡ b → (n / 10 < j → n / 10 < k → digits_within j (ltb (n / 10) 10) (n / 10) ≡ digits_within k (ltb (n / 10) 10) (n / 10))
        → digits_within (suc j) b n ≡ digits_within (suc k) b n
    go true e before = refl
    go false e before = let ten = ltb-false n 10 e in ap (λ (l : List ℕ). l ++ (48 + n % 10) ∷ []) (before (omega arith) (omega arith))

pub digits_are : (n : ℕ) → digits n ≡ cond (ltb n 10) ((48 + n) ∷ []) (digits (n / 10) ++ (48 + n % 10) ∷ [])
unfolding digits digits_within
digits_are n = go (ltb n 10) refl
  where
    go : (b : Bool) → ltb n 10 ≡ b → digits_within (suc n) b n ≡ cond b ((48 + n) ∷ []) (digits (n / 10) ++ (48 + n % 10) ∷ [])
    go true e = refl
    go false e = let ten = ltb-false n 10 e in ap (λ (l : List ℕ). l ++ (48 + n % 10) ∷ []) (enough n (suc (n / 10)) (n / 10) (omega arith) (omega arith))

pub one-digit : (n : ℕ) → n < 10 → digits n ≡ (48 + n) ∷ []
one-digit n h = digits_are n ∙ rw (lt-ltb n 10 h)

pub more-digits : (n : ℕ) → 10 ≤ n → digits n ≡ digits (n / 10) ++ (48 + n % 10) ∷ []
more-digits n h = digits_are n ∙ rw (le-ltb n 10 h)

-- ---- how many
pub length_last : (k n : ℕ) → length (last_digits k n) ≡ k
unfolding last_digits
length_last zero n = refl
length_last (suc k) n = ap suc (length_last k n)

pub some-digit : (n : ℕ) → 0 < length (digits n)
some-digit n = go (ltb n 10) refl
  where
    go : (b : Bool) → ltb n 10 ≡ b → 0 < length (digits n)
    go true e = rw (one-digit n (ltb-true n 10 e)) (lit< tt)
    go false e = rw (more-digits n (ltb-false n 10 e), length-append) (omega arith)

pub length_digits : (j n : ℕ) → 10 ^ j ≤ n → j < length (digits n)
length_digits zero n h = some-digit n
length_digits (suc j) n h =
    let some : 1 ≤ 10 ^ j = pow-le-pow_right (lit< tt) {i = 0} {j = j} (omega arith) in
    let ten : 10 ≤ n = omega (arith, pow-suc 10 j) in
    let tenth : 10 ^ j ≤ n / 10 = omega (arith, pow-suc 10 j) in
    rw (more-digits n ten, length-append) (omega (arith, length_digits j (n / 10) tenth))
