-- Two roundings with one denominator keep the order of what is rounded. So a function whose answers at finite doubles are such roundings, by the doubles'
-- counts of units of 2 ^ -1074, keeps the order of the doubles. Assumes nothing.
use Rattle.arithmetic.proofs.Kit.{◌≡◌, refl, sym, ◌∙◌, Bool, true, false, ℕ, zero, suc, ◌+◌, ◌*◌, ◌≤◌, ◌<◌, mul-le-mul_right, mul-lt-mul_of_pos_right, lt_of_mul-lt-mul_right, le_of_mul-le-mul_right, zero-mul, arith, ℤ, pos, ltb-true, ltb-false, lt-ltb, le-ltb, T, ltb, ◌≤ℤ◌, Float, nan, inf, fin, binary64, round, neg, fits, le, round_mono, round_same}
use Rattle.arithmetic.specs.Whole.{signed}
use Rattle.arithmetic.specs.Nearest.{units_of}
use Rattle.arithmetic.proofs.Integers.{le-of_pos, not_below-neg, le-of-opposites}
use Rattle.arithmetic.proofs.Order.{Rises, count_of-le, number, unsigned, unsigned-cases, lowest, highest, ordered-cases, neg-below-unsigned, neg-turns}
use Rattle.arithmetic.proofs.Rounding.{round-opposite, round-unsigned}

-- ---- two tests that agree, as those of a / d and b / d and of u / k and v / k do
pub ltb-alike : (a b c d : ℕ) → (a < b → c < d) → (b ≤ a → d ≤ c) → ltb a b ≡ ltb c d
ltb-alike a b c d there back = go (ltb a b) refl
  where
    go : (t : Bool) → ltb a b ≡ t → ltb a b ≡ ltb c d
    go true e = e ∙ sym (lt-ltb c d (there (ltb-true a b e)))
    go false e = e ∙ sym (le-ltb c d (back (ltb-false a b e)))

pub ltb-scaled : (k d a b u v : ℕ) → 0 < k → 0 < d → a * k ≡ u * d → b * k ≡ v * d → ltb a b ≡ ltb u v
ltb-scaled k d a b u v K D p q =
    sym (ltb-alike u v a b (λ h. lt_of_mul-lt-mul_right k (rw (p, q) (mul-lt-mul_of_pos_right h D))) (λ h. le_of_mul-le-mul_right (rw (p, q) (mul-le-mul_right d h)) K))

-- ---- ±a against ±b, over natural numbers: what is above zero, and what below
unfoldable pub above : Bool → ℕ → ℕ
above false a = a
above true a = 0

unfoldable pub beneath : Bool → ℕ → ℕ
beneath false a = 0
beneath true a = a

abbrev pub AtMost : Bool → ℕ → Bool → ℕ → Type 0
AtMost s a t b = above s a + beneath t b ≤ above t b + beneath s a

pub at_most_lem : (s t : Bool) (a b : ℕ) → signed s a ≤ℤ signed t b → AtMost s a t b
unfolding above beneath
at_most_lem false false a b h = let l : a ≤ b = le-of_pos h in omega (arith, l)
at_most_lem false true a zero h = let l : a ≤ 0 = le-of_pos h in omega (arith, l)
at_most_lem false true a (suc b) h = absurd (not_below-neg a (suc b) (omega arith) h)
at_most_lem true false a b h = omega arith
at_most_lem true true a b h = let l : b ≤ a = le-of-opposites b a h in omega (arith, l)

-- ---- rounding with one denominator keeps it
round-zero : (s : Bool) (d : ℕ) → 0 < d → round binary64 s 0 d ≡ fin s 0 (pos 0)
unfolding round
round-zero s d D = round_same binary64 s 0 d 0 1 D (omega arith) (sym (zero-mul d)) ∙ at_one s
  where
    at_one : (s : Bool) → round binary64 s 0 1 ≡ fin s 0 (pos 0)
    at_one s = refl

pub round-order : (s t : Bool) (a b d : ℕ) → 0 < d → AtMost s a t b → T (le (round binary64 s a d) (round binary64 t b d))
unfolding above beneath le
round-order false false a b d D h = round_mono binary64 a d b d D D (mul-le-mul_right d (omega (arith, h)))
round-order false true zero zero d D h = rw (round-zero false d D, round-zero true d D) tt
round-order false true (suc a) b d D h = absurd (omega (arith, h))
round-order false true zero (suc b) d D h = absurd (omega (arith, h))
round-order true false a b d D h = rw (round-opposite binary64 a d) (neg-below-unsigned (round binary64 false a d) (round binary64 false b d) (round-unsigned binary64 a d) (round-unsigned binary64 b d))
round-order true true a b d D h =
    rw (round-opposite binary64 a d, round-opposite binary64 b d) (neg-turns (round binary64 false b d) (round binary64 false a d) (round_mono binary64 b d a d D D (mul-le-mul_right d (omega (arith, h)))))

-- and answers a number
neg-number : (x : Float) → T (unsigned x) → T (number (neg x))
unfolding neg
neg-number = unsigned-cases (λ x. T (number (neg x))) tt (λ m e. tt)

unsigned-number : (x : Float) → T (unsigned x) → T (number x)
unsigned-number = unsigned-cases (λ x. T (number x)) tt (λ m e. tt)

pub round_number : (s : Bool) (a d : ℕ) → T (number (round binary64 s a d))
round_number false a d = unsigned-number (round binary64 false a d) (round-unsigned binary64 a d)
round_number true a d = rw (round-opposite binary64 a d) (neg-number (round binary64 false a d) (round-unsigned binary64 a d))

-- ---- what keeps the order of finite doubles, by their counts, and the infinities as they are
module _ (f : Float → Float) (ends : (s : Bool) → f (inf s) ≡ inf s) (finite : (s : Bool) (m : ℕ) (e : ℤ) → T (number (f (fin s m e))))
    (between : (s t : Bool) (m n : ℕ) (e d : ℤ) → T (fits binary64 (fin s m e)) → T (fits binary64 (fin t n d)) → AtMost s (units_of (fin s m e)) t (units_of (fin t n d)) → T (le (f (fin s m e)) (f (fin t n d)))) where
  a-number : (x : Float) → T (number x) → T (number (f x))
  a-number nan u = absurd u
  a-number (inf s) u = rw (ends s) tt
  a-number (fin s m e) u = finite s m e

  pub by-counts : Rises f
  by-counts x y g h l =
      ordered-cases (λ x y. T (fits binary64 x) → T (fits binary64 y) → T (le (f x) (f y)))
      (λ y u g h. rw (ends true) (lowest (f y) (a-number y u)))
      (λ x u g h. rw (ends false) (highest (f x) (a-number x u)))
      (λ s t m n e d l g h. between s t m n e d g h (at_most_lem s t (units_of (fin s m e)) (units_of (fin t n d)) (count_of-le s t m n e d g h l)))
      x y l g h
