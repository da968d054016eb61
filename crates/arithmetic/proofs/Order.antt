-- The order of doubles. Between finite doubles it is the order of their counts of units of 2 ^ -1074, with the sign; the infinities are its ends.
-- Assumes nothing.
use Rattle.arithmetic.proofs.Kit.{◌≡◌, refl, sym, ap, ◌∙◌, subst₂, ◌⊎◌, inl, inr, ℕ, zero, suc, ◌+◌, ◌-◌, ◌*◌, ◌/◌, ◌^◌, ◌≤◌, le_of_eq, le_of_lt, le_antisymm, eq-or-lt_of_le, not-suc-le-zero, zero-mul, mul_assoc, mul_comm, mul_right_comm, mul-pos, zero-div, arith, Bool, true, false, not, ◌&&◌, ◌||◌, cond, ℤ, pos, neg_ℤ, ◌*ℤ◌, T, ltb, eqb, ltb→lt, lt→ltb, eqb→eq, ◌≤ℤ◌, ≤ℤ_refl, pow_pos, Float, nan, inf, fin, binary64, up, down, neg, fits, le, size, of_bits, to_bits, of_bits-to_bits, down_pos, and_i, and_l, and_r}
use Rattle.std.proofs.Common.{eq-zero-or-pos}
use lib.IntN.{neg_ℤ-neg_ℤ}
use lib.Ieee.{below, level, hid, top}
use lib.Ieee.Fits.{eq→eqb}
use Rattle.arithmetic.specs.Whole.{signed}
use Rattle.arithmetic.specs.Nearest.{units_of}
use Rattle.arithmetic.proofs.Integers.{pos_le, le-of_pos, neg-below, opposites, le-of-opposites, ≤ℤ-trans, times_mono, times-cancel, signed-times, neg_mono}
use Rattle.arithmetic.proofs.Units.{unit-exponent, in_range_lem, units_are}

-- ---- ±a against ±b, as `le` compares them: the order of the whole numbers
or_cases : (x y : Bool) → T (x || y) → T x ⊎ T y
or_cases true y h = inl tt
or_cases false y h = inr h

pub or_left : (x y : Bool) → T x → T (x || y)
or_left true y h = tt
or_left false y h = absurd h

or_right : (x y : Bool) → T y → T (x || y)
or_right true y h = tt
or_right false y h = h

-- lower, or the same by the test e
at_most_lem : (a b : ℕ) (e : Bool) → (T e → a ≡ b) → T (ltb a b || (e && true)) → a ≤ b
at_most_lem a b e same h = elim (or_cases (ltb a b) (e && true) h) [ inl l ↦ le_of_lt (ltb→lt a b l) | inr t ↦ le_of_eq (same (and_l e true t)) ]

is-at_most : (a b : ℕ) (e : Bool) → (a ≡ b → T e) → a ≤ b → T (ltb a b || (e && true))
is-at_most a b e same h = elim (eq-or-lt_of_le h) [ inl p ↦ or_right (ltb a b) (e && true) (and_i e true (same p) tt) | inr l ↦ or_left (ltb a b) (e && true) (lt→ltb a b l) ]

pub signed-of-le : (s t : Bool) (a b : ℕ) → T (below s a t b || level s a t b) → signed s a ≤ℤ signed t b
signed-of-le false false a b h = pos_le (at_most_lem a b (eqb a b) (eqb→eq a b) h)
signed-of-le false true a b h =
    let same : a ≡ b = eqb→eq a b (and_l (eqb a b) (eqb a 0) h) in
    let none : a ≡ 0 = eqb→eq a 0 (and_r (eqb a b) (eqb a 0) h) in
    subst₂ (λ (x y : ℕ). pos x ≤ℤ neg_ℤ (pos y)) (sym none) (sym none ∙ same) (≤ℤ_refl (pos 0))
signed-of-le true false a b h = neg-below a b
signed-of-le true true a b h = opposites (at_most_lem b a (eqb a b) (λ t. sym (eqb→eq a b t)) h)

pub le-of-signed : (s t : Bool) (a b : ℕ) → signed s a ≤ℤ signed t b → T (below s a t b || level s a t b)
le-of-signed false false a b h = is-at_most a b (eqb a b) eq→eqb (le-of_pos h)
le-of-signed false true zero zero h = tt
le-of-signed false true (suc a) zero h = absurd (not-suc-le-zero (le-of_pos h))
le-of-signed false true a (suc b) h = absurd h.le
le-of-signed true false a b h =
    elim (eq-zero-or-pos (a + b)) [
      | inl none ↦ or_right (ltb 0 (a + b)) (eqb a b && eqb a 0) (and_i (eqb a b) (eqb a 0) (eq→eqb {a = a} {b = b} (omega arith)) (eq→eqb {a = a} {b = 0} (omega arith)))
      | inr some ↦ or_left (ltb 0 (a + b)) (eqb a b && eqb a 0) (lt→ltb 0 (a + b) some)
    ]
le-of-signed true true a b h = is-at_most b a (eqb a b) (λ e. eq→eqb (sym e)) (le-of-opposites b a h)

-- ---- a finite double's count of units, with its sign
abbrev pub count : Float → ℤ
count nan = pos 0
count (inf s) = pos 0
count (fin s m e) = signed s (units_of (fin s m e))

-- it is a whole count
pub units-exact : (s : Bool) (m : ℕ) (e : ℤ) → T (fits binary64 (fin s m e)) → m * up e * 2 ^ 1074 ≡ units_of (fin s m e) * down e
units-exact s zero e h = rw (zero-mul (up e), zero-div (down e), zero-mul (down e))
units-exact s (suc m) e h =
    let j = unit-exponent 1074 e (in_range_lem s m e h).1 in
    mul_assoc (suc m) (up e) (2 ^ 1074)
    ∙ ap (λ (n : ℕ). suc m * n) j.1
    ∙ sym (mul_assoc (suc m) (2 ^ j.0) (down e))
    ∙ ap (λ (n : ℕ). n * down e) (sym (units_are s (suc m) e j.0 j.1))

-- its bits, by its sign and its count of units
abbrev bits_of : Bool → ℕ → ℕ
bits_of s n = let k = size n - 53 in cond s (top binary64) 0 + k * hid binary64 + n / 2 ^ k

bits_are : (s : Bool) (m : ℕ) (e : ℤ) → to_bits binary64 (fin s m e) ≡ bits_of s (units_of (fin s m e))
unfolding to_bits
bits_are s m e = refl

-- so the count and the sign tell doubles apart
pub same-double : (s : Bool) (m n : ℕ) (e d : ℤ) → T (fits binary64 (fin s m e)) → T (fits binary64 (fin s n d)) → units_of (fin s m e) ≡ units_of (fin s n d) → fin s m e ≡ fin s n d
same-double s m n e d p q h =
    sym (of_bits-to_bits binary64 (fin s m e) p)
    ∙ ap (of_bits binary64) (bits_are s m e ∙ ap (bits_of s) h ∙ sym (bits_are s n d))
    ∙ of_bits-to_bits binary64 (fin s n d) q

-- what `le` compares, k being the other double's denominator
compared : (s : Bool) (m k : ℕ) (e : ℤ) → T (fits binary64 (fin s m e)) → signed s (m * up e * k) *ℤ pos (2 ^ 1074) ≡ count (fin s m e) *ℤ pos (down e * k)
compared s m k e h =
    let n : ℕ = units_of (fin s m e) in
    signed-times s (m * up e * k) (2 ^ 1074)
    ∙ ap (signed s) (mul_right_comm (m * up e) k (2 ^ 1074) ∙ ap (λ (x : ℕ). x * k) (units-exact s m e h) ∙ mul_assoc n (down e) k)
    ∙ sym (signed-times s n (down e * k))

-- ---- the order of finite doubles is that of their counts
module _ (s t : Bool) (m n : ℕ) (e d : ℤ) (p : T (fits binary64 (fin s m e))) (q : T (fits binary64 (fin t n d))) where
  other : signed t (n * up d * down e) *ℤ pos (2 ^ 1074) ≡ count (fin t n d) *ℤ pos (down e * down d)
  other = compared t n (down e) d q ∙ ap (λ (k : ℕ). count (fin t n d) *ℤ pos k) (mul_comm (down d) (down e))

  pub count_of-le : T (le (fin s m e) (fin t n d)) → count (fin s m e) ≤ℤ count (fin t n d)
  unfolding le
  count_of-le h =
      times-cancel (down e * down d) (mul-pos (down_pos e) (down_pos d)) (count (fin s m e)) (count (fin t n d))
      (subst₂ (λ (x y : ℤ). x ≤ℤ y) (compared s m (down d) e p) other (times_mono (2 ^ 1074) (signed-of-le s t (m * up e * down d) (n * up d * down e) h)))

  pub le-of-count : count (fin s m e) ≤ℤ count (fin t n d) → T (le (fin s m e) (fin t n d))
  unfolding le
  le-of-count h =
      le-of-signed s t (m * up e * down d) (n * up d * down e)
      (times-cancel (2 ^ 1074) (pow_pos 1074) (signed s (m * up e * down d)) (signed t (n * up d * down e))
      (subst₂ (λ (x y : ℤ). x ≤ℤ y) (sym (compared s m (down d) e p)) (sym other) (times_mono (down e * down d) h)))

-- ---- the ends of the order, and the ways in which two doubles can be in order
abbrev pub number : Float → Bool
number nan = false
number (inf s) = true
number (fin s m e) = true

pub lowest : (x : Float) → T (number x) → T (le (inf true) x)
unfolding le
lowest nan u = absurd u
lowest (inf true) u = tt
lowest (inf false) u = tt
lowest (fin s m e) u = tt

pub highest : (x : Float) → T (number x) → T (le x (inf false))
unfolding le
highest nan u = absurd u
highest (inf true) u = tt
highest (inf false) u = tt
highest (fin s m e) u = tt

pub ordered-cases : (P : Float → Float → Type 0) → ((y : Float) → T (number y) → P (inf true) y) → ((x : Float) → T (number x) → P x (inf false))
    → ((s t : Bool) (m n : ℕ) (e d : ℤ) → T (le (fin s m e) (fin t n d)) → P (fin s m e) (fin t n d)) → (x y : Float) → T (le x y) → P x y
unfolding le
ordered-cases P low high between nan y h = absurd h
ordered-cases P low high between (inf s) nan h = absurd h
ordered-cases P low high between (inf true) (inf t) h = low (inf t) tt
ordered-cases P low high between (inf false) (inf true) h = absurd h
ordered-cases P low high between (inf false) (inf false) h = high (inf false) tt
ordered-cases P low high between (inf true) (fin t n d) h = low (fin t n d) tt
ordered-cases P low high between (inf false) (fin t n d) h = absurd h
ordered-cases P low high between (fin s m e) nan h = absurd h
ordered-cases P low high between (fin s m e) (inf true) h = absurd h
ordered-cases P low high between (fin s m e) (inf false) h = high (fin s m e) tt
ordered-cases P low high between (fin s m e) (fin t n d) h = between s t m n e d h

pub numbers-of-le : (x y : Float) → T (le x y) → T (number x) × T (number y)
numbers-of-le = ordered-cases (λ x y. T (number x) × T (number y)) (λ y u. (tt, u)) (λ x u. (u, tt)) (λ s t m n e d h. (tt, tt))

above-top : (x z : Float) → T (number x) → T (le (inf false) z) → T (le x z)
unfolding le
above-top x nan u h = absurd h
above-top x (inf true) u h = absurd h
above-top x (inf false) u h = highest x u
above-top x (fin t n d) u h = absurd h

trans-finite : (s t : Bool) (m n : ℕ) (e d : ℤ) (z : Float) → T (fits binary64 (fin s m e)) → T (fits binary64 (fin t n d)) → T (fits binary64 z) → T (le (fin s m e) (fin t n d)) → T (le (fin t n d) z) → T (le (fin s m e) z)
unfolding le
trans-finite s t m n e d nan p q r h k = absurd k
trans-finite s t m n e d (inf true) p q r h k = absurd k
trans-finite s t m n e d (inf false) p q r h k = tt
trans-finite s t m n e d (fin w l c) p q r h k = le-of-count s w m l e c p r (≤ℤ-trans (count_of-le s t m n e d p q h) (count_of-le t w n l d c q r k))

pub le-trans-double : (x y z : Float) → T (fits binary64 x) → T (fits binary64 y) → T (fits binary64 z) → T (le x y) → T (le y z) → T (le x z)
le-trans-double x y z p q r h =
    ordered-cases (λ x y. T (fits binary64 x) → T (fits binary64 y) → T (le y z) → T (le x z))
    (λ y u p q k. lowest z (numbers-of-le y z k).1)
    (λ x u p q k. above-top x z u k)
    (λ s t m n e d h p q k. trans-finite s t m n e d z p q r h k)
    x y h p q

-- ---- doubles with a sign that is not negative, an infinity included
abbrev pub unsigned : Float → Bool
unsigned nan = false
unsigned (inf s) = not s
unsigned (fin s m e) = not s

pub unsigned-cases : (P : Float → Type 0) → P (inf false) → ((m : ℕ) (e : ℤ) → P (fin false m e)) → (x : Float) → T (unsigned x) → P x
unsigned-cases P high finite nan u = absurd u
unsigned-cases P high finite (inf true) u = absurd u
unsigned-cases P high finite (inf false) u = high
unsigned-cases P high finite (fin true m e) u = absurd u
unsigned-cases P high finite (fin false m e) u = finite m e

pub zero-below : (s : Bool) (e : ℤ) (x : Float) → T (unsigned x) → T (le (fin s 0 e) x)
unfolding le
zero-below s e = unsigned-cases (λ x. T (le (fin s 0 e) x)) tt (λ n d. le-of-signed s false (0 * up e * down d) (n * up d * down e) (rw (zero-mul (up e), zero-mul (down d)) (least s (n * up d * down e))))
  where
    least : (s : Bool) (a : ℕ) → signed s 0 ≤ℤ pos a
    least true a = neg-below 0 a
    least false a = neg-below 0 a

pub below_infinity : (x : Float) → T (unsigned x) → T (le x (inf false))
unfolding le
below_infinity = unsigned-cases (λ x. T (le x (inf false))) tt (λ m e. tt)

pub antisymmetric : (x y : Float) → T (unsigned x) → T (unsigned y) → T (fits binary64 x) → T (fits binary64 y) → T (le x y) → T (le y x) → x ≡ y
unfolding le
antisymmetric x y u v =
    unsigned-cases (λ x. T (fits binary64 x) → T (fits binary64 y) → T (le x y) → T (le y x) → x ≡ y)
    (unsigned-cases (λ y. T (fits binary64 (inf false)) → T (fits binary64 y) → T (le (inf false) y) → T (le y (inf false)) → inf false ≡ y) (λ p q h k. refl) (λ n d p q h k. absurd h) y v)
    (λ m e. unsigned-cases (λ y. T (fits binary64 (fin false m e)) → T (fits binary64 y) → T (le (fin false m e) y) → T (le y (fin false m e)) → fin false m e ≡ y) (λ p q h k. absurd k)
    (λ n d p q h k. same-double false m n e d p q (le_antisymm (le-of_pos (count_of-le false false m n e d p q h)) (le-of_pos (count_of-le false false n m d e q p k)))) y v)
    x u

-- ---- the opposite turns the order
pub neg-below-unsigned : (x y : Float) → T (unsigned x) → T (unsigned y) → T (le (neg x) y)
unfolding le neg
neg-below-unsigned x y u v =
    unsigned-cases (λ x. T (le (neg x) y))
    (unsigned-cases (λ y. T (le (inf true) y)) tt (λ n d. tt) y v)
    (λ m e. unsigned-cases (λ y. T (le (fin true m e) y)) tt (λ n d. le-of-signed true false (m * up e * down d) (n * up d * down e) (neg-below (m * up e * down d) (n * up d * down e))) y v)
    x u

number-neg : (x : Float) → T (number x) → T (number (neg x))
unfolding neg
number-neg nan u = absurd u
number-neg (inf s) u = tt
number-neg (fin s m e) u = tt

signed-opposite : (s : Bool) (a : ℕ) → signed (not s) a ≡ neg_ℤ (signed s a)
signed-opposite false a = refl
signed-opposite true a = sym (neg_ℤ-neg_ℤ (pos a))

pub neg-turns : (x y : Float) → T (le x y) → T (le (neg y) (neg x))
unfolding le neg
neg-turns =
    ordered-cases (λ x y. T (le (neg y) (neg x)))
    (λ y u. highest (neg y) (number-neg y u))
    (λ x u. lowest (neg x) (number-neg x u))
    (λ s t m n e d h.
    let a : ℕ = m * up e * down d in
    let b : ℕ = n * up d * down e in
    le-of-signed (not t) (not s) b a (rw (signed-opposite t b, signed-opposite s a) (neg_mono (signed-of-le s t a b h))))

-- ---- what keeps the order of all doubles, and what keeps or turns that of the doubles from zero up
abbrev pub Rises : (Float → Float) → Type 0
Rises f = (x y : Float) → T (fits binary64 x) → T (fits binary64 y) → T (le x y) → T (le (f x) (f y))

abbrev pub FromZeroUp : (Float → Float → Type 0) → (Float → Float) → Type 0
FromZeroUp R f = (x y : Float) → T (fits binary64 x) → T (fits binary64 y) → T (le (fin false 0 (pos 0)) x) → T (le x y) → R (f x) (f y)

abbrev pub RisesFromZero : (Float → Float) → Type 0
RisesFromZero = FromZeroUp (λ a b. T (le a b))

abbrev pub FallsFromZero : (Float → Float) → Type 0
FallsFromZero = FromZeroUp (λ a b. T (le b a))
