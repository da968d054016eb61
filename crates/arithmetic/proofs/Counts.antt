-- A finite double by what of it is above zero and what below, in units of 2 ^ -1074: linear arithmetic over natural numbers then says how far apart two
-- doubles are, and which is lower. Assumes nothing.
use Rattle.arithmetic.proofs.Kit.{◌≡◌, Bool, true, false, not, cond, ℕ, zero, suc, ◌+◌, ◌-◌, ◌≤◌, ◌<◌, zero-le, le_refl, arith, ℤ, pos, negsuc, ◌+ℤ◌, T, ltb, ltb→lt, nltb→le, ◌≤ℤ◌, Float, nan, inf, fin, binary64, neg, fits, lt, le, neg-fits, finite}
use Rattle.arithmetic.specs.Whole.{signed}
use Rattle.arithmetic.specs.Nearest.{units_of}
use Rattle.arithmetic.proofs.Integers.{pos_le, neg-below, opposites}
use Rattle.arithmetic.proofs.Order.{count, count_of-le, le-of-count}
use Rattle.arithmetic.proofs.Strict.{less-of_not_le}
use Rattle.arithmetic.proofs.CommonDenominator.{above, beneath, AtMost, at_most_lem}

-- ---- what is above zero, and what below
abbrev pub over : Float → ℕ
over nan = 0
over (inf s) = 0
over (fin s m e) = above s (units_of (fin s m e))

abbrev pub under : Float → ℕ
under nan = 0
under (inf s) = 0
under (fin s m e) = beneath s (units_of (fin s m e))

-- finite, and of B units at most
pub record Small (B : ℕ) (z : Float) : Type 0 where
  pub is_finite : T (finite z)
  pub double : T (fits binary64 z)
  pub size : units_of z ≤ B

pub sides : (s : Bool) (a : ℕ) → above s a + beneath s a ≡ a
unfolding above beneath
sides false a = omega arith
sides true a = omega arith

pub sides-small : {B : ℕ} (x : Float) → Small B x → over x + under x ≤ B
sides-small nan h = h.size
sides-small (inf s) h = h.size
sides-small (fin s m e) h = omega (arith, h.size, sides s (units_of (fin s m e)))

-- ---- the order
signed_le : (s t : Bool) (a b : ℕ) → AtMost s a t b → signed s a ≤ℤ signed t b
unfolding above beneath
signed_le false false a b h = pos_le (omega (arith, h))
signed_le false true zero zero h = pos_le zero-le
signed_le false true (suc a) b h = absurd (omega (arith, h))
signed_le false true zero (suc b) h = absurd (omega (arith, h))
signed_le true false a b h = neg-below a b
signed_le true true a b h = opposites {a = b} {b = a} (omega (arith, h))

-- of two finite doubles
module _ {A B : ℕ} where
  pub both-finite : (P : Float → Float → Type 0) → ((s t : Bool) (m n : ℕ) (e d : ℤ) → Small A (fin s m e) → Small B (fin t n d) → P (fin s m e) (fin t n d)) → (x y : Float) → Small A x → Small B y → P x y
  both-finite P f nan y p q = absurd p.is_finite
  both-finite P f (inf s) y p q = absurd p.is_finite
  both-finite P f (fin s m e) nan p q = absurd q.is_finite
  both-finite P f (fin s m e) (inf t) p q = absurd q.is_finite
  both-finite P f (fin s m e) (fin t n d) p q = f s t m n e d p q

  pub lt-of-sides : (x y : Float) → Small A x → Small B y → over x + under y < over y + under x → T (lt x y)
  lt-of-sides =
      both-finite (λ x y. over x + under y < over y + under x → T (lt x y))
      (λ s t m n e d p q h.
      less-of_not_le (fin s m e) (fin t n d) tt tt
      (λ g. omega (arith, h, at_most_lem t s (units_of (fin t n d)) (units_of (fin s m e)) (count_of-le t s n m d e q.double p.double g))))

  pub le-of-sides : (x y : Float) → Small A x → Small B y → over x + under y ≤ over y + under x → T (le x y)
  le-of-sides =
      both-finite (λ x y. over x + under y ≤ over y + under x → T (le x y))
      (λ s t m n e d p q h. le-of-count s t m n e d p.double q.double (signed_le s t (units_of (fin s m e)) (units_of (fin t n d)) h))

-- ---- what lies between two finite doubles is finite, and no larger than they are
between : (r s t : Bool) (x a b B : ℕ) → AtMost s a r x → AtMost r x t b → a ≤ B → b ≤ B → x ≤ B
unfolding above beneath
between false s t x a b B h k p q = omega (arith, k, q, sides t b)
between true s t x a b B h k p q = omega (arith, h, p, sides s a)

module _ {B : ℕ} where
  inside : (s t : Bool) (m n : ℕ) (e d : ℤ) (x : Float) → T (fits binary64 x) → Small B (fin s m e) → Small B (fin t n d) → T (le (fin s m e) x) → T (le x (fin t n d)) → Small B x
  unfolding le
  inside s t m n e d nan f p q h k = absurd h
  inside s t m n e d (inf true) f p q h k = absurd h
  inside s t m n e d (inf false) f p q h k = absurd k
  inside s t m n e d (fin r l c) f p q h k =
      let a : ℕ = units_of (fin s m e) in
      let x : ℕ = units_of (fin r l c) in
      let b : ℕ = units_of (fin t n d) in
      let size : x ≤ B = between r s t x a b B (at_most_lem s r a x (count_of-le s r m l e c p.double f h)) (at_most_lem r t x b (count_of-le r t l n c d f q.double k)) p.size q.size in
      record { is_finite = tt; double = f; size = size }

  pub small-between : (lo x hi : Float) → T (fits binary64 x) → Small B lo → Small B hi → T (le lo x) → T (le x hi) → Small B x
  small-between lo x hi f = both-finite (λ lo hi. T (le lo x) → T (le x hi) → Small B x) (λ s t m n e d. inside s t m n e d x f) lo hi

-- and a double of B units at most lies between two opposites of B units at least
module _ {B : ℕ} (m : ℕ) (e : ℤ) (f : T (fits binary64 (fin false m e))) (large : B ≤ units_of (fin false m e)) (x : Float) (s : Small B x) where
  pub below-large : T (le x (fin false m e))
  unfolding above beneath
  below-large = le-of-sides x (fin false m e) s record { is_finite = tt; double = f; size = le_refl (units_of (fin false m e)) } (omega (arith, large, sides-small x s))

  pub above-large : T (le (fin true m e) x)
  unfolding above beneath neg
  above-large = le-of-sides (fin true m e) x record { is_finite = tt; double = neg-fits binary64 (fin false m e) f; size = le_refl (units_of (fin true m e)) } s (omega (arith, large, sides-small x s))

-- ---- counts that are at least g apart
gap-of-signed : (s t : Bool) (a b g : ℕ) → (signed s a +ℤ pos g) ≤ℤ signed t b → above s a + beneath t b + g ≤ above t b + beneath s a
unfolding above beneath
gap-of-signed false t a b g h = omega (arith, at_most_lem false t (a + g) b h)
gap-of-signed true t zero b g h = omega (arith, at_most_lem false t (0 + g) b h)
gap-of-signed true t (suc a) b g h = go (ltb g (suc a)) (ltb→lt g (suc a)) (nltb→le g (suc a)) h
  where
    go : (c : Bool) → (T c → g < suc a) → (T (not c) → suc a ≤ g) → cond c (negsuc (suc a - suc g)) (pos (g - suc a)) ≤ℤ signed t b → 0 + beneath t b + g ≤ above t b + suc a
    go true l m h = omega (arith, l tt, at_most_lem true t (suc (suc a - suc g)) b h)
    go false l m h = omega (arith, m tt, at_most_lem false t (g - suc a) b h)

pub gap-of-counts : {A B : ℕ} (x y : Float) (g : ℕ) → Small A x → Small B y → (count x +ℤ pos g) ≤ℤ count y → over x + under y + g ≤ over y + under x
gap-of-counts x y g =
    both-finite (λ x y. (count x +ℤ pos g) ≤ℤ count y → over x + under y + g ≤ over y + under x)
    (λ s t m n e d p q. gap-of-signed s t (units_of (fin s m e)) (units_of (fin t n d)) g) x y
