-- The sum with one finite operand keeps the order of the doubles, infinities included, and the difference keeps or turns it. Assumes nothing.
use Rattle.arithmetic.proofs.Kit.{◌≡◌, refl, sym, ap, ap₂, ◌∙◌, subst, subst₂, Bool, true, false, not, ◌&&◌, cond, ℕ, ◌+◌, ◌-◌, ◌*◌, ◌^◌, ◌≤◌, ◌<◌, add_comm, mul_comm, mul_assoc, mul_right_comm, add-mul, mul-pos, arith, ℤ, T, ltb, ltb→lt, nltb→le, pow_pos, Float, nan, inf, fin, binary64, up, down, round, sum, add, sub, neg, fits, le, down_pos, neg-fits, round_same}
use native.Mathlib.Nat.{mul-sub}
use Rattle.arithmetic.specs.Nearest.{units_of}
use Rattle.arithmetic.proofs.Order.{Rises, units-exact, number, neg-turns}
use Rattle.arithmetic.proofs.CommonDenominator.{ltb-scaled, above, beneath, AtMost, round-order, round_number, by-counts}

-- ---- the operands of a sum may change places
opposite : (a b d : ℕ) → sum binary64 false a true b d ≡ sum binary64 true b false a d
unfolding sum
opposite a b d = go (ltb a b) (ltb b a) refl refl
  where
    go : (x y : Bool) → ltb a b ≡ x → ltb b a ≡ y → cond x (round binary64 true (b - a) d) (round binary64 false (a - b) d) ≡ cond y (round binary64 false (a - b) d) (round binary64 x (b - a) d)
    go true true i j = let h : a < b = ltb→lt a b (subst T (sym i) tt) in let k : b < a = ltb→lt b a (subst T (sym j) tt) in absurd (omega (arith, h, k))
    go true false i j = refl
    go false true i j = refl
    go false false i j =
        let h : b ≤ a = nltb→le a b (subst (λ x. T (not x)) (sym i) tt) in
        let k : a ≤ b = nltb→le b a (subst (λ x. T (not x)) (sym j) tt) in
        ap (λ (n : ℕ). round binary64 false n d) (omega (arith, h, k))

sum_comm : (s t : Bool) (a b d : ℕ) → sum binary64 s a t b d ≡ sum binary64 t b s a d
unfolding sum
sum_comm false false a b d = ap (λ (n : ℕ). round binary64 false n d) (add_comm a b)
sum_comm true true a b d = ap (λ (n : ℕ). round binary64 true n d) (add_comm a b)
sum_comm false true a b d = opposite a b d
sum_comm true false a b d = sym (opposite b a d)

pub add_comm_double : (x y : Float) → add binary64 x y ≡ add binary64 y x
unfolding add
add_comm_double nan nan = refl
add_comm_double nan (inf t) = refl
add_comm_double nan (fin t n d) = refl
add_comm_double (inf s) nan = refl
add_comm_double (inf true) (inf true) = refl
add_comm_double (inf true) (inf false) = refl
add_comm_double (inf false) (inf true) = refl
add_comm_double (inf false) (inf false) = refl
add_comm_double (inf s) (fin t n d) = refl
add_comm_double (fin s m e) nan = refl
add_comm_double (fin s m e) (inf t) = refl
add_comm_double (fin s m e) (fin t n d) =
    sum_comm s t (m * up e * down d) (n * up d * down e) (down e * down d) ∙ ap (sum binary64 t (n * up d * down e) s (m * up e * down d)) (mul_comm (down e) (down d))

-- ---- the sum of ±a and ±b over d, as one rounding
pub record Sum (s : Bool) (a : ℕ) (t : Bool) (b d : ℕ) : Type 0 where
  pub sign : Bool
  pub size : ℕ
  pub rounded : sum binary64 s a t b d ≡ round binary64 sign size d
  pub balanced : above sign size + beneath s a + beneath t b ≡ beneath sign size + above s a + above t b

opposite-is : (a b d : ℕ) → Sum false a true b d
unfolding sum above beneath
opposite-is a b d = go (ltb a b) refl
  where
    go : (l : Bool) → ltb a b ≡ l → Sum false a true b d
    go true e = let h : a < b = ltb→lt a b (subst T (sym e) tt) in record { sign = true; size = b - a; rounded = rw e refl; balanced = omega (arith, h) }
    go false e = let h : b ≤ a = nltb→le a b (subst (λ x. T (not x)) (sym e) tt) in record { sign = false; size = a - b; rounded = rw e refl; balanced = omega (arith, h) }

pub sum_is : (s t : Bool) (a b d : ℕ) → Sum s a t b d
unfolding sum above beneath
sum_is false false a b d = record { sign = false; size = a + b; rounded = refl; balanced = omega arith }
sum_is true true a b d = record { sign = true; size = a + b; rounded = refl; balanced = omega arith }
sum_is false true a b d = opposite-is a b d
sum_is true false a b d = let x = opposite-is b a d in record { sign = x.sign; size = x.size; rounded = sym (opposite b a d) ∙ x.rounded; balanced = omega (arith, x.balanced) }

sum-order : (s t r : Bool) (a b c d : ℕ) → 0 < d → AtMost s a t b → T (le (sum binary64 s a r c d) (sum binary64 t b r c d))
sum-order s t r a b c d D h =
    let x = sum_is s r a c d in
    let y = sum_is t r b c d in
    subst₂ (λ (u v : Float). T (le u v)) (sym x.rounded) (sym y.rounded) (round-order x.sign y.sign x.size y.size d D (omega (arith, h, x.balanced, y.balanced)))

sum_number : (s t : Bool) (a b d : ℕ) → T (number (sum binary64 s a t b d))
sum_number s t a b d = let x = sum_is s t a b d in subst (λ (u : Float). T (number u)) (sym x.rounded) (round_number x.sign x.size d)

-- ---- a sum over c is the same over d, where a / c = A / d and b / c = B / d
module _ (A B a b c d : ℕ) (C : 0 < c) (D : 0 < d) (p : a * d ≡ A * c) (q : b * d ≡ B * c) where
  sums : (s : Bool) → round binary64 s (a + b) c ≡ round binary64 s (A + B) d
  sums s = round_same binary64 s (a + b) c (A + B) d C D (add-mul a b d ∙ ap₂ (λ (x y : ℕ). x + y) p q ∙ sym (add-mul A B c))

  less : (s : Bool) → round binary64 s (a - b) c ≡ round binary64 s (A - B) d
  less s =
      round_same binary64 s (a - b) c (A - B) d C D
      (mul_comm (a - b) d ∙ mul-sub d a b ∙ ap₂ (λ (x y : ℕ). x - y) (mul_comm d a ∙ p ∙ mul_comm A c) (mul_comm d b ∙ q ∙ mul_comm B c) ∙ sym (mul-sub c A B) ∙ mul_comm c (A - B))

same_sum : (A B a b c d : ℕ) (s t : Bool) → 0 < c → 0 < d → a * d ≡ A * c → b * d ≡ B * c → sum binary64 s a t b c ≡ sum binary64 s A t B d
unfolding sum
same_sum A B a b c d s t C D p q =
    rw (ltb-scaled d c a b A B D C p q, ltb-scaled d c b a B A D C q p, sums A B a b c d C D p q s, less A B a b c d C D p q (s && ltb B A), less B A b a c d C D q p t) refl

-- ---- the sum with a finite operand, and the difference
pub add-counts : (s t : Bool) (m n : ℕ) (e d : ℤ) → T (fits binary64 (fin s m e)) → T (fits binary64 (fin t n d)) → add binary64 (fin s m e) (fin t n d) ≡ sum binary64 s (units_of (fin s m e)) t (units_of (fin t n d)) (2 ^ 1074)
unfolding add
add-counts s t m n e d f g =
    let A : ℕ = units_of (fin s m e) in
    let B : ℕ = units_of (fin t n d) in
    same_sum A B (m * up e * down d) (n * up d * down e) (down e * down d) (2 ^ 1074) s t (mul-pos (down_pos e) (down_pos d)) (pow_pos 1074)
    (mul_right_comm (m * up e) (down d) (2 ^ 1074) ∙ ap (λ (x : ℕ). x * down d) (units-exact s m e f) ∙ mul_assoc A (down e) (down d))
    (mul_right_comm (n * up d) (down e) (2 ^ 1074) ∙ ap (λ (x : ℕ). x * down e) (units-exact t n d g) ∙ mul_right_comm B (down d) (down e) ∙ mul_assoc B (down e) (down d))

module _ (t : Bool) (n : ℕ) (d : ℤ) (g : T (fits binary64 (fin t n d))) where
  pub add-rises : Rises (λ x. add binary64 x (fin t n d))
  unfolding add
  add-rises =
      by-counts (λ x. add binary64 x (fin t n d)) (λ s. refl)
      (λ s m e. sum_number s t (m * up e * down d) (n * up d * down e) (down e * down d))
      (λ s r m k e i f h l. rw (add-counts s t m n e d f g, add-counts r t k n i d h g) (sum-order s r t _ _ _ (2 ^ 1074) (pow_pos 1074) l))

  pub add-to-rises : Rises (λ x. add binary64 (fin t n d) x)
  add-to-rises x y f h l = subst₂ (λ (u v : Float). T (le u v)) (add_comm_double x (fin t n d)) (add_comm_double y (fin t n d)) (add-rises x y f h l)

  pub sub-falls : (x y : Float) → T (fits binary64 x) → T (fits binary64 y) → T (le x y) → T (le (sub binary64 (fin t n d) y) (sub binary64 (fin t n d) x))
  unfolding sub
  sub-falls x y f h l = add-to-rises (neg y) (neg x) (neg-fits binary64 y h) (neg-fits binary64 x f) (neg-turns x y l)

pub sub-rises : (t : Bool) (n : ℕ) (d : ℤ) → T (fits binary64 (fin t n d)) → Rises (λ x. sub binary64 x (fin t n d))
unfolding sub neg
sub-rises t n d g = add-rises (not t) n d (neg-fits binary64 (fin t n d) g)

-- ---- the sum with any operand, where it is a number: with an infinite operand it is that one
absorbed : (x : Float) (s : Bool) → T (number (add binary64 x (inf s))) → add binary64 x (inf s) ≡ inf s
unfolding add
absorbed nan s u = absurd u
absorbed (inf true) true u = refl
absorbed (inf true) false u = absurd u
absorbed (inf false) true u = absurd u
absorbed (inf false) false u = refl
absorbed (fin t m e) s u = refl

no_number : (x : Float) → T (number (add binary64 x nan)) → ⊥
unfolding add
no_number nan u = u
no_number (inf s) u = u
no_number (fin s m e) u = u

level : (s : Bool) → T (le (inf s) (inf s))
unfolding le
level true = tt
level false = tt

pub sum-keeps : (x y c : Float) → T (fits binary64 x) → T (fits binary64 y) → T (fits binary64 c) → T (le x y) → T (number (add binary64 x c)) → T (number (add binary64 y c)) → T (le (add binary64 x c) (add binary64 y c))
sum-keeps x y nan f g h l u v = absurd (no_number x u)
sum-keeps x y (inf s) f g h l u v = rw (absorbed x s u, absorbed y s v) (level s)
sum-keeps x y (fin t n d) f g h l u v = add-rises t n d h x y f g l
