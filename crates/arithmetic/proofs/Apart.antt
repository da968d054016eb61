-- The distance that survives a rounding: two doubles that are far enough apart stay apart in a sum, a difference, a product or a quotient with one
-- operand, since a rounding moves each by one step at most. Numbers are counts of units of 2 ^ -1074. Assumes nothing.
use Rattle.arithmetic.proofs.Kit.{◌≡◌, refl, Bool, true, false, ℕ, suc, ◌+◌, ◌*◌, ◌^◌, ◌≤◌, ◌<◌, add-zero, mul_comm, mul_assoc, add-mul, mul-pos, mul-le-mul_right, le_of_mul-le-mul_right, arith, ℤ, T, eqb·suc-zero, Float, nan, inf, fin, binary64, up, down, round, sum, neg, add, sub, mul, div, lt, up_pos, down_pos, neg-fits}
use Rattle.arithmetic.specs.Nearest.{units_of}
use Rattle.arithmetic.proofs.CommonDenominator.{above, beneath}
use Rattle.arithmetic.proofs.Sums.{sum_is, add-counts, add_comm_double}
use Rattle.arithmetic.proofs.Products.{unlike_plus, scaled}
use Rattle.arithmetic.proofs.Counts.{over, under, Small, sides, sides-small, both-finite, lt-of-sides}
use Rattle.arithmetic.proofs.Near.{Step, Near, step_pos, round-near, near-small}

-- x and y are finite, of B units at most and at least g apart, x the lower
pub record Apart (g B : ℕ) (x y : Float) : Type 0 where
  pub lower : Small B x
  pub higher : Small B y
  pub gap : over x + under y + g ≤ over y + under x

pub apart-lt : {g B : ℕ} (x y : Float) → 0 < g → Apart g B x y → T (lt x y)
apart-lt x y some a = lt-of-sides x y a.lower a.higher (omega (arith, some, a.gap))

pub apart_weaker : {g h B C : ℕ} (x y : Float) → h ≤ g → B ≤ C → Apart g B x y → Apart h C x y
apart_weaker {B = B} {C = C} x y i j a =
    let wider : (z : Float) → Small B z → Small C z = λ z s. record { is_finite = s.is_finite; double = s.double; size = omega (arith, s.size, j) } in
    record { lower = wider x a.lower; higher = wider y a.higher; gap = omega (arith, i, a.gap) }

-- ---- the opposites are in the other order
opposite-over : (z : Float) → over (neg z) ≡ under z
unfolding neg above beneath
opposite-over nan = refl
opposite-over (inf s) = refl
opposite-over (fin false m e) = refl
opposite-over (fin true m e) = refl

opposite-under : (z : Float) → under (neg z) ≡ over z
unfolding neg above beneath
opposite-under nan = refl
opposite-under (inf s) = refl
opposite-under (fin false m e) = refl
opposite-under (fin true m e) = refl

opposite-small : {B : ℕ} (z : Float) → Small B z → Small B (neg z)
unfolding neg
opposite-small nan h = absurd h.is_finite
opposite-small (inf s) h = absurd h.is_finite
opposite-small (fin s m e) h = record { is_finite = tt; double = neg-fits binary64 (fin s m e) h.double; size = h.size }

opposite-apart : {g B : ℕ} (x y : Float) → Apart g B x y → Apart g B (neg y) (neg x)
opposite-apart x y a = record {
  lower = opposite-small y a.higher;
  higher = opposite-small x a.lower;
  gap = rw (opposite-over y, opposite-under x, opposite-over x, opposite-under y) (omega (arith, a.gap));
}

-- ---- a rounding of x * k / l + c, c being (p - q) / l. Here and below B bounds the operands and D the results, and of the distance g a distance h is left.
module _ (U k l p q B D : ℕ) (f : Float → Float) (L : 0 < l) (near : (x : Float) → Small B x → Near U l (over x * k + p) (under x * k + q) (f x))
    (P : B * k + p + U * l ≤ D * l) (Q : B * k + q + U * l ≤ D * l) where
  linear-small : (x : Float) → Small B x → Small D (f x)
  linear-small x h =
      let high : over x * k ≤ B * k = mul-le-mul_right k (omega (arith, sides-small x h)) in
      let low : under x * k ≤ B * k = mul-le-mul_right k (omega (arith, sides-small x h)) in
      near-small (f x) L (omega (arith, P, high)) (omega (arith, Q, low)) (near x h)

  linear-apart : {g h : ℕ} (x y : Float) → (h + 2 * U) * l ≤ g * k → Apart g B x y → Apart h D (f x) (f y)
  linear-apart {g} {h} x y far a =
      let r = near x a.lower in
      let t = near y a.higher in
      let before : over x * k + under y * k + g * k ≤ over y * k + under x * k =
      rw (← add-mul (over x) (under y) k, ← add-mul (over x + under y) g k, ← add-mul (over y) (under x) k) (mul-le-mul_right k a.gap) in
      record {
        lower = linear-small x a.lower;
        higher = linear-small y a.higher;
        gap =
            le_of_mul-le-mul_right
            (rw (add-mul (over (f x) + under (f y)) h l, add-mul (over (f x)) (under (f y)) l, add-mul (over (f y)) (under (f x)) l) (omega (arith, r.not_above, t.not_below, far, before, add-mul h (2 * U) l, mul_assoc 2 U l)))
            L;
      }

-- ---- the sum with a finite double, and the difference
-- it is no larger than what is added, without the signs
size_below : (s : Bool) (n p q r : ℕ) → above s n + q ≡ beneath s n + p → p < r → q < r → n < r
unfolding above beneath
size_below false n p q r h P Q = omega arith
size_below true n p q r h P Q = omega arith

module _ (U : ℕ) (step : Step U) where
  sum_near : (s t : Bool) (a b : ℕ) → a + b < 2 ^ 53 * U → Near U 1 (above s a * 1 + above t b) (beneath s a * 1 + beneath t b) (sum binary64 s a t b (2 ^ 1074))
  sum_near s t a b small =
      let z = sum_is s t a b (2 ^ 1074) in
      let less : z.size < 2 ^ 53 * U * 1 =
      size_below z.sign z.size (above s a + above t b) (beneath s a + beneath t b) (2 ^ 53 * U * 1) (omega (arith, z.balanced)) (omega (arith, small, sides s a, sides t b)) (omega (arith, small, sides s a, sides t b)) in
      let r = round-near z.sign z.size 1 U (omega arith) step less in
      rw z.rounded record { is_finite = r.is_finite; double = r.double; not_above = omega (arith, r.not_above, z.balanced); not_below = omega (arith, r.not_below, z.balanced) }

  module _ (B C D : ℕ) (fine : B + C + U ≤ D) (room : D ≤ 2 ^ 53 * U) where
    add-near : (x c : Float) → Small B x → Small C c → Near U 1 (over x * 1 + over c) (under x * 1 + under c) (add binary64 x c)
    add-near =
        both-finite (λ x c. Near U 1 (over x * 1 + over c) (under x * 1 + under c) (add binary64 x c))
        (λ s t m n e d p q. rw (add-counts s t m n e d p.double q.double) (sum_near s t (units_of (fin s m e)) (units_of (fin t n d)) (omega (arith, p.size, q.size, fine, room, step_pos U step))))

    pub add_apart : {g h : ℕ} (x y c : Float) → Small C c → h + 2 * U ≤ g → Apart g B x y → Apart h D (add binary64 x c) (add binary64 y c)
    add_apart {g} {h} x y c i far a =
        linear-apart U 1 1 (over c) (under c) B D (λ z. add binary64 z c) (omega arith) (λ z s. add-near z c s i) (omega (arith, fine, sides-small c i)) (omega (arith, fine, sides-small c i)) x y (omega (arith, far)) a

    pub sub-apart : {g h : ℕ} (x y c : Float) → Small C c → h + 2 * U ≤ g → Apart g B x y → Apart h D (sub binary64 x c) (sub binary64 y c)
    unfolding sub
    sub-apart x y c i far a = add_apart x y (neg c) (opposite-small c i) far a

    pub sub-from-apart : {g h : ℕ} (x y c : Float) → Small C c → h + 2 * U ≤ g → Apart g B x y → Apart h D (sub binary64 c y) (sub binary64 c x)
    unfolding sub
    sub-from-apart x y c i far a = rw (add_comm_double c (neg y), add_comm_double c (neg x)) (add_apart (neg y) (neg x) c i far (opposite-apart x y a))

-- ---- the product with a positive number, and the quotient by one
above-times : (s : Bool) (a k : ℕ) → above s (a * k) ≡ above s a * k
unfolding above
above-times false a k = omega arith
above-times true a k = omega arith

beneath-times : (s : Bool) (a k : ℕ) → beneath s (a * k) ≡ beneath s a * k
unfolding beneath
beneath-times false a k = omega arith
beneath-times true a k = omega arith

module _ (U B D k l : ℕ) (step : Step U) (L : 0 < l) (fine : B * k + U * l ≤ D * l) (room : D ≤ 2 ^ 53 * U) where
  scaled-near : (s : Bool) (m : ℕ) (e : ℤ) → Small B (fin s m e)
      → Near U l (over (fin s m e) * k) (under (fin s m e) * k) (round binary64 s (m * up e * k) (down e * l))
  scaled-near s m e h =
      let A : ℕ = units_of (fin s m e) in
      let most : A * k ≤ B * k = mul-le-mul_right k h.size in
      let top : D * l ≤ 2 ^ 53 * U * l = mul-le-mul_right l room in
      rw (scaled s m e k l L h.double, ← above-times s A k, ← beneath-times s A k) (round-near s (A * k) l U L step (omega (arith, most, top, fine, mul-pos (step_pos U step) L)))

  scaled-apart : {g h : ℕ} (f : Float → Float) → ((s : Bool) (m : ℕ) (e : ℤ) → f (fin s m e) ≡ round binary64 s (m * up e * k) (down e * l)) → (x y : Float) → (h + 2 * U) * l ≤ g * k → Apart g B x y → Apart h D (f x) (f y)
  scaled-apart f is x y = linear-apart U k l 0 0 B D f L near (omega (arith, fine)) (omega (arith, fine)) x y
    where
      near : (x : Float) → Small B x → Near U l (over x * k + 0) (under x * k + 0) (f x)
      near nan h = absurd h.is_finite
      near (inf s) h = absurd h.is_finite
      near (fin s m e) h = rw (is s m e, add-zero (over (fin s m e) * k), add-zero (under (fin s m e) * k)) (scaled-near s m e h)

module _ (U B D n : ℕ) (d : ℤ) (step : Step U) (room : D ≤ 2 ^ 53 * U) where
  pub mul-apart : {g h : ℕ} (x y : Float) → B * (suc n * up d) + U * down d ≤ D * down d → (h + 2 * U) * down d ≤ g * (suc n * up d) → Apart g B x y
      → Apart h D (mul binary64 x (fin false (suc n) d)) (mul binary64 y (fin false (suc n) d))
  unfolding mul
  mul-apart x y fine =
      scaled-apart U B D (suc n * up d) (down d) step (down_pos d) fine room (λ z. mul binary64 z (fin false (suc n) d)) (λ s m e. rw (unlike_plus s) refl) x y

  pub div-apart : {g h : ℕ} (x y : Float) → B * down d + U * (suc n * up d) ≤ D * (suc n * up d) → (h + 2 * U) * (suc n * up d) ≤ g * down d → Apart g B x y
      → Apart h D (div binary64 x (fin false (suc n) d)) (div binary64 y (fin false (suc n) d))
  unfolding div
  div-apart x y fine =
      scaled-apart U B D (down d) (suc n * up d) step (mul-pos (omega arith) (up_pos d)) fine room (λ z. div binary64 z (fin false (suc n) d))
      (λ s m e. rw (eqb·suc-zero n, unlike_plus s, mul_comm (suc n * up d) (down e)) refl)
      x y
