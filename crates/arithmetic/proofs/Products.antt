-- The product with a positive number, and the quotient by one, keep the order of the doubles, infinities included. Assumes nothing.
use Rattle.arithmetic.proofs.Kit.{◌≡◌, refl, ap, ◌∙◌, Bool, true, false, ℕ, zero, suc, ◌*◌, ◌^◌, ◌≤◌, ◌<◌, mul-le-mul_right, mul_comm, mul-mul-mul_comm, mul-pos, zero-mul, arith, ℤ, T, eqb·suc-zero, pow_pos, inf, fin, binary64, up, down, round, mul, div, fits, le, up_pos, down_pos, round_same}
use lib.Ieee.{unlike}
use Rattle.arithmetic.specs.Nearest.{units_of}
use Rattle.arithmetic.proofs.Order.{Rises, units-exact}
use Rattle.arithmetic.proofs.CommonDenominator.{above, beneath, AtMost, round-order, round_number, by-counts}

-- ---- both are ±m k / l, for one k and one l
pub unlike_plus : (s : Bool) → unlike s false ≡ s
unlike_plus false = refl
unlike_plus true = refl

plus_unlike : (s : Bool) → unlike false s ≡ s
plus_unlike false = refl
plus_unlike true = refl

times-at_most : (s t : Bool) (a b k : ℕ) → AtMost s a t b → AtMost s (a * k) t (b * k)
unfolding above beneath
times-at_most false false a b k h = let l : a * k ≤ b * k = mul-le-mul_right k (omega (arith, h)) in omega (arith, l)
times-at_most false true zero zero k h = rw (zero-mul k) (omega arith)
times-at_most false true (suc a) b k h = absurd (omega (arith, h))
times-at_most false true zero (suc b) k h = absurd (omega (arith, h))
times-at_most true false a b k h = omega arith
times-at_most true true a b k h = let l : b * k ≤ a * k = mul-le-mul_right k (omega (arith, h)) in omega (arith, l)

pub scaled : (s : Bool) (m : ℕ) (e : ℤ) (k l : ℕ) → 0 < l → T (fits binary64 (fin s m e)) → round binary64 s (m * up e * k) (down e * l) ≡ round binary64 s (units_of (fin s m e) * k) (2 ^ 1074 * l)
scaled s m e k l L f =
    let A : ℕ = units_of (fin s m e) in
    round_same binary64 s (m * up e * k) (down e * l) (A * k) (2 ^ 1074 * l) (mul-pos (down_pos e) L) (mul-pos (pow_pos 1074) L)
    (mul-mul-mul_comm (m * up e) k (2 ^ 1074) l ∙ ap (λ (x : ℕ). x * (k * l)) (units-exact s m e f) ∙ mul-mul-mul_comm A (down e) k l)

scaled-order : (s t : Bool) (m n : ℕ) (e d : ℤ) (k l : ℕ) → 0 < l → T (fits binary64 (fin s m e)) → T (fits binary64 (fin t n d)) → AtMost s (units_of (fin s m e)) t (units_of (fin t n d))
    → T (le (round binary64 s (m * up e * k) (down e * l)) (round binary64 t (n * up d * k) (down d * l)))
scaled-order s t m n e d k l L f g h =
    rw (scaled s m e k l L f, scaled t n d k l L g) (round-order s t _ _ (2 ^ 1074 * l) (mul-pos (pow_pos 1074) L) (times-at_most s t (units_of (fin s m e)) (units_of (fin t n d)) k h))

module _ (n : ℕ) (d : ℤ) where
  pub mul-rises : Rises (λ x. mul binary64 x (fin false (suc n) d))
  unfolding mul
  mul-rises =
      by-counts (λ x. mul binary64 x (fin false (suc n) d)) (λ s. rw (eqb·suc-zero n, unlike_plus s) refl)
      (λ s m e. round_number (unlike s false) (m * up e * (suc n * up d)) (down e * down d))
      (λ s t m k e i f h l. rw (unlike_plus s, unlike_plus t) (scaled-order s t m k e i (suc n * up d) (down d) (down_pos d) f h l))

  pub mul-by-rises : Rises (λ x. mul binary64 (fin false (suc n) d) x)
  unfolding mul
  mul-by-rises =
      by-counts (λ x. mul binary64 (fin false (suc n) d) x) (λ s. rw (eqb·suc-zero n, plus_unlike s) refl)
      (λ s m e. round_number (unlike false s) (suc n * up d * (m * up e)) (down d * down e))
      (λ s t m k e i f h l.
      rw (plus_unlike s, plus_unlike t, mul_comm (suc n * up d) (m * up e), mul_comm (suc n * up d) (k * up i), mul_comm (down d) (down e), mul_comm (down d) (down i))
      (scaled-order s t m k e i (suc n * up d) (down d) (down_pos d) f h l))

  pub div-rises : Rises (λ x. div binary64 x (fin false (suc n) d))
  unfolding div
  div-rises =
      by-counts (λ x. div binary64 x (fin false (suc n) d)) (λ s. ap inf (unlike_plus s))
      (λ s m e. rw (eqb·suc-zero n) (round_number (unlike s false) (m * up e * down d) (suc n * up d * down e)))
      (λ s t m k e i f h l.
      rw (eqb·suc-zero n, unlike_plus s, unlike_plus t, mul_comm (suc n * up d) (down e), mul_comm (suc n * up d) (down i))
      (scaled-order s t m k e i (down d) (suc n * up d) (mul-pos (omega arith) (up_pos d)) f h l))
