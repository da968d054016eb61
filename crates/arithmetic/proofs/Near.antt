-- A rounding moves a number by one step at most, a step U being the distance of the doubles of that size. Numbers are counts of units of 2 ^ -1074.
-- Assumes nothing.
use Rattle.arithmetic.proofs.Kit.{◌≡◌, sym, ap, ◌∙◌, subst, Bool, true, false, not, ℕ, ◌+◌, ◌*◌, ◌/◌, ◌^◌, ◌≤◌, ◌<◌, le_refl, le_trans, le_of_eq, lt_of_lt_of_le, mul_comm, mul_assoc, add-mul, mul-pos, mul-div_cancel, mul-le-mul_right, mul-le-mul_left, mul-lt-mul_of_pos_right, lt_of_mul-lt-mul_right, le_of_mul-le-mul_right, div-mul-le_self, div-add-mod', mod-lt, div-lt_iff_lt-mul, arith, ℤ, T, pow-add, pow_pos, pow_mono, Float, nan, inf, fin, binary64, down, size, round, neg, fits, size-le, down_pos, round-fits, HasValue, kept, finite}
use lib.Ieee.Order.{drop}
use lib.Ieee.Scale.{grid, round_val}
use Rattle.arithmetic.specs.Nearest.{units_of}
use Rattle.arithmetic.proofs.Closest.{closest_at_most, closest_at_least}
use Rattle.arithmetic.proofs.Rounding.{round-opposite}
use Rattle.arithmetic.proofs.CommonDenominator.{above, beneath}
use Rattle.arithmetic.proofs.Counts.{over, under, Small}

-- ---- what `round` makes of n / c: it drops some digits, 2 ^ drop being a step of 2 ^ k at most, and keeps 53
module _ (n c k : ℕ) (C : 0 < c) (small : n < 2 ^ (53 + k) * c) where
  unit : c * 2 ^ drop 53 n c ≤ 2 ^ k * c
  unit =
      let digits : size (n / c) ≤ 53 + k = size-le (n / c) (53 + k) ((div-lt_iff_lt-mul C).1 small) in
      le_trans (mul-le-mul_left c (pow_mono {i = drop 53 n c} {j = k} (omega arith))) (le_of_eq (mul_comm c (2 ^ k)))

  in_units : kept 53 n c * 2 ^ drop 53 n c * c ≡ kept 53 n c * (c * 2 ^ drop 53 n c)
  in_units = mul_assoc (kept 53 n c) (2 ^ drop 53 n c) c ∙ ap (λ (x : ℕ). kept 53 n c * x) (mul_comm (2 ^ drop 53 n c) c)

  not_far_above : kept 53 n c * 2 ^ drop 53 n c * c ≤ n + 2 ^ k * c
  not_far_above =
      let u : ℕ = c * 2 ^ drop 53 n c in
      let most : kept 53 n c * u ≤ (n / u + 1) * u = mul-le-mul_right u (closest_at_most n u (n / u + 1) (omega arith)) in
      omega (arith, unit, in_units, most, add-mul (n / u) 1 u, div-mul-le_self n u)

  not_far_below : n ≤ kept 53 n c * 2 ^ drop 53 n c * c + 2 ^ k * c
  not_far_below =
      let u : ℕ = c * 2 ^ drop 53 n c in
      let least : n / u * u ≤ kept 53 n c * u = mul-le-mul_right u (closest_at_least n u (n / u) (le_refl (n / u))) in
      omega (arith, unit, in_units, least, div-add-mod' n u, mod-lt n (mul-pos C (pow_pos (drop 53 n c))))

-- ---- a finite double that is no further than U from (p - q) / l
pub record Near (U l p q : ℕ) (z : Float) : Type 0 where
  pub is_finite : T (finite z)
  pub double : T (fits binary64 z)
  pub not_above : over z * l + q ≤ under z * l + p + U * l
  pub not_below : under z * l + p ≤ over z * l + q + U * l

-- ---- the rounding of ±a / l units is one
opposite-value : (z : Float) (a c : ℕ) → HasValue z false a c → HasValue (neg z) true a c
unfolding neg
opposite-value nan a c h = absurd h
opposite-value (inf s) a c h = absurd h
opposite-value (fin s m e) a c h = (ap not h.0, h.1)

round-value : (s : Bool) (a c : ℕ) → grid binary64 a c < 2 ^ 2098 → HasValue (round binary64 s a c) s (grid binary64 a c) (2 ^ 1074)
round-value false a c h = round_val binary64 a c h
round-value true a c h = rw (round-opposite binary64 a c) (opposite-value (round binary64 false a c) (grid binary64 a c) (2 ^ 1074) (round_val binary64 a c h))

near_fin : (U l a m : ℕ) (e : ℤ) (s : Bool) → T (fits binary64 (fin s m e)) → units_of (fin s m e) * l ≤ a + U * l → a ≤ units_of (fin s m e) * l + U * l → Near U l (above s a) (beneath s a) (fin s m e)
unfolding above beneath
near_fin U l a m e false f i j = record { is_finite = tt; double = f; not_above = omega (arith, i); not_below = omega (arith, j) }
near_fin U l a m e true f i j = record { is_finite = tt; double = f; not_above = omega (arith, j); not_below = omega (arith, i) }

near-value : (U l a G : ℕ) (s : Bool) (z : Float) → T (fits binary64 z) → HasValue z s G (2 ^ 1074) → G * l ≤ a + U * l → a ≤ G * l + U * l → Near U l (above s a) (beneath s a) z
near-value U l a G s nan f h i j = absurd h
near-value U l a G s (inf t) f h i j = absurd h
near-value U l a G s (fin t m e) f h i j =
    let same : units_of (fin t m e) ≡ G = ap (λ (x : ℕ). x / down e) h.1 ∙ mul-div_cancel G (down_pos e) in
    subst (λ (r : Bool). Near U l (above r a) (beneath r a) (fin t m e)) h.0 (near_fin U l a m e t f (rw same i) (rw same j))

-- a factor P in every term
above_of : (P G a U l : ℕ) → 0 < P → G * (P * l) ≤ a * P + U * (P * l) → G * l ≤ a + U * l
above_of P G a U l some h = le_of_mul-le-mul_right (rw (add-mul a (U * l) P, mul_assoc G l P, mul_assoc U l P, mul_comm l P) h) some

below_of : (P G a U l : ℕ) → 0 < P → a * P ≤ G * (P * l) + U * (P * l) → a ≤ G * l + U * l
below_of P G a U l some h = le_of_mul-le-mul_right (rw (add-mul (G * l) (U * l) P, mul_assoc G l P, mul_assoc U l P, mul_comm l P) h) some

times : (P a U l : ℕ) → 0 < P → a < U * l → a * P < U * (P * l)
times P a U l some h = rw (mul_comm P l, ← mul_assoc U l P) (mul-lt-mul_of_pos_right h some)

-- U is 2 ^ k, the step of the doubles below 2 ^ (53 + k) units
abbrev pub Step : ℕ → Type 0
Step U = (k : ℕ) × (k ≤ 2000) × (U ≡ 2 ^ k)

pub step_pos : (U : ℕ) → Step U → 0 < U
step_pos U (k, K, e) = rw e (pow_pos k)

module _ (s : Bool) (a l k : ℕ) (L : 0 < l) (K : k ≤ 2000) (small : a < 2 ^ 53 * 2 ^ k * l) where
  by-step : Near (2 ^ k) l (above s a) (beneath s a) (round binary64 s a (2 ^ 1074 * l))
  by-step =
      let c : ℕ = 2 ^ 1074 * l in
      let C : 0 < c = mul-pos (pow_pos 1074) L in
      let G : ℕ = grid binary64 a c in
      let below : a * 2 ^ 1074 < 2 ^ (53 + k) * c = times (2 ^ 1074) a (2 ^ (53 + k)) l (pow_pos 1074) (rw (pow-add 2 53 k) small) in
      let high : G * l ≤ a + 2 ^ k * l = above_of (2 ^ 1074) G a (2 ^ k) l (pow_pos 1074) (not_far_above (a * 2 ^ 1074) c k C below) in
      let low : a ≤ G * l + 2 ^ k * l = below_of (2 ^ 1074) G a (2 ^ k) l (pow_pos 1074) (not_far_below (a * 2 ^ 1074) c k C below) in
      near-value (2 ^ k) l a G s (round binary64 s a c) (round-fits binary64 s a c) (round-value s a c (no_overflow G high)) high low
    where
      no_overflow : (G : ℕ) → G * l ≤ a + 2 ^ k * l → G < 2 ^ 2098
      no_overflow G h =
          let double : 2 ^ 53 * 2 ^ k * l + 2 ^ k * l ≤ 2 ^ 54 * 2 ^ k * l = rw (mul_assoc (2 ^ 53) (2 ^ k) l, mul_assoc (2 ^ 54) (2 ^ k) l) (omega arith) in
          lt_of_lt_of_le (lt_of_mul-lt-mul_right l {m = G} {n = 2 ^ 54 * 2 ^ k} (omega (arith, h, small, double))) (le_trans (le_of_eq (sym (pow-add 2 54 k))) (pow_mono {i = 54 + k} {j = 2098} (omega (arith, K))))

pub round-near : (s : Bool) (a l U : ℕ) → 0 < l → Step U → a < 2 ^ 53 * U * l → Near U l (above s a) (beneath s a) (round binary64 s a (2 ^ 1074 * l))
round-near s a l U L (k, K, e) h = subst (λ (X : ℕ). Near X l (above s a) (beneath s a) (round binary64 s a (2 ^ 1074 * l))) (sym e) (by-step s a l k L K (subst (λ (X : ℕ). a < 2 ^ 53 * X * l) e h))

-- and it is of D units at most, where ±a / l is of D - U at most
pub near-small : {U l p q D : ℕ} (z : Float) → 0 < l → p + U * l ≤ D * l → q + U * l ≤ D * l → Near U l p q z → Small D z
unfolding above beneath
near-small nan L P Q h = absurd h.is_finite
near-small (inf s) L P Q h = absurd h.is_finite
near-small (fin false m e) L P Q h = record { is_finite = tt; double = h.double; size = le_of_mul-le-mul_right (omega (arith, h.not_above, P)) L }
near-small (fin true m e) L P Q h = record { is_finite = tt; double = h.double; size = le_of_mul-le-mul_right (omega (arith, h.not_below, Q)) L }
