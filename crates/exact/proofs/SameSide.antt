-- A double that is near a number lies on the number's side of every double from which the number is further. Assumes nothing.
use Rattle.exact.proofs.Kit.{◌≡◌, refl, sym, ap, ◌∙◌, ◌⊎◌, inl, inr, Bool, true, false, ℕ, ◌+◌, ◌*◌, ◌^◌, ◌≤◌, ◌<◌, le_refl, le_trans, le_of_eq, le_of_lt, lt_of_lt_of_le, lt_of_le_of_lt, not-le_of_lt, mul-le-mul_right, mul-lt-mul_of_pos_right, lt_of_mul-lt-mul_right, arith, T, leb, leb→le, le→leb, Float, binary64, fits, le, is_true, finite, units_of, over, under, Small, le-of-sides, lt-of-sides, not_le-of-less, Exact, ◌⊞◌, opposite, number, is_not_above, IsNear, IsFar}
use Rattle.exact.proofs.Rounded.{N, N_pos}
use Rattle.exact.proofs.Ranges.{number_is}

-- ---- over natural numbers: x is a / u - b / u, c is p / v - q / v, and X is (P - Q) / K
on-a-side : (a b u p q v P Q K F : ℕ) → 0 < u → (b * K + P * u) * F ≤ (a * K + Q * u) * F + u * K → (Q * v + p * K) * F + K * v < (P * v + q * K) * F → b * v + p * u < a * v + q * u
on-a-side a b u p q v P Q K F u₀ near far =
    lt_of_mul-lt-mul_right (K * F)
    (lt_of_le_of_lt (le_of_eq (omega arith))
    (lt_of_lt_of_le (linear (b * K * F * v) (P * u * F * v) (a * K * F * v) (Q * u * F * v) (u * K * v) (p * K * F * u) (q * K * F * u) u₀
    (le_trans (le_of_eq (omega arith)) (le_trans (mul-le-mul_right v near) (le_of_eq (omega arith)))) (le_trans (le_of_eq (omega arith)) (le_trans (mul-le-mul_right u far) (le_of_eq (omega arith))))) (le_of_eq (omega arith))))
  where
    linear : (d e f g h i j : ℕ) → 0 < u → d + e ≤ f + g + h → g + i + h + u ≤ e + j → d + i < f + j
    linear d e f g h i j u₀ low high = omega (arith, u₀, low, high)

in_units : (a b u p q v o w r z : ℕ) → a * N ≡ o * u → b * N ≡ w * u → p * N ≡ r * v → q * N ≡ z * v → b * v + p * u < a * v + q * u → r + w < o + z
in_units a b u p q v o w r z e f g h i = lt_of_mul-lt-mul_right (u * v) (omega (arith, mul-lt-mul_of_pos_right i N_pos, ap (λ (x : ℕ). x * v) e, ap (λ (x : ℕ). x * v) f, ap (λ (x : ℕ). x * u) g, ap (λ (x : ℕ). x * u) h))

apart : (A B F E : ℕ) → A * F + E < B * F → A < B
apart A B F E h = lt_of_mul-lt-mul_right F (omega (arith, h))

module _ (k : ℕ) (x c : Float) (X : Exact) (near : IsNear k x X) (fits-x : T (fits binary64 x)) (finite-c : T (finite c)) (fits-c : T (fits binary64 c)) where
  itself : (z : Float) → T (finite z) → T (fits binary64 z) → Small (units_of z) z
  itself z h f = record { is_finite = h; double = f; size = le_refl (units_of z) }

  pub same-side : IsFar k X c → le c x ≡ is_not_above (number c) X
  unfolding ◌⊞◌ opposite
  same-side far =
      let n = number_is x near.is_finite fits-x in
      let m = number_is c finite-c fits-c in
      go (number x).plus (number x).minus (number x).under (number c).plus (number c).minus (number c).under X.plus X.minus X.under n m near.not_above near.not_below far
    where
      go : (a b u p q v P Q K : ℕ) → (0 < u) × (a * N ≡ over x * u) × (b * N ≡ under x * u) → (0 < v) × (p * N ≡ over c * v) × (q * N ≡ under c * v)
          → (a * K + Q * u) * 2 ^ k ≤ (b * K + P * u) * 2 ^ k + u * K → (b * K + P * u) * 2 ^ k ≤ (a * K + Q * u) * 2 ^ k + u * K
          → ((Q * v + p * K) * 2 ^ k + K * v < (P * v + q * K) * 2 ^ k) ⊎ ((P * v + q * K) * 2 ^ k + K * v < (Q * v + p * K) * 2 ^ k)
          → le c x ≡ leb (p * K + Q * v) (P * v + q * K)
      go a b u p q v P Q K n m high low (inl far) =
          is_true (le c x) (le-of-sides c x (itself c finite-c fits-c) (itself x near.is_finite fits-x) (le_of_lt (in_units a b u p q v (over x) (under x) (over c) (under c) n.1 n.2 m.1 m.2 (on-a-side a b u p q v P Q K (2 ^ k) n.0 low far))))
          ∙ sym (is_true (leb (p * K + Q * v) (P * v + q * K)) (le→leb (p * K + Q * v) (P * v + q * K) (omega (arith, apart (Q * v + p * K) (P * v + q * K) (2 ^ k) (K * v) far))))
      go a b u p q v P Q K n m high low (inr far) =
          not_true (le c x) (not_le-of-less x c (lt-of-sides x c (itself x near.is_finite fits-x) (itself c finite-c fits-c) (turn (under c) (over x) (under x) (over c) (in_units b a u q p v (under x) (over x) (under c) (over c) n.2 n.1 m.2 m.1 (on-a-side b a u q p v Q P K (2 ^ k) n.0 high far)))))
          ∙ sym (not_true (leb (p * K + Q * v) (P * v + q * K)) (λ (h : T (leb (p * K + Q * v) (P * v + q * K))). not-le_of_lt (apart (P * v + q * K) (Q * v + p * K) (2 ^ k) (K * v) far) (omega (arith, leb→le (p * K + Q * v) (P * v + q * K) h))))
        where
          turn : (r w o z : ℕ) → r + w < o + z → w + r < z + o
          turn r w o z h = omega (arith, h)

          not_true : (b : Bool) → (T b → ⊥) → b ≡ false
          not_true true h = absurd (h tt)
          not_true false h = refl
