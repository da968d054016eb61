-- The saturation pressure is near the exact one, and nearly so as a part of itself. Assumes nothing.
use Rattle.near.proofs.Kit.{◌≡◌, refl, sym, ap, subst, Bool, true, false, List, [], ◌∷◌, ℕ, ◌+◌, ◌-◌, ◌*◌, ◌^◌, ◌≤◌, le_trans, le_of_eq, mul-pos, mul-le-mul_right, mul-le-mul_left, le_of_mul-le-mul_right, arith, T, leb, ltb, eqb, leb→le, ltb→lt, eqb→eq, lit<, Float, nan, inf, fin, binary64, round, mul, span, climb, size, odd, of_fields, of_bits, fits, num, den, den_pos, positive, decimal, ◌⊗◌, above, beneath, over, root, root_in, exp, saturation_pressure, Normal, ◌⊠◌, the, number, IsNear, IsNearly, Between, of, N, Bounds, Tracks, ranged, near_of, ends, tracks-between, all, item, test, Positive, positive-units, positive_of, normal-of, Saturation, exact_saturation, places}
use Rattle.exact.proofs.RoundedNear.{rounded-near}
use Rattle.exact.proofs.Terms.{Term, given, num as number_of, ◌times◌, analysed, none, ◌also◌, tracks}
use Rattle.exact.proofs.Relative.{Apart, apart_of}
use Rattle.exact.proofs.PositiveNear.{nearly-of}
use Rattle.exact.proofs.ExpTracks.{parts, α, β, γ, δ, Sides}
use Rattle.near.proofs.Temperatures.{Part, Below, Every, by-kelvin}
use Rattle.near.proofs.Saturated.{exponent-bounds, ratio-bounds, checks, y, sides-ratio, tracks-ratio, is-pressure}

-- ---- p, the product of p_c and r, is wrong by one part in 2^53: in units
module _ (p r : Float) (p-is : Positive p) (r-is : Positive r) where
  scaled : {A B A' B' : ℕ} → A' * N ≡ A * (den r * den p) → B' * N ≡ B * (den r * den p) → A' ≤ B' → A ≤ B
  scaled e f h = le_of_mul-le-mul_right (le_trans (le_of_eq (sym e)) (le_trans (mul-le-mul_right N h) (le_of_eq f))) (mul-pos (den_pos r) (den_pos p))

  pub product-above : (K c : ℕ) → K * (c * num r * den p) ≤ K * (num p * (1 * den r)) + num p * (1 * den r) → K * (c * over r) ≤ (K + 1) * over p
  product-above K c = scaled (left (num r) (den r) (den p) (over r) r-is.is-over) (right (num p) (den r) (den p) (over p) p-is.is-over)
    where
      left : (m u v o : ℕ) → m * N ≡ o * u → K * (c * m * v) * N ≡ K * (c * o) * (u * v)
      left m u v o e = omega (arith, ap (λ (x : ℕ). x * (K * c * v)) e)

      right : (m u v o : ℕ) → m * N ≡ o * v → (K * (m * (1 * u)) + m * (1 * u)) * N ≡ (K + 1) * o * (u * v)
      right m u v o e = omega (arith, ap (λ (x : ℕ). x * (K * u)) e, ap (λ (x : ℕ). x * u) e)

  pub product-below : (K c : ℕ) → K * (num p * (1 * den r)) ≤ K * (c * num r * den p) + num p * (1 * den r) → K * over p ≤ K * (c * over r) + over p
  product-below K c = scaled (left (num p) (den r) (den p) (over p) p-is.is-over) (right (num r) (num p) (den r) (den p) (over r) (over p) r-is.is-over p-is.is-over)
    where
      left : (m u v o : ℕ) → m * N ≡ o * v → K * (m * (1 * u)) * N ≡ K * o * (u * v)
      left m u v o e = omega (arith, ap (λ (x : ℕ). x * (K * u)) e)

      right : (m n u v o w : ℕ) → m * N ≡ o * u → n * N ≡ w * v → (K * (c * m * v) + n * (1 * u)) * N ≡ (K * (c * o) + w) * (u * v)
      right m n u v o w e f = omega (arith, ap (λ (x : ℕ). x * (K * c * v)) e, ap (λ (x : ℕ). x * u) f)

product_is : (r : Float) → T (positive r) → decimal "220640" ⊗ r ≡ round binary64 false (220640 * num r) (1 * den r)
unfolding mul odd of_fields of_bits
product_is nan h = absurd h
product_is (inf s) h = absurd h
product_is (fin true m e) h = absurd h
product_is (fin false m e) h = refl

-- ---- together with the ratio's own error: H and B are the denominator of the exact ratio and its numerator in units
chain_above : (k K P c R α β H B : ℕ) → k * P ≤ K * (c * R) → α * (R * H) ≤ β * B → k * α * (P * H) ≤ K * β * (c * B)
chain_above k K P c R α β H B h i =
    le_trans (le_of_eq (omega arith)) (le_trans (mul-le-mul_right (α * H) h) (le_trans (le_of_eq (omega arith)) (le_trans (mul-le-mul_left (K * c) i) (le_of_eq (omega arith)))))

chain_below : (k K P c R γ δ H B : ℕ) → K * (c * R) ≤ k * P → γ * B ≤ δ * (R * H) → K * γ * (c * B) ≤ k * δ * (P * H)
chain_below k K P c R γ δ H B h i =
    le_trans (le_of_eq (omega arith)) (le_trans (mul-le-mul_left (K * c) i) (le_trans (le_of_eq (omega arith)) (le_trans (mul-le-mul_right (δ * H) h) (le_of_eq (omega arith)))))

-- ---- of a part of the temperatures
abbrev product : Term
product = number_of "220640" times given 0

module _ (q : Part) where
  abbrev T-bounds : Bounds
  T-bounds = ranged q.from-K q.to-K 0

  abbrev bounds : Bounds
  bounds = analysed (ratio-bounds T-bounds q ∷ []) product

  abbrev n : ℕ
  n = parts (exponent-bounds T-bounds q)

  abbrev tests : List Bool
  tests =
      all (checks T-bounds q) ∷ all (ends q.from-K q.to-K) ∷ bounds.good ∷ leb (bounds.E * 2 ^ 35) N ∷ eqb bounds.M 0 ∷ leb (2 ^ 52) bounds.L ∷ ltb 0 n
      ∷ leb (2 ^ 41 * (2 ^ 53 * β n)) (2 ^ 41 * ((2 ^ 53 - 1) * α n) + 1 * (2 ^ 53 * β n)) ∷ leb (2 ^ 41 * ((2 ^ 53 + 1) * δ n)) (2 ^ 41 * (2 ^ 53 * γ n) + 1 * (2 ^ 53 * γ n))
      ∷ eqb (ratio-bounds T-bounds q).M 0 ∷ ltb 0 (ratio-bounds T-bounds q).L ∷ []

  module _ (tested : T (all tests)) (below : Below q) (x : Float) (range : Between q.from-K q.to-K x) (s : Saturation (number x)) where
    passed : (n : ℕ) → T (item tests n)
    passed n = test tests n tested

    tracks-T : Tracks T-bounds x (number x)
    tracks-T = tracks-between q.from-K q.to-K x (passed 1) range

    abbrev r : Float
    r = exp 60 (y T-bounds q (passed 0) below x (number x) tracks-T s)

    abbrev p : Float
    p = decimal "220640" ⊗ r

    is : p ≡ saturation_pressure 60 x
    is = is-pressure T-bounds q (passed 0) below x (number x) tracks-T s

    tracks-r : Tracks (ratio-bounds T-bounds q) r (of s.ratio)
    tracks-r = tracks-ratio T-bounds q (passed 0) below x (number x) tracks-T s

    tracks-p : Tracks bounds p (exact_saturation s)
    tracks-p = tracks (tracks-r also none) product (passed 2)

    pub near : IsNear 35 (saturation_pressure 60 x) (exact_saturation s)
    near = subst (λ (z : Float). IsNear 35 z (exact_saturation s)) is (near_of 35 p (exact_saturation s) (leb→le (bounds.E * 2 ^ 35) N (passed 3)) tracks-p)

    normal : Normal p
    normal = normal-of p (exact_saturation s) tracks-p (eqb→eq bounds.M 0 (passed 4)) (leb→le (2 ^ 52) bounds.L (passed 5))

    r-positive : T (positive r)
    r-positive = positive_of r (of s.ratio) tracks-r (eqb→eq (ratio-bounds T-bounds q).M 0 (passed 9)) (ltb→lt 0 (ratio-bounds T-bounds q).L (passed 10))

    apart : Apart (2 ^ 41) 1 (over p * s.ratio.under) (220640 * (s.ratio.over * N))
    apart =
        let p-is : Positive p = positive-units p normal.0 tracks-p.double in
        let r-is : Positive r = positive-units r r-positive tracks-r.double in
        let rounded = rounded-near (220640 * num r) (1 * den r) (mul-pos (lit< tt) (den_pos r)) p (product_is r r-positive) normal in
        let w : Sides n r s.ratio = sides-ratio T-bounds q (passed 0) below x (number x) tracks-T s in
        apart_of (2 ^ 41) 1 (over p * s.ratio.under) (220640 * (s.ratio.over * N)) ((2 ^ 53 - 1) * α n) (2 ^ 53 * β n) (2 ^ 53 * γ n) ((2 ^ 53 + 1) * δ n)
        (mul-pos (lit< tt) (mul-pos (lit< tt) (omega arith))) (mul-pos (lit< tt) (mul-pos (lit< tt) (ltb→lt 0 n (passed 6))))
        (chain_above (2 ^ 53 - 1) (2 ^ 53) (over p) 220640 (over r) (α n) (β n) s.ratio.under (s.ratio.over * N) (less (2 ^ 53 - 1) (over p) (2 ^ 53 * (220640 * over r)) (product-below p r p-is r-is (2 ^ 53) 220640 rounded.1)) w.above-part)
        (chain_below (2 ^ 53 + 1) (2 ^ 53) (over p) 220640 (over r) (γ n) (δ n) s.ratio.under (s.ratio.over * N) (product-above p r p-is r-is (2 ^ 53) 220640 rounded.0) w.below-part)
        (leb→le (2 ^ 41 * (2 ^ 53 * β n)) (2 ^ 41 * ((2 ^ 53 - 1) * α n) + 1 * (2 ^ 53 * β n)) (passed 7)) (leb→le (2 ^ 41 * ((2 ^ 53 + 1) * δ n)) (2 ^ 41 * (2 ^ 53 * γ n) + 1 * (2 ^ 53 * γ n)) (passed 8))
      where
        less : (k P B : ℕ) → (k + 1) * P ≤ B + P → k * P ≤ B
        less k P B i = omega (arith, i)

    pub nearly : IsNearly 41 (saturation_pressure 60 x) (exact_saturation s)
    unfolding ◌⊠◌ the
    nearly =
        subst (λ (z : Float). IsNearly 41 z (exact_saturation s)) is
        (nearly-of 41 p (exact_saturation s) normal.0 tracks-p.double tracks-p.some (omega arith) (as_exact_lem (2 ^ 41) (over p) s.ratio.over s.ratio.under apart))
      where
        as_exact_lem : (F o G H : ℕ) → Apart F 1 (o * H) (220640 * (G * N)) → Apart F 1 (o * (1 * H)) ((220640 * G + 0 * 0) * N)
        as_exact_lem F o G H a = subst (λ (B : ℕ). Apart F 1 (o * (1 * H)) B) (omega arith) (subst (λ (A : ℕ). Apart F 1 A (220640 * (G * N))) (omega arith) a)

tested : Every (λ q. T (all (tests q)))
unfolding N above beneath the root root_in span climb size odd of_fields of_bits fits
tested = (tt, tt, tt, tt, tt, tt)

pub saturation-near : (T : Float) → Between (decimal "233.15") (decimal "323.15") T → (s : Saturation (number T)) → IsNear 35 (saturation_pressure places T) (exact_saturation s)
saturation-near T range s = by-kelvin tests tested T (λ q passed below r. near q passed below T r s) range

pub saturation-nearly : (T : Float) → Between (decimal "233.15") (decimal "323.15") T → (s : Saturation (number T)) → IsNearly 41 (saturation_pressure places T) (exact_saturation s)
saturation-nearly T range s = by-kelvin tests tested T (λ q passed below r. nearly q passed below T r s) range
