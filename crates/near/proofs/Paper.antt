-- The decimals that are printed of a figure are near the exact number, and the trim class is that of the exact density where no limit is near it. Assumes nothing.
use Rattle.near.proofs.Kit.{◌≡◌, refl, ap, ap₂, ◌∙◌, Bool, true, false, cond, List, [], ◌∷◌, ℕ, ◌+◌, ◌*◌, ◌/◌, ◌^◌, ◌≤◌, ◌<◌, le_trans, le_of_eq, mul-le-mul_right, le_of_mul-le-mul_right, div-mul-le_self, lt-div-mul-add, arith, T, pow_pos, Float, nan, inf, fin, binary64, fits, odd, of_fields, of_bits, finite, units_of, above, beneath, over, under, Outcome, accepted, ◌⟫◌, Figures, Exact, ◌⊞◌, opposite, number, IsNear, N, N_pos, number_is, InScope, kelvin, pascal, vapour, Readings, Saturation, exact_density, judged, resolved}
use Rattle.decimals.specs.Decimal.{nearest_count, decimal_text}
use Rattle.trim.specs.Classes.{class_densities, count_at_or_below, trim_class, class_of}
use Rattle.exact.proofs.SameSide.{same-side}
use Rattle.near.specs.Paper.{exact_count, FarFromEach, IsPrinted}
use Rattle.near.proofs.Records.{record_density-fits, record_density-near}

-- ---- over natural numbers: p - m units of 1 / S are printed of o - w units of 1 / N, which are near (P - Q) / K
module _ (S K F : ℕ) where
  printed : (p m o w P Q : ℕ) → p * (2 * N) + 2 * w * S ≤ 2 * o * S + m * (2 * N) + N → o * K * F + Q * N * F ≤ w * K * F + P * N * F + N * K → (p * K + Q * S) * (2 * S * F) ≤ (m * K + P * S) * (2 * S * F) + S * K * (F + 2 * S)
  printed p m o w P Q half near =
      let sum : 2 * p * K * F + 2 * S * Q * F ≤ 2 * m * K * F + 2 * S * P * F + K * F + 2 * S * K =
      le_of_mul-le-mul_right {k = N}
      (le_trans (le_of_eq (omega arith)) (le_trans (linear (p * (2 * N) * (K * F)) (2 * w * S * (K * F)) (2 * o * S * (K * F)) (m * (2 * N) * (K * F)) (N * (K * F)) (Q * N * F * (2 * S)) (P * N * F * (2 * S)) (N * K * (2 * S))
      (le_trans (le_of_eq (omega arith)) (le_trans (mul-le-mul_right (K * F) half) (le_of_eq (omega arith)))) (le_trans (le_of_eq (omega arith)) (le_trans (mul-le-mul_right (2 * S) near) (le_of_eq (omega arith))))) (le_of_eq (omega arith)))) N_pos in
      le_trans (le_of_eq (omega arith)) (le_trans (mul-le-mul_right S sum) (le_of_eq (omega arith)))
    where
      linear : (a b c d e f g h : ℕ) → a + b ≤ c + d + e → c + f ≤ b + g + h → a + f ≤ d + g + e + h
      linear a b c d e f g h i j = omega (arith, i, j)

  in_units : (a b u o w P Q : ℕ) → 0 < u → a * N ≡ o * u → b * N ≡ w * u → (a * K + Q * u) * F ≤ (b * K + P * u) * F + u * K → o * K * F + Q * N * F ≤ w * K * F + P * N * F + N * K
  in_units a b u o w P Q u₀ e f h = le_of_mul-le-mul_right {k = u} (le_trans (le_of_eq (omega (arith, ap (λ (x : ℕ). x * (K * F)) e))) (le_trans (mul-le-mul_right N h) (le_of_eq (omega (arith, ap (λ (x : ℕ). x * (K * F)) f))))) u₀

-- ---- the nearest count
halves : (U S h : ℕ) → 0 < h → let n = (2 * (U * S) + h) / (2 * h) in (n * (2 * h) + 2 * 0 * S ≤ 2 * U * S + 0 * (2 * h) + h) × (0 * (2 * h) + 2 * U * S ≤ 2 * 0 * S + n * (2 * h) + h)
halves U S h h₀ = (omega (arith, div-mul-le_self (2 * (U * S) + h) (2 * h)), omega (arith, lt-div-mul-add {a = 2 * (U * S) + h} {b = 2 * h} (omega (arith, h₀))))

nearest : (U S : ℕ) → let n = nearest_count U S in (n * (2 * N) + 2 * 0 * S ≤ 2 * U * S + 0 * (2 * N) + N) × (0 * (2 * N) + 2 * U * S ≤ 2 * 0 * S + n * (2 * N) + N)
unfolding nearest_count N
nearest U S = halves U S (2 ^ 1074) (pow_pos 1074)

pub printed-near : (j k : ℕ) (x : Float) (X : Exact) → T (fits binary64 x) → IsNear k x X → IsPrinted j k (decimal_text j x) X
unfolding decimal_text ◌⊞◌ opposite above beneath
printed-near j k nan X f near = absurd near.is_finite
printed-near j k (inf s) X f near = absurd near.is_finite
printed-near j k (fin false m e) X f near =
    let x = fin false m e in
    let n = number_is x tt f in
    let c = nearest (units_of x) (10 ^ j) in
    record {
      negative = false;
      n = nearest_count (units_of x) (10 ^ j);
      is_text = refl;
      not_above = printed (10 ^ j) X.under (2 ^ k) _ 0 (over x) (under x) X.plus X.minus c.0 (in_units (10 ^ j) X.under (2 ^ k) (number x).plus (number x).minus (number x).under (over x) (under x) X.plus X.minus n.0 n.1 n.2 near.not_above);
      not_below = printed (10 ^ j) X.under (2 ^ k) 0 _ (under x) (over x) X.minus X.plus c.1 (in_units (10 ^ j) X.under (2 ^ k) (number x).minus (number x).plus (number x).under (under x) (over x) X.minus X.plus n.0 n.2 n.1 near.not_below);
    }
printed-near j k (fin true m e) X f near =
    let x = fin true m e in
    let n = number_is x tt f in
    let c = nearest (units_of x) (10 ^ j) in
    record {
      negative = true;
      n = nearest_count (units_of x) (10 ^ j);
      is_text = refl;
      not_above = printed (10 ^ j) X.under (2 ^ k) 0 _ (over x) (under x) X.plus X.minus c.1 (in_units (10 ^ j) X.under (2 ^ k) (number x).plus (number x).minus (number x).under (over x) (under x) X.plus X.minus n.0 n.1 n.2 near.not_above);
      not_below = printed (10 ^ j) X.under (2 ^ k) _ 0 (under x) (over x) X.minus X.plus c.0 (in_units (10 ^ j) X.under (2 ^ k) (number x).minus (number x).plus (number x).under (under x) (over x) X.minus X.plus n.0 n.2 n.1 near.not_below);
    }

-- ---- the limits that are at or below
abbrev Doubles : List Float → Type 0
Doubles [] = Unit {0}
Doubles (c ∷ l) = (T (finite c) × T (fits binary64 c)) × Doubles l

counted : (k : ℕ) (d : Float) (X : Exact) → IsNear k d X → T (fits binary64 d) → (l : List Float) → Doubles l → FarFromEach k X l → count_at_or_below l d ≡ exact_count l X
unfolding count_at_or_below
counted k d X near f [] doubles far = refl
counted k d X near f (c ∷ l) doubles far = ap₂ (λ (b : Bool) (m : ℕ). cond b 1 0 + m) (same-side k d c X near f doubles.0.0 doubles.0.1 far.0) (counted k d X near f l doubles.1 far.1)

limits : Doubles class_densities
unfolding class_densities odd of_fields of_bits fits
limits = ((tt, tt), ((tt, tt), ((tt, tt), ((tt, tt), ((tt, tt), ((tt, tt), tt))))))

pub class-near : (r : Readings) (f : Figures) → judged r ≡ accepted f → let t = f.temperature_c in let p = f.pressure_hpa in let h = (resolved r).humidity_percent in InScope t p h → (s : Saturation (kelvin t))
    → let ρ = exact_density (pascal p) (kelvin t) (vapour t p h s) in FarFromEach 45 ρ class_densities → class_of r ≡ accepted (exact_count class_densities ρ)
unfolding class_of trim_class
class-near r f e range s far = ap (λ (o : Outcome Figures). o ⟫ (λ g. accepted (trim_class g.density_kg_m3))) e ∙ ap accepted (counted 45 f.density_kg_m3 _ (record_density-near r f e range s) (record_density-fits r f e) class_densities limits far)
