-- How far exp lies from the true value, from 20 to 60 places: the floors of x * 2 ^ p and of its product with 1 / ln 2 come to less than three units.
-- Assumes nothing.
use Rattle.exact.proofs.Kit.{◌≡◌, refl, sym, ap, ◌∙◌, subst, Bool, true, false, not, ◌||◌, cond, ℕ, suc, ◌+◌, ◌-◌, ◌*◌, ◌/◌, ◌^◌, ◌≤◌, ◌<◌, le_trans, le_of_eq, lt_of_lt_of_le, mul-pos, mul-one, mul-le-mul_left, mul-le-mul_right, le_of_mul-le-mul_right, div-mul-le_self, lt-div-mul-add, suc-mul, div-lt_iff_lt-mul, le_of_lt, one-le-pow, arith, ℤ, pos, ◌*ℤ◌, T, ltb, nltb→le, lit<, pow_pos, pow_mono, Float, nan, inf, fin, binary64, up, down, minus, lt, eq, le, neg, of_bits, fits, down_pos, num, den, finite, first_pos, signed, floor_div, units_of, antilog, log2e, exp_top, exp_bottom, floor_scaled, exp_within, exp, ln2, Fraction, ◌is_at_most◌, Normal, InBounds, raised, raised_by, e_below, e_above, pow-scaled, le-of-powers, units-exact, minus-above, minus-same, minus-times, floor_minus}
use lib.Ieee.{level}
use Rattle.arithmetic.proofs.Differences.{opposite}
use Rattle.exact.proofs.RootsNear.{words-raised, shift, Worded, antilog-within}
use Rattle.exact.proofs.EulerNear.{log2e-word}

-- ---- x = (u - w) / D in units, times K and floored; that times C / B, a factor of less than 2, and floored: a - t * K
module _ (K B C D u w : ℕ) (K₀ : 0 < K) (B₀ : 0 < B) (D₀ : 0 < D) (proper : C ≤ 2 * B) where
  abbrev N : ℕ
  N = u + w * D - w

  abbrev g : ℕ
  g = N / D

  abbrev t : ℕ
  t = w * C

  abbrev O : ℕ
  O = g * C + t * K * B - w * C

  abbrev a : ℕ
  a = O / B

  first : N + w ≡ u + w * D
  first = omega (arith, mul-le-mul_left w D₀)

  second : O + w * C ≡ g * C + t * K * B
  second = omega (arith, mul-le-mul_left (w * C) (mul-pos K₀ B₀))

  floored : floor_div (floor_div (minus u w) D *ℤ pos C) B ≡ minus a (t * K)
  floored =
      ap (λ (z : ℤ). floor_div (z *ℤ pos C) B) (ap (λ (z : ℤ). floor_div z D) (minus-same u w N (w * D) (sym (omega (arith, first)))) ∙ floor_minus N w D D₀)
      ∙ ap (λ (z : ℤ). floor_div z B) (minus-times g w C ∙ minus-same (g * C) (w * C) O (t * K * B) (sym (omega (arith, second))))
      ∙ floor_minus O (t * K) B B₀

  floor_low : a * B * D + w * C ≤ u * C + t * K * B * D
  floor_low =
      let p : g * D * C ≤ N * C = mul-le-mul_right C (div-mul-le_self N D) in
      let q : a * B * D ≤ O * D = mul-le-mul_right D (div-mul-le_self O B) in
      omega (arith, ap (λ (x : ℕ). x * C) first, ap (λ (x : ℕ). x * D) second)

  floor_high : u * C + t * K * B * D ≤ a * B * D + 3 * B * D + w * C
  floor_high =
      let p : suc N * C ≤ (g * D + D) * C = mul-le-mul_right C (lt-div-mul-add D₀) in
      let q : suc O * D ≤ (a * B + B) * D = mul-le-mul_right D (lt-div-mul-add B₀) in
      let r : C * D ≤ 2 * B * D = mul-le-mul_right D proper in
      omega (arith, ap (λ (x : ℕ). x * C) first, ap (λ (x : ℕ). x * D) second, suc-mul N C, suc-mul O D)

  -- times the denominator d of x: U - W is x * d * C
  floors : (d U W : ℕ) → U * K * D ≡ u * C * d → W * K * D ≡ w * C * d → (a * (d * B) + W * K ≤ t * K * (d * B) + U * K) × (t * K * (d * B) + U * K ≤ a * (d * B) + 3 * (d * B) + W * K)
  floors d U W over under = (le_of_mul-le-mul_right {k = D} (omega (arith, mul-le-mul_right d floor_low)) D₀, le_of_mul-le-mul_right {k = D} (omega (arith, mul-le-mul_right d floor_high)) D₀)

-- ---- A / Z to the power B lies between powers of two; a - t * K is the word of A / Z to the power m / d
worded : (K B d a t j m A Z α β γ δ : ℕ) → 0 < B → Z ^ B * 2 ^ α ≤ A ^ B * 2 ^ β → A ^ B * 2 ^ γ ≤ Z ^ B * 2 ^ δ
    → a * d * B + β * m * K ≤ (t * K * d + j * d) * B + α * m * K → t * K * d * B + δ * m * K ≤ (a * d + j * d) * B + γ * m * K → Worded K d j t a (A ^ m) (Z ^ m)
worded K B d a t j m A Z α β γ δ B₀ least most low high =
    let P : ℕ = (A ^ m) ^ K in
    let Q : ℕ = (Z ^ m) ^ K in
    let raise : (x y c f : ℕ) → y ^ B * 2 ^ c ≤ x ^ B * 2 ^ f → ((y ^ m) ^ K) ^ B * 2 ^ (c * m * K) ≤ ((x ^ m) ^ K) ^ B * 2 ^ (f * m * K) = λ x y c f h. words-raised B K (c * m) (f * m) (x ^ m) (y ^ m) (words-raised B m c f x y h) in
    record {
      low =
          le-of-powers (Q * 2 ^ (a * d)) (P * 2 ^ (t * K * d + j * d)) B B₀
          (rw (pow-scaled Q (a * d) B, pow-scaled P (t * K * d + j * d) B) (shift (P ^ B) (Q ^ B) (α * m * K) (β * m * K) (a * d * B) ((t * K * d + j * d) * B) (raise A Z α β least) low));
      high =
          le-of-powers (P * 2 ^ (t * K * d)) (Q * 2 ^ (a * d + j * d)) B B₀
          (rw (pow-scaled P (t * K * d) B, pow-scaled Q (a * d + j * d) B) (shift (Q ^ B) (P ^ B) (γ * m * K) (δ * m * K) (t * K * d * B) ((a * d + j * d) * B) (raise Z A γ δ most) high));
    }

-- ---- by the sign of x: the number n, or its opposite, as a difference
plus : Bool → ℕ → ℕ
plus s n = cond s 0 n

less : Bool → ℕ → ℕ
less s n = cond s n 0

signed-minus : (s : Bool) (n : ℕ) → signed s n ≡ minus (plus s n) (less s n)
unfolding plus less
signed-minus false n = ap pos (omega arith) ∙ sym (minus-above n 0 (omega arith))
signed-minus true n = opposite n

sides : (n m D d K C : ℕ) → m * D ≡ n * d → (s : Bool) → (plus s (m * C) * K * D ≡ plus s (n * K) * C * d) × (less s (m * C) * K * D ≡ less s (n * K) * C * d)
unfolding plus less
sides n m D d K C e false = (omega (arith, ap (λ (x : ℕ). x * (K * C)) e), omega arith)
sides n m D d K C e true = (omega arith, omega (arith, ap (λ (x : ℕ). x * (K * C)) e))

-- the constant may be 1 / 2^62 too small, which counts m * K / B for x = m / d
sums : (s : Bool) (a t d m q K B C : ℕ) → a * (d * B) + less s (m * C) * K ≤ t * K * (d * B) + plus s (m * C) * K → t * K * (d * B) + plus s (m * C) * K ≤ a * (d * B) + 3 * (d * B) + less s (m * C) * K → m * K ≤ q * (d * B)
    → (a * d * B + less s (C + 1) * m * K ≤ (t * K * d + (3 + q) * d) * B + plus s C * m * K) × (t * K * d * B + plus s (C + 1) * m * K ≤ (a * d + (3 + q) * d) * B + less s C * m * K)
unfolding plus less
sums false a t d m q K B C least most room = (omega arith, omega arith)
sums true a t d m q K B C least most room = (omega arith, omega arith)

module _ (p B C : ℕ) (least : 20 ≤ p) (most : p ≤ 60) (power : B ≡ 2 ^ 62) (constant : C ≡ log2e) (b : Fraction) (under : 0 < b.under) (low : e_below is_at_most b) (high : b is_at_most e_above) where
  over : 0 < b.over
  over = first_pos b.over e_below.under (lt_of_lt_of_le (mul-pos (lit< tt) under) low)

  word : (b.under ^ B * 2 ^ C ≤ b.over ^ B) × (b.over ^ B ≤ b.under ^ B * 2 ^ (C + 1))
  word = log2e-word B C ln2 power constant refl b low high

  numerator : Bool → ℕ
  numerator s = cond s b.under b.over

  denominator : Bool → ℕ
  denominator s = cond s b.over b.under

  words : (s : Bool) → (denominator s ^ B * 2 ^ plus s C ≤ numerator s ^ B * 2 ^ less s (C + 1)) × (numerator s ^ B * 2 ^ less s C ≤ denominator s ^ B * 2 ^ plus s (C + 1))
  unfolding numerator denominator plus less
  words false = (le_trans word.0 (le_of_eq (sym (mul-one (b.over ^ B)))), le_trans (le_of_eq (mul-one (b.over ^ B))) word.1)
  words true = (le_trans (le_of_eq (mul-one (b.over ^ B))) word.1, le_trans word.0 (le_of_eq (sym (mul-one (b.over ^ B)))))

  denominator_pos : (s : Bool) → 0 < denominator s
  unfolding denominator
  denominator_pos false = under
  denominator_pos true = over

  raised_is : (s : Bool) (m : ℕ) → record { over = numerator s ^ m; under = denominator s ^ m } ≡ raised (record { negative = s; magnitude = m }) b
  unfolding numerator denominator
  raised_is false m = refl
  raised_is true m = refl

  antilog-of : Float → Float
  antilog-of x = antilog p (floor_div (floor_scaled p x *ℤ pos C) B)

  exp_within_lem : (s : Bool) (m : ℕ) (e : ℤ) → T (fits binary64 (fin s m e)) → m * up e ≤ 1100 * down e → Normal (antilog-of (fin s m e))
      → InBounds (2 ^ (p - 53) + 6 + num (fin s m e) / (4 * den (fin s m e))) p (antilog-of (fin s m e)) (den (fin s m e)) (raised (record { negative = s; magnitude = num (fin s m e) }) b)
  unfolding antilog-of
  exp_within_lem s m e double small normal =
      let x : Float = fin s m e in
      let K : ℕ = 2 ^ p in
      let D : ℕ = 2 ^ 1074 in
      let n : ℕ = num x in
      let d : ℕ = den x in
      let f : ℕ = n / (4 * d) in
      let u : ℕ = plus s (units_of x * K) in
      let w : ℕ = less s (units_of x * K) in
      let K₀ : 0 < K = pow_pos p in
      let B₀ : 0 < B = omega arith in
      let D₀ : 0 < D = pow_pos 1074 in
      let d₀ : 0 < d = down_pos e in
      let four : 4 * K ≤ B = omega (arith, pow_mono {j = 60} most) in
      let proper : C ≤ 2 * B = omega arith in
      let few : f < 276 = (div-lt_iff_lt-mul (mul-pos (lit< tt) d₀)).1 (omega arith) in
      let above : n ≤ f * (4 * d) + 4 * d = le_of_lt (lt-div-mul-add (mul-pos (lit< tt) d₀)) in
      let room : n * K ≤ (f + 1) * (d * B) = le_trans (mul-le-mul_right K above) (le_trans (le_of_eq (omega arith)) (le_trans (mul-le-mul_left ((f + 1) * d) four) (le_of_eq (omega arith)))) in
      let both = sides (units_of x) n D d K C (units-exact s m e double) s in
      let floor = floors K B C D u w K₀ B₀ D₀ proper d (plus s (n * C)) (less s (n * C)) both.0 both.1 in
      let T : ℕ = t K B C D u w K₀ B₀ D₀ proper in
      let A : ℕ = a K B C D u w K₀ B₀ D₀ proper in
      let sum = sums s A T d n (f + 1) K B C floor.0 floor.1 room in
      let is : antilog p (floor_div (floor_scaled p x *ℤ pos C) B) ≡ antilog p (minus A (T * K)) = ap (antilog p) (ap (λ (z : ℤ). floor_div (floor_div z D *ℤ pos C) B) (signed-minus s (units_of x * K)) ∙ floored K B C D u w K₀ B₀ D₀ proper) in
      let units : 2 ^ (p - 53) + (2 + (3 + (f + 1))) ≡ 2 ^ (p - 53) + 6 + f = omega arith in
      subst (λ (c : ℕ). InBounds c p (antilog p (floor_div (floor_scaled p x *ℤ pos C) B)) d (raised (record { negative = s; magnitude = n }) b)) units
      (subst (λ (y : Fraction). InBounds (2 ^ (p - 53) + (2 + (3 + (f + 1)))) p (antilog p (floor_div (floor_scaled p x *ℤ pos C) B)) d y) (raised_is s n)
      (antilog-within p (3 + (f + 1)) least most (omega arith) (omega arith) d T A (numerator s ^ n) (denominator s ^ n) d₀ (one-le-pow n (denominator s) (denominator_pos s))
      (worded K B d A T (3 + (f + 1)) n (numerator s) (denominator s) (plus s C) (less s (C + 1)) (less s C) (plus s (C + 1)) B₀ (words s).0 (words s).1 sum.0 sum.1)
      (antilog p (floor_div (floor_scaled p x *ℤ pos C) B)) is normal))

-- ---- a normal answer is no infinity and no zero, so x lies between -1,100 and 1,024
record Inner (large small : Bool) (answer r : Float) : Type 0 where
  same : answer ≡ r
  not_large : T (not large)
  not_small : T (not small)

inner : (large small : Bool) (r : Float) → Normal (cond large (inf false) (cond small (fin false 0 (pos 0)) r)) → Inner large small (cond large (inf false) (cond small (fin false 0 (pos 0)) r)) r
inner true small r normal = absurd normal.0
inner false true r normal = absurd normal.0
inner false false r normal = record { same = refl; not_large = tt; not_small = tt }

or_first : (a b : Bool) → T (not (a || b)) → T (not a)
or_first true b t = elim t [ ]
or_first false b t = tt

within_1100 : (s : Bool) (m : ℕ) (e : ℤ) → T (not (le exp_top (fin s m e))) → T (not (le (fin s m e) exp_bottom)) → m * up e ≤ 1100 * down e
unfolding le lt eq neg of_bits
within_1100 false m e below above =
    let h : m * up e * 1 ≤ 1024 * down e = nltb→le (1024 * down e) (m * up e * 1) (or_first (ltb (1024 * down e) (m * up e * 1)) (level false (1024 * down e) false (m * up e * 1)) below) in
    omega arith
within_1100 true m e below above =
    let h : m * up e * 1 ≤ 1100 * down e = nltb→le (1100 * down e) (m * up e * 1) (or_first (ltb (1100 * down e) (m * up e * 1)) (level true (m * up e * 1) true (1100 * down e)) above) in
    omega arith

-- For each b between the two decimals, and so for e, and each finite x whose answer is a normal double: b ^ x is the answer but for half a unit in its
-- last place and 6 units of 2 ^ -places, and one more for each four whole units of x.
abbrev pub ExpNear : ℕ → Type 0
ExpNear places =
    (b : Fraction) → 0 < b.under → e_below is_at_most b → b is_at_most e_above → (x : Float) → T (fits binary64 x) → T (finite x) → Normal (exp places x)
    → InBounds (2 ^ (places - 53) + 6 + num x / (4 * den x)) places (exp places x) (den x) (raised_by x b)

pub exp-near : (p : ℕ) → 20 ≤ p → p ≤ 60 → ExpNear p
unfolding exp antilog-of
exp-near p least most b under low high nan double some normal = absurd some
exp-near p least most b under low high (inf s) double some normal = absurd some
exp-near p least most b under low high (fin s m e) double some normal =
    let x : Float = fin s m e in
    let i : Inner (le exp_top x) (le x exp_bottom) (exp p x) (exp_within p x) = inner (le exp_top x) (le x exp_bottom) (exp_within p x) normal in
    subst (λ (r : Float). InBounds (2 ^ (p - 53) + 6 + num x / (4 * den x)) p r (den x) (raised_by x b)) (sym i.same)
    (exp_within_lem p (2 ^ 62) log2e least most refl refl b under low high s m e double (within_1100 s m e i.not_large i.not_small) (subst Normal i.same normal))
