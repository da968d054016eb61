-- From a word to a double: where a word lies within j units of a number's logarithm, the word's antilog, rounded to a normal double, lies within
-- j + 2 units of 2 ^ -places of that number and half a unit in the double's last place. Assumes nothing.
use Rattle.exact.proofs.Kit.{◌≡◌, sym, ap, ◌∙◌, subst, ℕ, suc, ◌+◌, ◌-◌, ◌*◌, ◌/◌, ◌%◌, ◌^◌, ◌≤◌, ◌<◌, le_trans, le_of_eq, lt_of_lt_of_le, lt_of_le_of_lt, lt_of_not-le, ne_of_gt, add-mul, suc-mul, mul-suc, mul-add, mul_right_comm, mul_comm, mul-pos, mul-le-mul, mul-le-mul_left, mul-le-mul_right, mul-lt-mul_of_pos_right, le_of_mul-le-mul_right, lt_of_mul-lt-mul_right, one-le-pow, pow-le-pow_left, pow-lt-pow_left, mod-lt, div-mul-le_self, le-div_iff_mul-le, lt-div-mul-add, dec_le, arith, pow_pos, pow_mono, pow-add, Float, minus, num, den, den_pos, le-suc, own_value, value_pos, antilog_root, antilog, Normal, InBounds, pow-product, pow-power, pow-scaled, two-each-le-next, lt-of-powers, le-of-powers}
use Rattle.antilog.proofs.Range.{antilog_root-mantissa}
use Rattle.antilog.proofs.OneFraction.{scaled_root, antilog-minus}
use Rattle.elementary.proofs.PowersApart.{root_below, root-above}
use Rattle.exact.proofs.RoundedNear.{rounded-near}

-- ---- powers
pub power-swap : (s E K : ℕ) → (s ^ E) ^ K ≡ (s ^ K) ^ E
power-swap s E K = pow-power s E K ∙ ap (λ (x : ℕ). s ^ x) (mul_comm E K) ∙ sym (pow-power s K E)

three-powers : (a b c k : ℕ) → (a * b * c) ^ k ≡ a ^ k * b ^ k * c ^ k
three-powers a b c k = pow-product (a * b) c k ∙ ap (λ (x : ℕ). x * c ^ k) (pow-product a b k)

-- B ^ K and A ^ K compared by powers of two, for the powers of B and A to the M
pub words-raised : (K M c f A B : ℕ) → B ^ K * 2 ^ c ≤ A ^ K * 2 ^ f → (B ^ M) ^ K * 2 ^ (c * M) ≤ (A ^ M) ^ K * 2 ^ (f * M)
words-raised K M c f A B h = rw (power-swap B M K, power-swap A M K, ← pow-scaled (B ^ K) c M, ← pow-scaled (A ^ K) f M) (pow-le-pow_left h M)

-- 2 ^ j is at most (1 + 1 / n) ^ K, where n * j is at most K
j_fold : (n j K : ℕ) → 0 < n → n * j ≤ K → n ^ K * 2 ^ j ≤ suc n ^ K
j_fold n j K some h =
    let r : ℕ = K - n * j in
    let whole : n * j + r ≡ K = omega arith in
    subst (λ (k : ℕ). n ^ k * 2 ^ j ≤ suc n ^ k) whole
    (le_trans (le_of_eq (ap (λ (x : ℕ). x * 2 ^ j) (pow-add n (n * j) r) ∙ mul_right_comm (n ^ (n * j)) (n ^ r) (2 ^ j)))
    (le_trans (mul-le-mul (two-each-le-next n j some) (pow-le-pow_left (le-suc n) r)) (le_of_eq (sym (pow-add (suc n) (n * j) r)))))

-- ---- three comparisons with powers of two, multiplied
pub shift : (α β e f g h : ℕ) → β * 2 ^ e ≤ α * 2 ^ f → g + f ≤ h + e → β * 2 ^ g ≤ α * 2 ^ h
shift α β e f g h le sum =
    le_of_mul-le-mul_right
    (le_trans (le_of_eq (mul_right_comm β (2 ^ g) (2 ^ e)))
    (le_trans (mul-le-mul_right (2 ^ g) le)
    (le_trans (le_of_eq (product α (2 ^ f) (2 ^ g) ∙ ap (λ (x : ℕ). α * x) (sym (pow-add 2 g f))))
    (le_trans (mul-le-mul_left α (pow_mono sum)) (le_of_eq (ap (λ (x : ℕ). α * x) (pow-add 2 h e) ∙ assoc α (2 ^ h) (2 ^ e))))))) (pow_pos e)
  where
    product : (a b c : ℕ) → a * b * c ≡ a * (c * b)
    product a b c = omega arith

    assoc : (a b c : ℕ) → a * (b * c) ≡ a * b * c
    assoc a b c = omega arith

gather_le : (σ β ν α μ v f g h : ℕ) → 0 < h → σ ≤ v * f → β * f ≤ α * (g * h) → ν * h ≤ μ → σ * β * ν ≤ α * (v * g) * μ
gather_le σ β ν α μ v f g h some a b c =
    let first : σ * (β * (ν * h)) ≤ v * f * (β * μ) = mul-le-mul a (mul-le-mul_left β c) in
    let second : β * f * (v * μ) ≤ α * (g * h) * (v * μ) = mul-le-mul_right (v * μ) b in
    le_of_mul-le-mul_right {k = h} (omega arith) some

gather_lt : (σ β ν α μ v f g h : ℕ) → 0 < h → 0 < β → 0 < μ → v * f < σ → α * g ≤ β * (f * h) → ν * h ≤ μ → α * (v * g) * ν < σ * μ * β
gather_lt σ β ν α μ v f g h some B C a b c =
    let first : v * f * (μ * β) < σ * (μ * β) = mul-lt-mul_of_pos_right a (mul-pos C B) in
    let second : α * g * (v * (ν * h)) ≤ β * (f * h) * (v * μ) = mul-le-mul b (mul-le-mul_left v c) in
    let third : v * f * (μ * β) * h < σ * (μ * β) * h = mul-lt-mul_of_pos_right first some in
    lt_of_mul-lt-mul_right h (omega arith)

-- ---- The number t with t ^ E = G / H, and a word a - t * K that lies within j of K times its logarithm: G / H is compared with powers of two by their
-- powers to the K. S / W and R / W are the antilog's root and the root plus 4, where W is 2 ^ (t + 62).
pub record Worded (K E j t a G H : ℕ) : Type 0 where
  pub low : H ^ K * 2 ^ (a * E) ≤ G ^ K * 2 ^ (t * K * E + j * E)
  pub high : G ^ K * 2 ^ (t * K * E) ≤ H ^ K * 2 ^ (a * E + j * E)

module _ (K E j t a n G H : ℕ) (some : 0 < K) (worded : Worded K E j t a G H) (fold : n ^ K * 2 ^ j ≤ suc n ^ K) where
  scale-power : ((2 ^ (t + 62)) ^ E) ^ K ≡ 2 ^ (62 * K * E) * 2 ^ (t * K * E)
  scale-power =
      let sum : (t + 62) * E * K ≡ 62 * K * E + t * K * E = omega arith in
      ap (λ (x : ℕ). x ^ K) (pow-power 2 (t + 62) E) ∙ pow-power 2 ((t + 62) * E) K ∙ ap (λ (x : ℕ). 2 ^ x) sum ∙ pow-add 2 (62 * K * E) (t * K * E)

  root-power : (2 ^ (62 * K + a)) ^ E ≡ 2 ^ (62 * K * E) * 2 ^ (a * E)
  root-power =
      let sum : (62 * K + a) * E ≡ 62 * K * E + a * E = omega arith in
      pow-power 2 (62 * K + a) E ∙ ap (λ (x : ℕ). 2 ^ x) sum ∙ pow-add 2 (62 * K * E) (a * E)

  folded : (n ^ E) ^ K * 2 ^ (j * E) ≤ (suc n ^ E) ^ K
  folded =
      le_trans (le_of_eq (ap (λ (x : ℕ). x * 2 ^ (j * E)) (power-swap n E K) ∙ sym (pow-scaled (n ^ K) j E)))
      (le_trans (pow-le-pow_left fold E) (le_of_eq (sym (power-swap (suc n) E K))))

  roots-low : (S : ℕ) → S ^ K ≤ 2 ^ (62 * K + a) → S ^ E * H * n ^ E ≤ G * (2 ^ (t + 62)) ^ E * suc n ^ E
  roots-low S below =
      le-of-powers (S ^ E * H * n ^ E) (G * (2 ^ (t + 62)) ^ E * suc n ^ E) K some
      (rw (three-powers (S ^ E) H (n ^ E) K, three-powers G ((2 ^ (t + 62)) ^ E) (suc n ^ E) K, scale-power)
      (gather_le ((S ^ E) ^ K) (H ^ K) ((n ^ E) ^ K) (G ^ K) ((suc n ^ E) ^ K) (2 ^ (62 * K * E)) (2 ^ (a * E)) (2 ^ (t * K * E)) (2 ^ (j * E)) (pow_pos (j * E))
      (le_trans (le_of_eq (power-swap S E K)) (le_trans (pow-le-pow_left below E) (le_of_eq root-power)))
      (subst (λ (x : ℕ). H ^ K * 2 ^ (a * E) ≤ G ^ K * x) (pow-add 2 (t * K * E) (j * E)) worded.low)
      folded))

  roots-high : (R : ℕ) → 0 < E → 0 < H → 2 ^ (62 * K + a) < R ^ K → G * (2 ^ (t + 62)) ^ E * n ^ E < R ^ E * suc n ^ E * H
  roots-high R E₀ H₀ above =
      lt-of-powers (G * (2 ^ (t + 62)) ^ E * n ^ E) (R ^ E * suc n ^ E * H) K
      (rw (three-powers G ((2 ^ (t + 62)) ^ E) (n ^ E) K, three-powers (R ^ E) (suc n ^ E) H K, scale-power)
      (gather_lt ((R ^ E) ^ K) (H ^ K) ((n ^ E) ^ K) (G ^ K) ((suc n ^ E) ^ K) (2 ^ (62 * K * E)) (2 ^ (a * E)) (2 ^ (t * K * E)) (2 ^ (j * E)) (pow_pos (j * E)) (one-le-pow K H H₀) (one-le-pow K (suc n ^ E) (one-le-pow E (suc n) (omega arith)))
      (lt_of_le_of_lt (le_of_eq (sym root-power)) (lt_of_lt_of_le (pow-lt-pow_left above (ne_of_gt E₀)) (le_of_eq (sym (power-swap R E K)))))
      (subst (λ (x : ℕ). G ^ K * 2 ^ (t * K * E) ≤ H ^ K * x) (pow-add 2 (a * E) (j * E)) worded.high)
      folded))

-- ---- from the roots to the double u / v
low_of : (u v S W n E G H : ℕ) → 0 < E → 0 < H → S ^ E * H * n ^ E ≤ G * W ^ E * suc n ^ E → u * suc n * W < S * v * n → u ^ E * H < G * v ^ E
low_of u v S W n E G H E₀ H₀ root near =
    let less : (u * suc n * W) ^ E * H < (S * v * n) ^ E * H = mul-lt-mul_of_pos_right (pow-lt-pow_left near (ne_of_gt E₀)) H₀ in
    let parts : u ^ E * suc n ^ E * W ^ E * H < S ^ E * v ^ E * n ^ E * H = rw (three-powers u (suc n) W E, three-powers S v n E) at less in
    let times : S ^ E * H * n ^ E * v ^ E ≤ G * W ^ E * suc n ^ E * v ^ E = mul-le-mul_right (v ^ E) root in
    lt_of_mul-lt-mul_right (suc n ^ E * W ^ E) (omega arith)

high-of : (u v R W n E G H : ℕ) → 0 < v → G * W ^ E * n ^ E < R ^ E * suc n ^ E * H → R * suc n * v ≤ u * n * W → G * v ^ E < u ^ E * H
high-of u v R W n E G H v₀ root near =
    let less : (R * suc n * v) ^ E * H ≤ (u * n * W) ^ E * H = mul-le-mul_right H (pow-le-pow_left near E) in
    let parts : R ^ E * suc n ^ E * v ^ E * H ≤ u ^ E * n ^ E * W ^ E * H = rw (three-powers R (suc n) v E, three-powers u n W E) at less in
    let times : G * W ^ E * n ^ E * v ^ E < R ^ E * suc n ^ E * H * v ^ E = mul-lt-mul_of_pos_right root (one-le-pow E v v₀) in
    lt_of_mul-lt-mul_right (n ^ E * W ^ E) (omega arith)

-- ---- the units: r for the rounding, j for the word, one for the root's four and one for all products of these together
-- one part in 2^53 is at most r units
units_of-rounding : (K r X Y Z : ℕ) → K ≤ r * 2 ^ 53 → 2 ^ 53 * X ≤ 2 ^ 53 * Y + Z → K * X ≤ K * Y + r * Z
units_of-rounding K r X Y Z most h = go (dec_le X Y)
  where
    go : Dec (X ≤ Y) → K * X ≤ K * Y + r * Z
    go (yes g) = omega (arith, mul-le-mul_left K g)
    go (no g) =
        let D : ℕ = X - Y in
        let sum : K * X ≡ K * Y + K * D = ap (λ (x : ℕ). K * x) (omega (arith, lt_of_not-le g)) ∙ mul-add K Y D in
        let part : r * (2 ^ 53 * D) ≤ r * Z = mul-le-mul_left r (omega (arith, lt_of_not-le g)) in
        omega (arith, mul-le-mul_right D most)

units-low : (K n j r X Y : ℕ) → 0 < X → K < suc n * j → r + (2 + j) ≤ K → K * X ≤ K * Y + r * X → (K - (r + (2 + j))) * suc n * X < n * K * Y
units-low K n j r X Y some next room near =
    let κ : ℕ = K - (r + (2 + j)) in
    let parts : K * X ≡ κ * X + (r + (2 + j)) * X = ap (λ (k : ℕ). k * X) (omega arith) ∙ add-mul κ (r + (2 + j)) X in
    let first : κ * suc n < (κ + (j + 2)) * n = omega (arith, mul-suc κ n, suc-mul n j) in
    let second : (κ + (j + 2)) * X * n ≤ K * Y * n = mul-le-mul_right n (omega arith) in
    let third : κ * suc n * X < (κ + (j + 2)) * n * X = mul-lt-mul_of_pos_right first some in
    omega arith

units_poly : (K n j r : ℕ) → K < suc n * j → j ≤ 300 → r ≤ 128 → 1000 ≤ n → 2 ^ 20 ≤ K → (K + r) * (K + 1) * suc n ≤ (K + (r + (2 + j))) * K * n
units_poly K n j r next few half many large =
    let square : K * suc K ≤ K * (suc n * j) = mul-le-mul_left K next in
    let f : j * K ≤ 300 * K = mul-le-mul_right K few in
    let g : K * 1000 ≤ K * n = mul-le-mul_left K many in
    let h : 2 ^ 20 * n ≤ K * n = mul-le-mul_right n large in
    let k : r * K ≤ 128 * K = mul-le-mul_right K half in
    let l : r * n ≤ 128 * n = mul-le-mul_right n half in
    let next : suc n ≡ n + 1 = omega arith in
    rw next (omega (arith, mul-suc K K, ap (λ (x : ℕ). K * x) (suc-mul n j)))

units-high : (K l k q n c d m R S W : ℕ) → 0 < K → R * K ≤ S * l → K * (S * d) ≤ k * (m * W) → k * l * q ≤ c * K * n → R * q * (d * K) ≤ m * c * n * W
units-high K l k q n c d m R S W some roots near poly =
    let first : R * K * (q * d * K) ≤ S * l * (q * d * K) = mul-le-mul_right (q * d * K) roots in
    let second : K * (S * d) * (l * q) ≤ k * (m * W) * (l * q) = mul-le-mul_right (l * q) near in
    let third : k * l * q * (m * W) ≤ c * K * n * (m * W) = mul-le-mul_right (m * W) poly in
    le_of_mul-le-mul_right {k = K} (omega arith) some

-- ---- the antilog of a word
module _ (p j : ℕ) (least : 20 ≤ p) (most : p ≤ 60) (some : 0 < j) (few : j ≤ 300) where
  abbrev K : ℕ
  K = 2 ^ p

  abbrev n : ℕ
  n = K / j

  large : 2 ^ 20 ≤ K
  large = pow_mono {i = 20} least

  many : 1000 ≤ n
  many = (le-div_iff_mul-le some).1 (omega (arith, large))

  -- half a unit in a double's last place
  abbrev r : ℕ
  r = 2 ^ (p - 53)

  half : r ≤ 128
  half = pow_mono {j = 7} (omega arith)

  rounding : K ≤ r * 2 ^ 53
  rounding = le_trans (pow_mono {i = p} {j = p - 53 + 53} (omega arith)) (le_of_eq (pow-add 2 (p - 53) 53))

  next : K < suc n * j
  next = lt_of_lt_of_le (lt-div-mul-add some) (le_of_eq (omega (arith, suc-mul n j)))

  -- four units of 2^62 are one of 2 ^ p at most
  roots : (a : ℕ) → (antilog_root p (a % K) + 4) * 2 ^ (a / K) * K ≤ scaled_root p a * (K + 1)
  roots a =
      let Y : ℕ = antilog_root p (a % K) in
      let W : ℕ = 2 ^ (a / K) in
      let four : 4 * K ≤ Y = le_trans (omega (arith, pow_mono {j = 60} most)) (antilog_root-mantissa p (a % K) (mod-lt a (pow_pos p))).low in
      let times : 4 * K * W ≤ Y * W = mul-le-mul_right W four in
      omega arith

  pub antilog-within : (E t a G H : ℕ) → 0 < E → 0 < H → Worded K E j t a G H → (z : Float) → z ≡ antilog p (minus a (t * K)) → Normal z → InBounds (r + (2 + j)) p z E (record { over = G; under = H })
  antilog-within E t a G H E₀ H₀ worded z is normal =
      let W : ℕ = 2 ^ (t + 62) in
      let S : ℕ = scaled_root p a in
      let R : ℕ = (antilog_root p (a % K) + 4) * 2 ^ (a / K) in
      let m : ℕ = num z in
      let d : ℕ = den z in
      let K₀ : 0 < K = pow_pos p in
      let m₀ : 0 < m = value_pos z m d normal.0 (den_pos z) (own_value z normal.0) in
      let fold : n ^ K * 2 ^ j ≤ suc n ^ K = j_fold n j K (omega (arith, many)) (div-mul-le_self K j) in
      let near = rounded-near S W (pow_pos (t + 62)) z (is ∙ antilog-minus p a t) normal in
      let low : K * (m * W) ≤ K * (S * d) + r * (m * W) = units_of-rounding K r (m * W) (S * d) (m * W) rounding near.1 in
      let high : K * (S * d) ≤ K * (m * W) + r * (m * W) = units_of-rounding K r (S * d) (m * W) (m * W) rounding near.0 in
      record {
        low =
            low_of (m * (K - (r + (2 + j)))) (d * K) S W n E G H E₀ H₀ (roots-low K E j t a n G H K₀ worded fold S (root_below p a))
            (lt_of_le_of_lt (le_of_eq (omega arith)) (lt_of_lt_of_le (units-low K n j r (m * W) (S * d) (mul-pos m₀ (pow_pos (t + 62))) next (omega (arith, large, half)) low) (le_of_eq (omega arith))));
        high =
            high-of (m * (K + (r + (2 + j)))) (d * K) R W n E G H (mul-pos (den_pos z) K₀) (roots-high K E j t a n G H K₀ worded fold R E₀ H₀ (root-above p a))
            (units-high K (K + 1) (K + r) (suc n) n (K + (r + (2 + j))) d m R S W K₀ (roots a) (le_trans high (le_of_eq (sym (add-mul K r (m * W))))) (units_poly K n j r next few half many large));
      }
