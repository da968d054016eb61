-- Errors that are parts of a number, and what half powers and powers of a b between 1 and 3 make of them, over natural numbers. Assumes nothing.
use Rattle.exact.proofs.Kit.{◌≡◌, sym, ap, ◌∙◌, ℕ, ◌+◌, ◌-◌, ◌*◌, ◌^◌, ◌≤◌, ◌<◌, lt_of_le_of_lt, le_trans, le_of_eq, lt_of_lt_of_le, mul-pos, mul-le-mul_right, mul-le-mul_left, mul_comm, le_of_mul-le-mul_right, lt_of_mul-lt-mul_right, mul-lt-mul_of_pos_right, one-le-pow, pow-le-pow_left, add-one, arith, pow-add, pow-product, pow-power, lt-of-powers, le-of-powers, far_one}

-- ---- a number A and a number B, each at most a part D / F of A from the other
pub record Apart (F D A B : ℕ) : Type 0 where
  pub not_above : F * A ≤ F * B + D * A
  pub not_below : F * B ≤ F * A + D * A

pub apart_of : (F D A B α β γ δ : ℕ) → 0 < β → 0 < γ → α * A ≤ β * B → γ * B ≤ δ * A → F * β ≤ F * α + D * β → F * δ ≤ F * γ + D * γ → Apart F D A B
apart_of F D A B α β γ δ β₀ γ₀ h l i j =
    record {
      not_above = le_of_mul-le-mul_right {k = β} (omega (arith, mul-le-mul_right A i, mul-le-mul_left F h)) β₀;
      not_below = le_of_mul-le-mul_right {k = γ} (omega (arith, mul-le-mul_right A j, mul-le-mul_left F l)) γ₀;
    }

-- in units: A is R * H, and E is a part D / F of the most that R is
pub apart-units : (F D R H B E most : ℕ) → 0 < F → R ≤ most → D * most ≤ E * F → Apart F D (R * H) B → (R * H ≤ B + E * H) × (B ≤ R * H + E * H)
apart-units F D R H B E most F₀ top fine a =
    let part : D * (R * H) ≤ E * F * H = le_trans (le_of_eq (omega arith)) (le_trans (mul-le-mul_right H (mul-le-mul_left D top)) (mul-le-mul_right H fine)) in
    (le_of_mul-le-mul_right {k = F} (omega (arith, part, a.not_above)) F₀, le_of_mul-le-mul_right {k = F} (omega (arith, part, a.not_below)) F₀)

-- ---- half powers
-- one power is below another where their roots are
pub unraised : (a b c d i j k l m : ℕ) → a ^ (i * m) * b ^ (j * m) < c ^ (k * m) * d ^ (l * m) → a ^ i * b ^ j < c ^ k * d ^ l
unraised a b c d i j k l m h = lt-of-powers (a ^ i * b ^ j) (c ^ k * d ^ l) m (rw (pow-product (a ^ i) (b ^ j) m, pow-power a i m, pow-power b j m, pow-product (c ^ k) (d ^ l) m, pow-power c k m, pow-power d l m) h)

-- R / N is u / v, and X / N is n / d
module _ (u v R n d X N j : ℕ) (N₀ : 0 < N) (r-is : u * N ≡ R * v) (x-is : n * N ≡ X * d) (k K : ℕ) where
  abbrev scale : ℕ
  scale = N ^ 2 * N ^ j

  some : 0 < scale
  some = mul-pos (one-le-pow 2 N N₀) (one-le-pow j N N₀)

  left : (u * k) ^ 2 * d ^ j * scale ≡ (R * k) ^ 2 * N ^ j * (v ^ 2 * d ^ j)
  left = rw (pow-product u k 2, pow-product R k 2) (go (u ^ 2) (k ^ 2) (d ^ j) (N ^ 2) (N ^ j) (R ^ 2) (v ^ 2) (sym (pow-product u N 2) ∙ ap (λ (x : ℕ). x ^ 2) r-is ∙ pow-product R v 2))
    where
      go : (u k d N Nj R v : ℕ) → u * N ≡ R * v → u * k * d * (N * Nj) ≡ R * k * Nj * (v * d)
      go u k d N Nj R v e = omega (arith, ap (λ (x : ℕ). x * (k * d * Nj)) e)

  right : n ^ j * (v * K) ^ 2 * scale ≡ X ^ j * (N * K) ^ 2 * (v ^ 2 * d ^ j)
  right = rw (pow-product v K 2, pow-product N K 2) (go (n ^ j) (v ^ 2) (K ^ 2) (N ^ 2) (N ^ j) (X ^ j) (d ^ j) (sym (pow-product n N j) ∙ ap (λ (x : ℕ). x ^ j) x-is ∙ pow-product X d j))
    where
      go : (n v K N Nj X d : ℕ) → n * Nj ≡ X * d → n * (v * K) * (N * Nj) ≡ X * (N * K) * (v * d)
      go n v K N Nj X d e = omega (arith, ap (λ (x : ℕ). x * (v * K * N)) e)

  pub units-above : (u * k) ^ 2 * d ^ j < n ^ j * (v * K) ^ 2 → (R * k) ^ 2 * N ^ j < X ^ j * (N * K) ^ 2
  units-above h = lt_of_mul-lt-mul_right (v ^ 2 * d ^ j) (rw (← left, ← right) (mul-lt-mul_of_pos_right h some))

  pub units-below : n ^ j * (v * K) ^ 2 < (u * k) ^ 2 * d ^ j → X ^ j * (N * K) ^ 2 < (R * k) ^ 2 * N ^ j
  units-below h = lt_of_mul-lt-mul_right (v ^ 2 * d ^ j) (rw (← left, ← right) (mul-lt-mul_of_pos_right h some))

-- A / B is below (X / N) ^ (j / 2), and X / N at most (g / h)^2 * W₁ / W; W₁ / W to the j is at most the square of Z / Y. So A / B is below (g / h)^j * Z / Y. The same above.
swap : (s W j : ℕ) → (s ^ 2 * W) ^ j ≡ (s ^ j) ^ 2 * W ^ j
swap s W j = pow-product (s ^ 2) W j ∙ ap (λ (x : ℕ). x * W ^ j) (pow-power s 2 j ∙ ap (λ (x : ℕ). s ^ x) (mul_comm 2 j) ∙ sym (pow-power s j 2))

squared : (a b c : ℕ) → (a * b * c) ^ 2 ≡ a ^ 2 * b ^ 2 * c ^ 2
squared a b c = pow-product (a * b) c 2 ∙ ap (λ (x : ℕ). x * c ^ 2) (pow-product a b 2)

module _ (A B X N g h W W₁ Y Z j : ℕ) (h₀ : 0 < h) (W₀ : 0 < W) (W₁₀ : 0 < W₁) (Y₀ : 0 < Y) (fine : W₁ ^ j * Y ^ 2 ≤ W ^ j * Z ^ 2) where
  weight : (U : ℕ) → 0 < U → 0 < (h ^ j) ^ 2 * U ^ j * Y ^ 2
  weight U U₀ = mul-pos (mul-pos (one-le-pow 2 (h ^ j) (one-le-pow j h h₀)) (one-le-pow j U U₀)) (one-le-pow 2 Y Y₀)

  pub root-above : X * (h ^ 2 * W) ≤ g ^ 2 * W₁ * N → A ^ 2 * N ^ j < X ^ j * B ^ 2 → A * h ^ j * Y < g ^ j * B * Z
  root-above order less =
      let powers : X ^ j * ((h ^ j) ^ 2 * W ^ j) ≤ (g ^ j) ^ 2 * W₁ ^ j * N ^ j = rw (← swap h W j, ← swap g W₁ j, ← pow-product X (h ^ 2 * W) j, ← pow-product (g ^ 2 * W₁) N j) (pow-le-pow_left order j) in
      lt-of-powers (A * h ^ j * Y) (g ^ j * B * Z) 2 (rw (squared A (h ^ j) Y, squared (g ^ j) B Z) (lt_of_mul-lt-mul_right (W ^ j * N ^ j) (go (A ^ 2) (N ^ j) (X ^ j) (B ^ 2) ((h ^ j) ^ 2) (W ^ j) (Y ^ 2) ((g ^ j) ^ 2) (W₁ ^ j) (Z ^ 2) (weight W W₀) less powers fine)))
    where
      go : (A N X B H W Y G W₁ Z : ℕ) → 0 < H * W * Y → A * N < X * B → X * (H * W) ≤ G * W₁ * N → W₁ * Y ≤ W * Z → A * H * Y * (W * N) < G * B * Z * (W * N)
      go A N X B H W Y G W₁ Z p l i f =
          lt_of_le_of_lt (le_of_eq (omega arith))
          (lt_of_lt_of_le (mul-lt-mul_of_pos_right l p) (le_trans (le_of_eq (omega arith)) (le_trans (mul-le-mul_right (B * Y) i) (le_trans (le_of_eq (omega arith)) (le_trans (mul-le-mul_right (G * N * B) f) (le_of_eq (omega arith)))))))

  pub root_below : g ^ 2 * W * N ≤ X * (h ^ 2 * W₁) → X ^ j * B ^ 2 < A ^ 2 * N ^ j → g ^ j * B * Y < A * h ^ j * Z
  root_below order less =
      let powers : (g ^ j) ^ 2 * W ^ j * N ^ j ≤ X ^ j * ((h ^ j) ^ 2 * W₁ ^ j) = rw (← swap h W₁ j, ← swap g W j, ← pow-product X (h ^ 2 * W₁) j, ← pow-product (g ^ 2 * W) N j) (pow-le-pow_left order j) in
      lt-of-powers (g ^ j * B * Y) (A * h ^ j * Z) 2 (rw (squared A (h ^ j) Z, squared (g ^ j) B Y) (lt_of_mul-lt-mul_right (W ^ j * N ^ j) (go (A ^ 2) (N ^ j) (X ^ j) (B ^ 2) ((h ^ j) ^ 2) (W ^ j) (Y ^ 2) ((g ^ j) ^ 2) (W₁ ^ j) (Z ^ 2) (weight W₁ W₁₀) less powers fine)))
    where
      go : (A N X B H W Y G W₁ Z : ℕ) → 0 < H * W₁ * Y → X * B < A * N → G * W * N ≤ X * (H * W₁) → W₁ * Y ≤ W * Z → G * B * Y * (W * N) < A * H * Z * (W * N)
      go A N X B H W Y G W₁ Z p l i f =
          lt_of_le_of_lt (le_trans (le_of_eq (omega arith)) (le_trans (mul-le-mul_right (B * Y) i) (le_of_eq (omega arith))))
          (lt_of_lt_of_le (mul-lt-mul_of_pos_right l p) (le_trans (le_of_eq (omega arith)) (le_trans (mul-le-mul_right (A * N * H) f) (le_of_eq (omega arith)))))

-- ---- powers of b = β / γ, from 1 to 3: b ^ (1 / (2 * n)) is at most 1 + 1 / n
three : (n : ℕ) → 0 < n → n ^ (2 * n) * 3 ≤ (n + 1) ^ (2 * n)
three n n₀ = le_of_mul-le-mul_right {k = n} (le_trans (le_of_eq (go (n ^ (2 * n)) n)) (rw (add-one n) (far_one n (2 * n)))) n₀
  where
    go : (x n : ℕ) → x * 3 * n ≡ x * (n + 2 * n)
    go x n = omega arith

-- the three comparisons below, multiplied, and the same turned round
chained : (a H n B G n' βm βP βw γs γm γP γw βs : ℕ) → βw ≡ βm * βP → γw ≡ γm * γP → a * βm ≤ γm * B → βP * γs * H ≤ G * (γP * βs) → βs * γw * n ≤ n' * (βw * γs) → a * H * n * (βw * γs) ≤ B * G * n' * (βw * γs)
chained a H n B G n' βm βP βw γs γm γP γw βs f g h i j =
    le_trans (le_of_eq (ap (λ (x : ℕ). a * H * n * (x * γs)) f ∙ omega arith))
    (le_trans (mul-le-mul_right (H * n * βP * γs) h)
    (le_trans (le_of_eq (omega arith))
    (le_trans (mul-le-mul_right (γm * B * n) i)
    (le_trans (le_of_eq (omega arith ∙ ap (λ (x : ℕ). βs * x * n * (B * G)) (sym g)))
    (le_trans (mul-le-mul_right (B * G) j) (le_of_eq (omega arith)))))))

turned : (a H n B G n' βm βP βw γs γm γP γw βs : ℕ) → βw ≡ βm * βP → γw ≡ γm * γP → B * γm ≤ βm * a → G * (γP * βs) ≤ βP * γs * H → βw * γs * n ≤ n' * (βs * γw) → B * G * n * (βs * γw) ≤ a * H * n' * (βs * γw)
turned a H n B G n' βm βP βw γs γm γP γw βs f g h i j = let r = chained B G n a H n' γm γP γw βs βm βP βw γs g f h (omega (arith, i)) (omega (arith, j)) in omega (arith, r)

module _ (β γ n : ℕ) (n₀ : 0 < n) (γ₀ : 0 < γ) (least : γ ≤ β) (most : β ≤ 3 * γ) where
  pub exponents-near : (s w e : ℕ) → 2 * n * s ≤ 2 * n * w + e → β ^ s * γ ^ w * n ^ e ≤ (n + 1) ^ e * (β ^ w * γ ^ s)
  exponents-near s w e h =
      let M : ℕ = 2 * n in
      let q : ℕ = M * w + e - M * s in
      let whole : s * M + q ≡ w * M + e = omega (arith, h) in
      let tail : β ^ (s * M) * γ ^ q ≤ β ^ (w * M) * β ^ e = le_trans (mul-le-mul_left (β ^ (s * M)) (pow-le-pow_left least q)) (le_of_eq (sym (pow-add β (s * M) q) ∙ ap (λ (x : ℕ). β ^ x) whole ∙ pow-add β (w * M) e)) in
      let gammas : γ ^ (s * M) * γ ^ q ≡ γ ^ (w * M) * γ ^ e = sym (pow-add γ (s * M) q) ∙ ap (λ (x : ℕ). γ ^ x) whole ∙ pow-add γ (w * M) e in
      let threes : β ^ e * n ^ (M * e) ≤ γ ^ e * (n + 1) ^ (M * e) =
      le_trans (mul-le-mul_right (n ^ (M * e)) (pow-le-pow_left most e))
      (le_trans (le_of_eq (ap (λ (x : ℕ). x * n ^ (M * e)) (pow-product 3 γ e) ∙ ap (λ (x : ℕ). 3 ^ e * γ ^ e * x) (sym (pow-power n M e)) ∙ turn (3 ^ e) (γ ^ e) ((n ^ M) ^ e) ∙ ap (λ (x : ℕ). γ ^ e * x) (sym (pow-product (n ^ M) 3 e))))
      (le_trans (mul-le-mul_left (γ ^ e) (pow-le-pow_left (three n n₀) e)) (le_of_eq (ap (λ (x : ℕ). γ ^ e * x) (pow-power (n + 1) M e))))) in
      le-of-powers (β ^ s * γ ^ w * n ^ e) ((n + 1) ^ e * (β ^ w * γ ^ s)) M (omega (arith, n₀))
      (rw (pow-product (β ^ s * γ ^ w) (n ^ e) M, pow-product (β ^ s) (γ ^ w) M, pow-power β s M, pow-power γ w M, pow-power n e M, pow-product ((n + 1) ^ e) (β ^ w * γ ^ s) M, pow-product (β ^ w) (γ ^ s) M, pow-power β w M, pow-power γ s M, pow-power (n + 1) e M, mul_comm e M)
      (le_of_mul-le-mul_right {k = γ ^ e} (go (β ^ (s * M)) (γ ^ q) (β ^ (w * M)) (β ^ e) (γ ^ (s * M)) (γ ^ (w * M)) (γ ^ e) (n ^ (M * e)) ((n + 1) ^ (M * e)) tail gammas threes) (one-le-pow e γ γ₀)))
    where
      turn : (a b c : ℕ) → a * b * c ≡ b * (c * a)
      turn a b c = omega arith

      go : (βs γq βw βe γs γw γe ne n'e : ℕ) → βs * γq ≤ βw * βe → γs * γq ≡ γw * γe → βe * ne ≤ γe * n'e → βs * γw * ne * γe ≤ n'e * (βw * γs) * γe
      go βs γq βw βe γs γw γe ne n'e h e i = omega (arith, mul-le-mul_right (γs * ne) h, ap (λ (x : ℕ). x * (βs * ne)) e, mul-le-mul_left (βw * γs) i)

  -- a / B is above or below b ^ (- m / d), and so is G / H of b ^ ((P - Q) / U)
  module _ (a B G H d U m P Q : ℕ) (d₀ : 0 < d) (U₀ : 0 < U) where
    abbrev e : ℕ
    e = d * U

    abbrev s : ℕ
    s = Q * d

    abbrev w : ℕ
    w = m * U + P * d

    betas : (x : ℕ) → x ^ w ≡ x ^ (m * U) * x ^ (P * d)
    betas x = pow-add x (m * U) (P * d)

    common : 0 < β ^ w * γ ^ s
    common = mul-pos (one-le-pow w β (lt_of_lt_of_le γ₀ least)) (one-le-pow s γ γ₀)

    other : 0 < β ^ s * γ ^ w
    other = mul-pos (one-le-pow s β (lt_of_lt_of_le γ₀ least)) (one-le-pow w γ γ₀)

    first-power : (x y p q : ℕ) → x ^ d * p ^ m ≤ q ^ m * y ^ d → x ^ e * p ^ (m * U) ≤ q ^ (m * U) * y ^ e
    first-power x y p q h = rw (← pow-power x d U, ← pow-power p m U, ← pow-product (x ^ d) (p ^ m) U, ← pow-power q m U, ← pow-power y d U, ← pow-product (q ^ m) (y ^ d) U) (pow-le-pow_left h U)

    second-left : (β ^ P * γ ^ Q * H ^ U) ^ d ≡ β ^ (P * d) * γ ^ (Q * d) * H ^ e
    second-left = rw (pow-product (β ^ P * γ ^ Q) (H ^ U) d, pow-product (β ^ P) (γ ^ Q) d, pow-power β P d, pow-power γ Q d, pow-power H U d, mul_comm U d)

    second-right : (G ^ U * (γ ^ P * β ^ Q)) ^ d ≡ G ^ e * (γ ^ (P * d) * β ^ (Q * d))
    second-right = rw (pow-product (G ^ U) (γ ^ P * β ^ Q) d, pow-product (γ ^ P) (β ^ Q) d, pow-power γ P d, pow-power β Q d, pow-power G U d, mul_comm U d)

    pub both-above : a ^ d * β ^ m ≤ γ ^ m * B ^ d → β ^ P * γ ^ Q * H ^ U ≤ G ^ U * (γ ^ P * β ^ Q) → 2 * n * s ≤ 2 * n * w + e → a * H * n ≤ B * G * (n + 1)
    both-above first fourth near =
        let four : β ^ (P * d) * γ ^ (Q * d) * H ^ e ≤ G ^ e * (γ ^ (P * d) * β ^ (Q * d)) = le_trans (le_of_eq (sym second-left)) (le_trans (pow-le-pow_left fourth d) (le_of_eq second-right)) in
        le-of-powers (a * H * n) (B * G * (n + 1)) e (mul-pos d₀ U₀)
        (rw (pow-product (a * H) n e, pow-product a H e, pow-product (B * G) (n + 1) e, pow-product B G e)
        (le_of_mul-le-mul_right {k = β ^ w * γ ^ s}
        (chained (a ^ e) (H ^ e) (n ^ e) (B ^ e) (G ^ e) ((n + 1) ^ e) (β ^ (m * U)) (β ^ (P * d)) (β ^ w) (γ ^ s) (γ ^ (m * U)) (γ ^ (P * d)) (γ ^ w) (β ^ s) (betas β) (betas γ) (first-power a B β γ first) four (exponents-near s w e near)) common))

    pub both_below : γ ^ m * B ^ d ≤ a ^ d * β ^ m → G ^ U * (γ ^ P * β ^ Q) ≤ β ^ P * γ ^ Q * H ^ U → 2 * n * w ≤ 2 * n * s + e → B * G * n ≤ a * H * (n + 1)
    both_below second third near =
        let three : G ^ e * (γ ^ (P * d) * β ^ (Q * d)) ≤ β ^ (P * d) * γ ^ (Q * d) * H ^ e = le_trans (le_of_eq (sym second-right)) (le_trans (pow-le-pow_left third d) (le_of_eq second-left)) in
        le-of-powers (B * G * n) (a * H * (n + 1)) e (mul-pos d₀ U₀)
        (rw (pow-product (B * G) n e, pow-product B G e, pow-product (a * H) (n + 1) e, pow-product a H e)
        (le_of_mul-le-mul_right {k = β ^ s * γ ^ w}
        (turned (a ^ e) (H ^ e) (n ^ e) (B ^ e) (G ^ e) ((n + 1) ^ e) (β ^ (m * U)) (β ^ (P * d)) (β ^ w) (γ ^ s) (γ ^ (m * U)) (γ ^ (P * d)) (γ ^ w) (β ^ s) (betas β) (betas γ) (first-power B a γ β (rw (mul_comm (B ^ d) (γ ^ m), mul_comm (β ^ m) (a ^ d)) second)) three (exponents-near w s e near)) other))
