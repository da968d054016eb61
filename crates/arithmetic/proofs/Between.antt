-- Doubles with two neighbouring multiples of 2 ^ -j between them: two fractions that lie apart round to such doubles, whatever the rounding does to each,
-- and where the products of a factor with the two multiples are exact, its products with the doubles differ. Assumes nothing.
use Rattle.arithmetic.proofs.Kit.{◌≡◌, refl, sym, ap, ◌∙◌, subst, ℕ, suc, ◌+◌, ◌-◌, ◌*◌, ◌/◌, ◌^◌, ◌≤◌, ◌<◌, le_trans, le_of_eq, lt_of_le_of_lt, lt_of_lt_of_le, zero-lt-suc, one-mul, mul-one, suc-mul, mul-suc, mul_assoc, mul_comm, mul-pos, mul-le-mul_left, mul-le-mul_right, le_of_mul-le-mul_right, lt_of_mul-lt-mul_right, lt-div-mul-add, div-mul-le_self, arith, false, negsuc, T, lt→ltb, pow_pos, pow_mono, pow-add, shl_lt, Float, fin, binary64, round, mul, fits, lt, le, round-fits, mul-fits, HasValue, round_mono}
use native.Mathlib.Nat.{le-suc}
use lib.Ieee.Exact.{round_exact}
use lib.Ieee.Positive.{positive_of_value, values_of_le, mul_at}
use Rattle.arithmetic.proofs.Order.{numbers-of-le, le-trans-double}
use Rattle.arithmetic.proofs.Units.{split-power}
use Rattle.arithmetic.proofs.Strict.{less-of_not_le}
use Rattle.arithmetic.proofs.Products.{mul-by-rises}

-- n / 2 ^ j, which is a double for an n of 53 digits
abbrev pub multiple : ℕ → ℕ → Float
multiple j n = round binary64 false n (2 ^ j)

multiple-value : (j n : ℕ) → j ≤ 1074 → n < 2 ^ 53 → HasValue (multiple j n) false n (2 ^ j)
multiple-value j n h small =
    round_exact binary64 false n (2 ^ j) n (1074 - j) (pow_pos j) small (lt_of_lt_of_le (shl_lt 53 (1074 - j) small) (pow_mono {i = 53 + (1074 - j)} {j = 2098} (omega arith))) (split-power n 1074 j h)

-- u ≤ n / 2 ^ j and (n + 1) / 2 ^ j ≤ v, for an n above 0 and below B
pub record Parted (j B : ℕ) (u v : Float) : Type 0 where
  pub n : ℕ
  pub some : 0 < n
  pub few : n < B
  pub lower : T (le u (multiple j n))
  pub upper : T (le (multiple j (suc n)) v)

-- a / 2 ^ (j + k) and b / 2 ^ (j + k), with 2 / 2 ^ j or more between them
pub round-parted : (j k B a b : ℕ) → a + 2 * 2 ^ k ≤ b → b < suc B * 2 ^ k → Parted j B (round binary64 false a (2 ^ (j + k))) (round binary64 false b (2 ^ (j + k)))
round-parted j k B a b gap top =
    let K : ℕ = 2 ^ k in
    let q : ℕ = a / K in
    let D : 0 < 2 ^ (j + k) = pow_pos (j + k) in
    let scale : (x : ℕ) → x * K * 2 ^ j ≡ x * 2 ^ (j + k) = λ x. mul_assoc x K (2 ^ j) ∙ ap (λ (y : ℕ). x * y) (mul_comm K (2 ^ j) ∙ sym (pow-add 2 j k)) in
    let above : a ≤ suc q * K = omega (arith, suc-mul q K, lt-div-mul-add {a = a} (pow_pos k)) in
    let below : suc (suc q) * K ≤ b = omega (arith, suc-mul (suc q) K, suc-mul q K, div-mul-le_self a K) in
    let last : suc (suc q) < suc B = lt_of_mul-lt-mul_right K (lt_of_le_of_lt below top) in
    record {
      n = suc q;
      some = zero-lt-suc q;
      few = omega arith;
      lower = round_mono binary64 a (2 ^ (j + k)) (suc q) (2 ^ j) D (pow_pos j) (le_trans (mul-le-mul_right (2 ^ j) above) (le_of_eq (scale (suc q))));
      upper = round_mono binary64 (suc (suc q)) (2 ^ j) b (2 ^ (j + k)) (pow_pos j) D (le_trans (le_of_eq (sym (scale (suc (suc q))))) (mul-le-mul_right (2 ^ j) below));
    }

-- ---- the products with (m + 1) / 2 ^ (i + 1)
module _ (m i j : ℕ) (fine : suc i + j ≤ 1074) where
  abbrev product : Float → Float
  product x = mul binary64 (fin false (suc m) (negsuc i)) x

  product_value : (n : ℕ) → 0 < n → suc m * n < 2 ^ 53 → HasValue (product (multiple j n)) false (suc m * n) (2 ^ (suc i + j))
  product_value n some small =
      let value : HasValue (multiple j n) false n (2 ^ j) = multiple-value j n (omega arith) (lt_of_le_of_lt (le_trans (le_of_eq (sym (one-mul n))) (mul-le-mul_right n (zero-lt-suc m))) small) in
      subst (λ (x : Float). HasValue x false (suc m * n) (2 ^ (suc i + j)))
      (sym
      (mul_at binary64 (fin false (suc m) (negsuc i)) (multiple j n) (suc m) (2 ^ suc i) n (2 ^ j) (lt→ltb 0 (suc m) (zero-lt-suc m)) (positive_of_value (multiple j n) n (2 ^ j) value some) (pow_pos (suc i)) (pow_pos j)
      (refl, ap (λ (x : ℕ). x * 2 ^ suc i) (mul-one (suc m))) value
      ∙ ap (λ (x : ℕ). round binary64 false (suc m * n) x) (sym (pow-add 2 (suc i) j))))
      (multiple-value (suc i + j) (suc m * n) fine small)

  products_differ : (n : ℕ) → 0 < n → suc m * suc n < 2 ^ 53 → T (le (product (multiple j (suc n))) (product (multiple j n))) → ⊥
  products_differ n some small h =
      let a : ℕ = suc m * n in
      let b : ℕ = suc m * suc n in
      let c : ℕ = 2 ^ (suc i + j) in
      let low : HasValue (product (multiple j n)) false a c = product_value n some (lt_of_le_of_lt (mul-le-mul_left (suc m) (le-suc n)) small) in
      let high : HasValue (product (multiple j (suc n))) false b c = product_value (suc n) (zero-lt-suc n) small in
      let order : b ≤ a =
      le_of_mul-le-mul_right
      (values_of_le (product (multiple j (suc n))) (product (multiple j n)) b c a c
      (positive_of_value (product (multiple j (suc n))) b c high (mul-pos (zero-lt-suc m) (zero-lt-suc n)))
      (positive_of_value (product (multiple j n)) a c low (mul-pos (zero-lt-suc m) some)) high low h)
      (pow_pos (suc i + j)) in
      omega (arith, mul-suc (suc m) n)

  pub products-apart : (B : ℕ) (u v : Float) → T (fits binary64 u) → T (fits binary64 v) → suc m * B < 2 ^ 53 → Parted j B u v
      → T (lt (mul binary64 (fin false (suc m) (negsuc i)) u) (mul binary64 (fin false (suc m) (negsuc i)) v))
  products-apart B u v f g small h =
      let w : Float = fin false (suc m) (negsuc i) in
      let n : ℕ = h.n in
      let low : T (le (product u) (product (multiple j n))) = mul-by-rises m (negsuc i) u (multiple j n) f (round-fits binary64 false n (2 ^ j)) h.lower in
      let high : T (le (product (multiple j (suc n))) (product v)) = mul-by-rises m (negsuc i) (multiple j (suc n)) v (round-fits binary64 false (suc n) (2 ^ j)) g h.upper in
      less-of_not_le (product u) (product v) (numbers-of-le (product u) (product (multiple j n)) low).0 (numbers-of-le (product (multiple j (suc n))) (product v) high).1
      (λ (k : T (le (product v) (product u))).
      products_differ n h.some (lt_of_le_of_lt (mul-le-mul_left (suc m) h.few) small)
      (le-trans-double (product (multiple j (suc n))) (product v) (product (multiple j n)) (mul-fits binary64 w (multiple j (suc n))) (mul-fits binary64 w v) (mul-fits binary64 w (multiple j n)) high
      (le-trans-double (product v) (product u) (product (multiple j n)) (mul-fits binary64 w v) (mul-fits binary64 w u) (mul-fits binary64 w (multiple j n)) k low)))
