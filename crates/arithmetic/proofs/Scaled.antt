-- The patterns of y * 2 ^ d / 2 ^ (low + g), rounded, for a y of g digits more than the format keeps, and of y / 2 ^ (low + g) for a y of no more
-- digits than that. In units of the smallest value they are y * 2 ^ d / 2 ^ g, of which d digits are dropped, and y / 2 ^ g, of which none is.
-- Then m * 2 ^ k and m / 2 ^ k in those forms. Assumes nothing.
use Rattle.arithmetic.proofs.Kit.{◌≡◌, refl, sym, ap, ◌∙◌, subst, Bool, false, not, ℕ, suc, ◌+◌, ◌-◌, ◌*◌, ◌/◌, ◌%◌, ◌^◌, ◌≤◌, ◌<◌, min, le_trans, le_of_eq, lt_of_lt_of_le, mul-one, mul_assoc, mul_comm, mul_right_comm, mul-pos, add-mul, zero-mul, add_comm, mul-le-mul_right, le-div_iff_mul-le, div-lt_iff_lt-mul, min-eq_left, min-eq_right, mul-lt-mul_of_pos_right, arith, T, le→nltb, pow-add, pow_pos, binary64, size, round, of_bits, nan_bits, size-le, closest, kept, round_same}
use Rattle.std.proofs.Common.{add-sub_of_le, sub-add_cancel, shr_lt}
use native.Mathlib.Nat.{mod-le}
use lib.Ieee.{Format, prec, low, hid, ones, top}
use lib.Ieee.Fits.{two, two-le_pos, reach}
use lib.Ieee.Bits.{nan_bits_above}
use lib.Ieee.Nearest.{closest_same, div_same}
use lib.Ieee.Order.{drop}
use Rattle.arithmetic.proofs.Closest.{closest_at_most, closest_at_least}
use Rattle.arithmetic.proofs.Pattern.{size_is, pow_pred, round-bits}

-- ---- what `round` drops and keeps of n / den, which is y * 2 ^ d / 2 ^ g
module _ (p g y d n den : ℕ) (D : 0 < den) (same : n * 2 ^ g ≡ y * 2 ^ d * den) where
  whole : n / den ≡ y * 2 ^ d / 2 ^ g
  whole = div_same n den (y * 2 ^ d) (2 ^ g) D (pow_pos g) same

  drop-is : 0 < p → 2 ^ (p - 1 + g) ≤ y → y < 2 ^ (p + g) → drop p n den ≡ d
  drop-is P lo hi =
      let w = y * 2 ^ d / 2 ^ g in
      let next : p + d ≡ suc (p - 1 + d) = omega arith in
      let regroup : (i : ℕ) → 2 ^ (i + d) * 2 ^ g ≡ 2 ^ (i + g) * 2 ^ d = λ i. rw (pow-add 2 i d, pow-add 2 i g) (mul_right_comm (2 ^ i) (2 ^ d) (2 ^ g)) in
      let below : 2 ^ (p - 1 + d) ≤ w = (le-div_iff_mul-le (pow_pos g)).1 (le_trans (le_of_eq (regroup (p - 1))) (mul-le-mul_right (2 ^ d) lo)) in
      let above : w < 2 ^ (p + d) = (div-lt_iff_lt-mul (pow_pos g)).1 (lt_of_lt_of_le (mul-lt-mul_of_pos_right hi (pow_pos d)) (le_of_eq (sym (regroup p)))) in
      let s : size w ≡ suc (p - 1 + d) = size_is w (p - 1 + d) below (subst (λ (i : ℕ). w < 2 ^ i) next above) in
      let s' : size (n / den) ≡ suc (p - 1 + d) = ap size whole ∙ s in
      omega arith

  kept-is : drop p n den ≡ d → kept p n den ≡ closest y (2 ^ g)
  kept-is e =
      ap (λ (k : ℕ). closest n (den * 2 ^ k)) e
      ∙ closest_same n (den * 2 ^ d) y (2 ^ g) (mul-pos D (pow_pos d)) (pow_pos g) (same ∙ mul_assoc y (2 ^ d) den ∙ ap (λ (x : ℕ). y * x) (mul_comm (2 ^ d) den))

  drop-none : d ≡ 0 → y < 2 ^ (p + g) → drop p n den ≡ 0
  drop-none z hi =
      let w : n / den ≡ y / 2 ^ g = whole ∙ ap (λ (x : ℕ). x / 2 ^ g) (ap (λ (i : ℕ). y * 2 ^ i) z ∙ mul-one y) in
      let s : size (n / den) ≤ p = size-le (n / den) p (subst (λ (x : ℕ). x < 2 ^ p) (sym w) (shr_lt p g hi)) in
      omega arith

-- ---- the patterns
module _ (f : Format) (g y : ℕ) (hi : y < 2 ^ (prec f + g)) where
  unit_pos : 0 < 2 ^ (low f + g)
  unit_pos = pow_pos (low f + g)

  in_units : (d : ℕ) → y * 2 ^ d * 2 ^ low f * 2 ^ g ≡ y * 2 ^ d * 2 ^ (low f + g)
  in_units d = mul_assoc (y * 2 ^ d) (2 ^ low f) (2 ^ g) ∙ ap (λ (x : ℕ). y * 2 ^ d * x) (sym (pow-add 2 (low f) g))

  scaled-bits : (d : ℕ) → drop (prec f) (y * 2 ^ d * 2 ^ low f) (2 ^ (low f + g)) ≡ d
      → round f false (y * 2 ^ d) (2 ^ (low f + g)) ≡ of_bits f (min (d * hid f + closest y (2 ^ g)) (ones f * hid f))
  scaled-bits d e =
      let n = y * 2 ^ d * 2 ^ low f in
      let den = 2 ^ (low f + g) in
      let p = prec f in
      round-bits f (y * 2 ^ d) den
      ∙ ap (λ (k : ℕ). of_bits f (min (k * hid f + kept p n den) (ones f * hid f))) e
      ∙ ap (λ (q : ℕ). of_bits f (min (d * hid f + q) (ones f * hid f))) (kept-is p g y d n den unit_pos (in_units d) e)

  normal-drop : (d : ℕ) → 2 ^ (prec f - 1 + g) ≤ y → drop (prec f) (y * 2 ^ d * 2 ^ low f) (2 ^ (low f + g)) ≡ d
  normal-drop d lo = drop-is (prec f) g y d (y * 2 ^ d * 2 ^ low f) (2 ^ (low f + g)) unit_pos (in_units d) (two-le_pos (prec f) (two f)) lo hi

  -- a pattern of d fields and what is kept goes no higher than the infinity's where two more fields do not
  pub pattern-at_most : (d : ℕ) → d + 2 ≤ ones f → d * hid f + closest y (2 ^ g) ≤ ones f * hid f
  pattern-at_most d h =
      let q : closest y (2 ^ g) ≤ 2 ^ prec f = closest_at_most y (2 ^ g) (2 ^ prec f) (shr_lt (prec f) g hi) in
      let t : 2 ^ prec f ≡ 2 * hid f = pow_pred (prec f) (two-le_pos (prec f) (two f)) in
      let m : (d + 2) * hid f ≤ ones f * hid f = mul-le-mul_right (hid f) h in
      let e : (d + 2) * hid f ≡ d * hid f + 2 * hid f = add-mul d 2 (hid f) in
      omega arith

  pub normal-bits : (d : ℕ) → 2 ^ (prec f - 1 + g) ≤ y → d + 2 ≤ ones f → round f false (y * 2 ^ d) (2 ^ (low f + g)) ≡ of_bits f (d * hid f + closest y (2 ^ g))
  normal-bits d lo h = scaled-bits d (normal-drop d lo) ∙ ap (of_bits f) (min-eq_left (pattern-at_most d h))

  pub infinite-bits : (d : ℕ) → 2 ^ (prec f - 1 + g) ≤ y → ones f ≤ d + 1 → round f false (y * 2 ^ d) (2 ^ (low f + g)) ≡ of_bits f (ones f * hid f)
  infinite-bits d lo h =
      let q : hid f ≤ closest y (2 ^ g) = closest_at_least y (2 ^ g) (hid f) ((le-div_iff_mul-le (pow_pos g)).1 (le_trans (le_of_eq (sym (pow-add 2 (prec f - 1) g))) lo)) in
      let m : ones f * hid f ≤ (d + 1) * hid f = mul-le-mul_right (hid f) h in
      let e : (d + 1) * hid f ≡ d * hid f + 1 * hid f = add-mul d 1 (hid f) in
      scaled-bits d (normal-drop d lo) ∙ ap (of_bits f) (min-eq_right (omega arith))

  pub subnormal_bits : round f false y (2 ^ (low f + g)) ≡ of_bits f (closest y (2 ^ g))
  subnormal_bits =
      let none : drop (prec f) (y * 2 ^ 0 * 2 ^ low f) (2 ^ (low f + g)) ≡ 0 = drop-none (prec f) g y 0 (y * 2 ^ 0 * 2 ^ low f) (2 ^ (low f + g)) unit_pos (in_units 0) refl hi in
      ap (λ (n : ℕ). round f false n (2 ^ (low f + g))) (sym (mul-one y))
      ∙ scaled-bits 0 none
      ∙ ap (of_bits f) (min-eq_left (pattern-at_most 0 (omega (arith, two f, reach f))) ∙ omega arith)

-- ---- none of them is a NaN's
pub pattern-no_nan : (f : Format) (b : ℕ) → b ≤ ones f * hid f → T (not (nan_bits f b))
pattern-no_nan f b h = subst (λ (t : Bool). T (not t)) (sym (nan_bits_above f b)) (le→nltb (ones f * hid f) (b % top f) (le_trans (mod-le b (top f)) h))

-- ---- m * 2 ^ k and m / 2 ^ k, by a y and a t with m * 2 ^ l = y * 2 ^ t
module _ (f : Format) (l m y t : ℕ) (same : m * 2 ^ l ≡ y * 2 ^ t) where
  pub product_as : (k : ℕ) → round f false (m * 2 ^ k) 1 ≡ round f false (y * 2 ^ (k + t)) (2 ^ l)
  product_as k =
      round_same f false (m * 2 ^ k) 1 (y * 2 ^ (k + t)) (2 ^ l) (pow_pos 0) (pow_pos l)
      (mul_right_comm m (2 ^ k) (2 ^ l) ∙ ap (λ (x : ℕ). x * 2 ^ k) same ∙ mul_assoc y (2 ^ t) (2 ^ k) ∙ ap (λ (x : ℕ). y * x) (sym (pow-add 2 t k) ∙ ap (λ (i : ℕ). 2 ^ i) (add_comm t k)) ∙ sym (mul-one (y * 2 ^ (k + t))))

  pub quotient_as : (k : ℕ) → k ≤ t → round f false m (2 ^ k) ≡ round f false (y * 2 ^ (t - k)) (2 ^ l)
  quotient_as k h =
      round_same f false m (2 ^ k) (y * 2 ^ (t - k)) (2 ^ l) (pow_pos k) (pow_pos l)
      (same ∙ ap (λ (i : ℕ). y * 2 ^ i) (sym (sub-add_cancel h)) ∙ ap (λ (x : ℕ). y * x) (pow-add 2 (t - k) k) ∙ sym (mul_assoc y (2 ^ (t - k)) (2 ^ k)))

  pub quotient-under : (k : ℕ) → t ≤ k → round f false m (2 ^ k) ≡ round f false y (2 ^ (l + (k - t)))
  quotient-under k h =
      round_same f false m (2 ^ k) y (2 ^ (l + (k - t))) (pow_pos k) (pow_pos (l + (k - t)))
      (ap (λ (x : ℕ). m * x) (pow-add 2 l (k - t)) ∙ sym (mul_assoc m (2 ^ l) (2 ^ (k - t))) ∙ ap (λ (x : ℕ). x * 2 ^ (k - t)) same ∙ mul_assoc y (2 ^ t) (2 ^ (k - t)) ∙ ap (λ (x : ℕ). y * x) (sym (pow-add 2 t (k - t)) ∙ ap (λ (i : ℕ). 2 ^ i) (add-sub_of_le h)))

-- ---- zero
round-none : round binary64 false 0 1 ≡ of_bits binary64 0
unfolding round of_bits
round-none = refl

pub zero_bits : (num den : ℕ) → num ≡ 0 → 0 < den → of_bits binary64 0 ≡ round binary64 false num den
zero_bits num den z D = sym round-none ∙ sym (round_same binary64 false num den 0 1 D (pow_pos 0) (mul-one num ∙ z ∙ sym (zero-mul den)))
