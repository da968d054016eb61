-- The power of each kind of double, as the code tells them apart: the rule at an exponent of which it is known whether it is 3 or 4. Assumes nothing.
use Rattle.arithmetic.proofs.Kit.{◌≡◌, refl, sym, ap, ◌∙◌, Bool, true, false, not, cond, ℕ, ◌<◌, pos, ltb, lt→ltb, Float, nan, inf, fin, neg, odd, is_true}
use Rattle.elementary.specs.Exponents.{Exponent, exponent_at, is_three, is_four}
use Rattle.elementary.specs.Power.{positive_power, infinity_or_zero, power, power_at}
use Rattle.arithmetic.proofs.Parts.{finite-of-parts}
use Rattle.arithmetic.proofs.Rounding.{odd_opposite}

pub infinite-three : (p : ℕ) (e : Exponent) → is_three e ≡ true → inf true ≡ power p e (inf true)
unfolding power
infinite-three p e t = sym (ap (λ (b : Bool). cond b (inf true) (infinity_or_zero e.negative)) t)

pub infinite-other : (p : ℕ) (e : Exponent) → is_three e ≡ false → infinity_or_zero e.negative ≡ power p e (inf true)
unfolding power
infinite-other p e t = sym (ap (λ (b : Bool). cond b (inf true) (infinity_or_zero e.negative)) t)

pub infinite-positive : (p : ℕ) (e : Exponent) → infinity_or_zero e.negative ≡ power p e (inf false)
unfolding power
infinite-positive p e = refl

-- where it is not both negative and to the power 3
pub infinite-else : (p : ℕ) (e : Exponent) (s : Bool) → (s ≡ true → is_three e ≡ false) → infinity_or_zero e.negative ≡ power p e (inf s)
infinite-else p e true h = infinite-other p e (h refl)
infinite-else p e false h = infinite-positive p e

zero-by : (b : Bool) → infinity_or_zero (not b) ≡ cond b (inf false) (fin false 0 (pos 0))
zero-by true = refl
zero-by false = refl

pub zero-three : (p : ℕ) (e : Exponent) → is_three e ≡ true → fin true 0 (pos 0) ≡ power p e (fin true 0 (pos 0))
unfolding power
zero-three p e t = sym (ap (λ (b : Bool). cond b (fin true 0 (pos 0)) (cond e.negative (inf false) (fin false 0 (pos 0)))) t)

pub zero-other : (p : ℕ) (e : Exponent) → is_three e ≡ false → infinity_or_zero (not e.negative) ≡ power p e (fin true 0 (pos 0))
unfolding power
zero-other p e t = zero-by e.negative ∙ sym (ap (λ (b : Bool). cond b (fin true 0 (pos 0)) (cond e.negative (inf false) (fin false 0 (pos 0)))) t)

pub zero-positive : (p : ℕ) (e : Exponent) → infinity_or_zero (not e.negative) ≡ power p e (fin false 0 (pos 0))
unfolding power
zero-positive p e = zero-by e.negative

pub zero-else : (p : ℕ) (e : Exponent) (s : Bool) → (s ≡ true → is_three e ≡ false) → infinity_or_zero (not e.negative) ≡ power p e (fin s 0 (pos 0))
zero-else p e true h = zero-other p e (h refl)
zero-else p e false h = zero-positive p e

module _ (p : ℕ) (e : Exponent) (q k : ℕ) (some : 0 < q) where
  pub finite-positive : positive_power p e (odd 53 false q k 1074) ≡ power p e (odd 53 false q k 1074)
  unfolding power
  finite-positive = let f = (finite-of-parts false q k some).2 in ap (positive_power p e) f ∙ ap (power p e) (sym f)

  pub finite-negative : cond (is_three e) (neg (positive_power p e (odd 53 false q k 1074))) (cond (is_four e) (positive_power p e (odd 53 false q k 1074)) nan) ≡ power p e (odd 53 true q k 1074)
  unfolding power neg
  finite-negative =
      let f = (finite-of-parts false q k some).2 in
      ap (λ (x : Float). cond (is_three e) (neg (positive_power p e x)) (cond (is_four e) (positive_power p e x) nan)) f
      ∙ ap (power p e) (sym (odd_opposite 53 q k 1074 ∙ ap neg f))

-- ---- by the number of the exponent
pub in_table : (p i : ℕ) (x : Float) → i < 27 → power p (exponent_at i) x ≡ power_at p i x
unfolding power_at
in_table p i x h = sym (ap (λ (t : Bool). cond t (power p (exponent_at i) x) nan) (is_true (ltb i 27) (lt→ltb i 27 h)))
