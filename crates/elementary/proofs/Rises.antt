-- Power and ln keep the order of the doubles, and a power with a negative exponent turns it, over any number of places: subnormals, zeros and
-- infinities included. Assumes nothing.
use Rattle.arithmetic.proofs.Kit.{◌≡◌, refl, sym, ap, subst, ◌⊎◌, inl, inr, Bool, true, false, not, ◌&&◌, cond, ℕ, zero, suc, ◌*◌, ◌^◌, zero-lt-suc, ℤ, pos, neg_ℤ, ◌*ℤ◌, ◌-ℤ◌, T, eqb, eqb→eq, lt→ltb, lit<, ◌≤ℤ◌, ≤ℤ_refl, pow_pos, Float, nan, inf, fin, binary64, up, down, neg, fits, le, round-fits, cond-fits, neg-fits}
use mathlib.Core.Bool.{and-false}
use lib.Ieee.Positive.{above_of_le}
use Rattle.arithmetic.specs.Whole.{signed, floor_div, floor_mod}
use Rattle.arithmetic.specs.Nearest.{nearest_ratio}
use Rattle.antilog.specs.Log.{log_word}
use Rattle.antilog.specs.Antilog.{antilog_root, antilog}
use Rattle.elementary.specs.Exponents.{Exponent, is_three, is_four}
use Rattle.elementary.specs.Power.{positive_power, infinity_or_zero, power}
use Rattle.elementary.specs.Ln.{ln2, ln}
use Rattle.arithmetic.proofs.Integers.{le-of_pos, times_mono, times_anti, floor_div_mono}
use Rattle.arithmetic.proofs.Order.{FromZeroUp, Rises, RisesFromZero, FallsFromZero, count_of-le, number, numbers-of-le, unsigned, lowest, highest, zero-below, below_infinity, neg-below-unsigned, neg-turns, le-trans-double}
use Rattle.arithmetic.proofs.Rounding.{round-unsigned, ratio_mono}
use Rattle.antilog.proofs.Ordered.{word_of_units_mono, antilog_mono}

-- ---- the log word
pub log_word-rises : (p m n : ℕ) (e d : ℤ) → T (fits binary64 (fin false (suc m) e)) → T (fits binary64 (fin false (suc n) d)) → T (le (fin false (suc m) e) (fin false (suc n) d))
    → log_word p (fin false (suc m) e) ≤ℤ log_word p (fin false (suc n) d)
log_word-rises p m n e d f g h = word_of_units_mono p (le-of_pos (count_of-le false false (suc m) (suc n) e d f g h))

-- ---- a double that is not below zero, by its kind
data FromZero : Float → Type 0 where
  zeros : (s : Bool) (e : ℤ) → FromZero (fin s 0 e)
  positive : (m : ℕ) (e : ℤ) → FromZero (fin false (suc m) e)
  infinite : FromZero (inf false)

above_zero : (m : ℕ) (e : ℤ) (s : Bool) (d : ℤ) → T (le (fin false (suc m) e) (fin s 0 d)) → ⊥
above_zero m e true d h = above_of_le (fin false (suc m) e) (fin true 0 d) (lt→ltb 0 (suc m) (zero-lt-suc m)) h
above_zero m e false d h = above_of_le (fin false (suc m) e) (fin false 0 d) (lt→ltb 0 (suc m) (zero-lt-suc m)) h

kind : (x : Float) → T (le (fin false 0 (pos 0)) x) → FromZero x
unfolding le neg
kind nan h = absurd h
kind (inf true) h = absurd h
kind (inf false) h = infinite
kind (fin s zero e) h = zeros s e
kind (fin false (suc m) e) h = positive m e
kind (fin true (suc m) e) h = absurd (above_zero m e true (pos 0) (neg-turns (fin false 0 (pos 0)) (fin true (suc m) e) h))

-- by the function's values at zeros, at positive numbers, which their words compare, and at infinity
module _ (p : ℕ) (R : Float → Float → Type 0) (f : Float → Float)
    (at-zeros : (s t : Bool) (e d : ℤ) → R (f (fin s 0 e)) (f (fin t 0 d)))
    (from_zero : (s : Bool) (e : ℤ) (n : ℕ) (d : ℤ) → R (f (fin s 0 e)) (f (fin false (suc n) d)))
    (zero-to-infinity : (s : Bool) (e : ℤ) → R (f (fin s 0 e)) (f (inf false)))
    (by-words : (m n : ℕ) (e d : ℤ) → log_word p (fin false (suc m) e) ≤ℤ log_word p (fin false (suc n) d) → R (f (fin false (suc m) e)) (f (fin false (suc n) d)))
    (to-infinity : (m : ℕ) (e : ℤ) → R (f (fin false (suc m) e)) (f (inf false)))
    (at-infinity : R (f (inf false)) (f (inf false))) where
  by_kinds : {x y : Float} → FromZero x → FromZero y → T (fits binary64 x) → T (fits binary64 y) → T (le x y) → R (f x) (f y)
  unfolding le
  by_kinds (zeros s e) (zeros t d) fx fy h = at-zeros s t e d
  by_kinds (zeros s e) (positive n d) fx fy h = from_zero s e n d
  by_kinds (zeros s e) infinite fx fy h = zero-to-infinity s e
  by_kinds (positive m e) (zeros t d) fx fy h = absurd (above_zero m e t d h)
  by_kinds (positive m e) (positive n d) fx fy h = by-words m n e d (log_word-rises p m n e d fx fy h)
  by_kinds (positive m e) infinite fx fy h = to-infinity m e
  by_kinds infinite (zeros t d) fx fy h = absurd h
  by_kinds infinite (positive n d) fx fy h = absurd h
  by_kinds infinite infinite fx fy h = at-infinity

  ordered : FromZeroUp R f
  unfolding fits
  ordered x y fx fy z h = by_kinds (kind x z) (kind y (le-trans-double (fin false 0 (pos 0)) x y tt fx fy z h)) fx fy h

-- ---- power
pub antilog-unsigned : (p : ℕ) (P : ℤ) → T (unsigned (antilog p P))
unfolding antilog
antilog-unsigned p P = let e : ℤ = floor_div P (2 ^ p) -ℤ pos 62 in round-unsigned binary64 (antilog_root p (floor_mod P (2 ^ p)) * up e) (down e)

-- a zero's power, whose sign is the base's where the exponent is 3
abbrev zero_of : Bool → Float
zero_of s = cond s (fin true 0 (pos 0)) (fin false 0 (pos 0))

zero-least : (s : Bool) (x : Float) → T (unsigned x) → T (le (zero_of s) x)
zero-least true x = zero-below true (pos 0) x
zero-least false x = zero-below false (pos 0) x

zeros-level : (s t : Bool) → T (le (zero_of s) (zero_of t))
unfolding le
zeros-level s false = zero-least s (fin false 0 (pos 0)) tt
zeros-level true true = tt
zeros-level false true = tt

module _ (p M : ℕ) where
  rises : RisesFromZero (power p (record { negative = false; magnitude = M }))
  unfolding power le
  rises =
      let word : ℕ → ℤ → ℤ = λ m e. floor_div (log_word p (fin false (suc m) e) *ℤ pos M) (2 ^ 58) in
      let three : Bool = eqb M (3 * 2 ^ 58) in
      ordered p (λ a b. T (le a b)) (power p (record { negative = false; magnitude = M }))
      (λ s t e d. zeros-level (s && three) (t && three))
      (λ s e n d. zero-least (s && three) (antilog p (word n d)) (antilog-unsigned p (word n d)))
      (λ s e. zero-least (s && three) (inf false) tt)
      (λ m n e d h. antilog_mono p (floor_div_mono (2 ^ 58) (lit< tt) (times_mono M h)))
      (λ m e. below_infinity (antilog p (word m e)) (antilog-unsigned p (word m e)))
      tt

  falls : FallsFromZero (power p (record { negative = true; magnitude = M }))
  unfolding power le
  falls =
      let word : ℕ → ℤ → ℤ = λ m e. floor_div (log_word p (fin false (suc m) e) *ℤ neg_ℤ (pos M)) (2 ^ 58) in
      ordered p (λ a b. T (le b a)) (power p (record { negative = true; magnitude = M }))
      (λ s t e d. rw (and-false s, and-false t) tt)
      (λ s e n d. rw (and-false s) (below_infinity (antilog p (word n d)) (antilog-unsigned p (word n d))))
      (λ s e. rw (and-false s) tt)
      (λ m n e d h. antilog_mono p (floor_div_mono (2 ^ 58) (lit< tt) (times_anti M h)))
      (λ m e. zero-below false (pos 0) (antilog p (word m e)) (antilog-unsigned p (word m e)))
      tt

pub power-rises : (p : ℕ) (e : Exponent) → e.negative ≡ false → RisesFromZero (power p e)
power-rises p e h = subst (λ (b : Bool). RisesFromZero (power p (record { negative = b; magnitude = e.magnitude }))) (sym h) (rises p e.magnitude)

pub power-falls : (p : ℕ) (e : Exponent) → e.negative ≡ true → FallsFromZero (power p e)
power-falls p e h = subst (λ (b : Bool). FallsFromZero (power p (record { negative = b; magnitude = e.magnitude }))) (sym h) (falls p e.magnitude)

-- every power is a double
antilog-fits : (p : ℕ) (P : ℤ) → T (fits binary64 (antilog p P))
unfolding antilog
antilog-fits p P = let e : ℤ = floor_div P (2 ^ p) -ℤ pos 62 in round-fits binary64 false (antilog_root p (floor_mod P (2 ^ p)) * up e) (down e)

positive-fits : (p : ℕ) (q : Exponent) (x : Float) → T (fits binary64 (positive_power p q x))
positive-fits p q x = antilog-fits p (floor_div (log_word p x *ℤ signed q.negative q.magnitude) (2 ^ 58))

pub power-fits : (p : ℕ) (q : Exponent) (x : Float) → T (fits binary64 (power p q x))
unfolding power fits
power-fits p q nan = tt
power-fits p q (inf false) = cond-fits binary64 q.negative (fin false 0 (pos 0)) (inf false) tt tt
power-fits p q (inf true) = cond-fits binary64 (is_three q) (inf true) (infinity_or_zero q.negative) tt (cond-fits binary64 q.negative (fin false 0 (pos 0)) (inf false) tt tt)
power-fits p q (fin s zero e) =
    cond-fits binary64 (s && is_three q) (fin true 0 (pos 0)) (cond q.negative (inf false) (fin false 0 (pos 0))) tt (cond-fits binary64 q.negative (inf false) (fin false 0 (pos 0)) tt tt)
power-fits p q (fin false (suc m) e) = positive-fits p q (fin false (suc m) e)
power-fits p q (fin true (suc m) e) =
    let x : Float = positive_power p q (fin false (suc m) e) in
    let y : T (fits binary64 x) = positive-fits p q (fin false (suc m) e) in
    cond-fits binary64 (is_three q) (neg x) (cond (is_four q) x nan) (neg-fits binary64 x y) (cond-fits binary64 (is_four q) x nan y tt)

-- ---- the power 3, whose sign is the base's, over all doubles
abbrev three : Exponent
three = record { negative = false; magnitude = 3 * 2 ^ 58 }

three-is : (e : Exponent) → is_three e ≡ true → three ≡ e
three-is e h = go e.negative e.magnitude (subst T (sym h) tt)
  where
    go : (b : Bool) (M : ℕ) → T (not b && eqb M (3 * 2 ^ 58)) → three ≡ record { negative = b; magnitude = M }
    go true M t = absurd t
    go false M t = ap (λ (n : ℕ). record { negative = false; magnitude = n }) (sym (eqb→eq M (3 * 2 ^ 58) t))

signs : (x : Float) → T (number x) → T (unsigned x) ⊎ T (unsigned (neg x))
unfolding neg
signs nan u = absurd u
signs (inf true) u = inr tt
signs (inf false) u = inl tt
signs (fin true m e) u = inr tt
signs (fin false m e) u = inl tt

cube-unsigned : (p : ℕ) (x : Float) → T (unsigned x) → T (unsigned (power p three x))
unfolding power
cube-unsigned p nan u = absurd u
cube-unsigned p (inf true) u = absurd u
cube-unsigned p (inf false) u = tt
cube-unsigned p (fin true m e) u = absurd u
cube-unsigned p (fin false zero e) u = tt
cube-unsigned p (fin false (suc m) e) u = antilog-unsigned p (floor_div (log_word p (fin false (suc m) e) *ℤ pos (3 * 2 ^ 58)) (2 ^ 58))

cube-opposite : (p : ℕ) (x : Float) → T (unsigned (neg x)) → power p three x ≡ neg (power p three (neg x))
unfolding power neg
cube-opposite p nan u = absurd u
cube-opposite p (inf true) u = refl
cube-opposite p (inf false) u = absurd u
cube-opposite p (fin true zero e) u = refl
cube-opposite p (fin true (suc m) e) u = refl
cube-opposite p (fin false m e) u = absurd u

cube : (p : ℕ) → Rises (power p three)
cube p x y fx fy h = go (signs x (numbers-of-le x y h).0) (signs y (numbers-of-le x y h).1)
  where
    go : T (unsigned x) ⊎ T (unsigned (neg x)) → T (unsigned y) ⊎ T (unsigned (neg y)) → T (le (power p three x) (power p three y))
    go (inl u) v = rises p (3 * 2 ^ 58) x y fx fy (zero-below false (pos 0) x u) h
    go (inr u) (inl v) = rw (cube-opposite p x u) (neg-below-unsigned (power p three (neg x)) (power p three y) (cube-unsigned p (neg x) u) (cube-unsigned p y v))
    go (inr u) (inr v) =
        rw (cube-opposite p x u, cube-opposite p y v)
        (neg-turns (power p three (neg y)) (power p three (neg x))
        (rises p (3 * 2 ^ 58) (neg y) (neg x) (neg-fits binary64 y fy) (neg-fits binary64 x fx) (zero-below false (pos 0) (neg y) v) (neg-turns x y h)))

pub cube-rises : (p : ℕ) (e : Exponent) → is_three e ≡ true → Rises (power p e)
cube-rises p e h = subst (λ (q : Exponent). Rises (power p q)) (three-is e h) (cube p)

-- ---- ln
ratio-number : (z : ℤ) (p : ℕ) → T (number (nearest_ratio z (2 ^ p)))
ratio-number z p = (numbers-of-le (nearest_ratio z (2 ^ p)) (nearest_ratio z (2 ^ p)) (ratio_mono z z (2 ^ p) (2 ^ p) (pow_pos p) (pow_pos p) (≤ℤ_refl (z *ℤ pos (2 ^ p))))).1

pub ln-rises : (p : ℕ) → RisesFromZero (ln p)
unfolding ln le
ln-rises p =
    let word : ℕ → ℤ → ℤ = λ m e. floor_div (log_word p (fin false (suc m) e) *ℤ pos ln2) (2 ^ 62) in
    ordered p (λ a b. T (le a b)) (ln p)
    (λ s t e d. tt)
    (λ s e n d. lowest (ln p (fin false (suc n) d)) (ratio-number (word n d) p))
    (λ s e. tt)
    (λ m n e d h. ratio_mono (word m e) (word n d) (2 ^ p) (2 ^ p) (pow_pos p) (pow_pos p) (times_mono (2 ^ p) (floor_div_mono (2 ^ 62) (lit< tt) (times_mono ln2 h))))
    (λ m e. highest (ln p (fin false (suc m) e)) (ratio-number (word m e) p))
    tt
