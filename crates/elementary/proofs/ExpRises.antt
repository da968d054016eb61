-- exp keeps the order of the doubles, over any number of places: subnormals, zeros and infinities included. Assumes nothing.
use Rattle.arithmetic.proofs.Kit.{subst₂, Bool, true, false, cond, ℕ, ◌^◌, ℤ, pos, ◌*ℤ◌, T, lit<, ◌≤ℤ◌, pow_pos, Float, nan, inf, fin, binary64, of_bits, neg, fits, le, is_nan, of_bits-fits, neg-fits}
use Rattle.arithmetic.specs.Whole.{floor_div}
use Rattle.arithmetic.specs.Nearest.{units_of}
use Rattle.elementary.specs.Exp.{floor_scaled, log2e, exp_top, exp_bottom, exp_within, exp}
use Rattle.arithmetic.proofs.Integers.{times_mono, signed-times, floor_div_mono}
use Rattle.arithmetic.proofs.Order.{Rises, count_of-le, number, unsigned, ordered-cases, zero-below, below_infinity, le-trans-double}
use Rattle.antilog.proofs.Ordered.{antilog_mono}
use Rattle.elementary.proofs.Rises.{antilog-unsigned}

-- the answer at a number, a being whether it reaches the upper bound and b whether it reaches the lower one
abbrev bounded : ℕ → Float → Bool → Bool → Float
bounded p x a b = cond a (inf false) (cond b (fin false 0 (pos 0)) (exp_within p x))

bounded-unsigned : (p : ℕ) (x : Float) (a b : Bool) → T (unsigned (bounded p x a b))
bounded-unsigned p x true b = tt
bounded-unsigned p x false true = tt
bounded-unsigned p x false false = antilog-unsigned p (floor_div (floor_scaled p x *ℤ pos log2e) (2 ^ 62))

exp-unsigned : (p : ℕ) (x : Float) → T (number x) → T (unsigned (exp p x))
unfolding exp is_nan
exp-unsigned p nan u = absurd u
exp-unsigned p (inf s) u = bounded-unsigned p (inf s) (le exp_top (inf s)) (le (inf s) exp_bottom)
exp-unsigned p (fin s m e) u = bounded-unsigned p (fin s m e) (le exp_top (fin s m e)) (le (fin s m e) exp_bottom)

module _ (p : ℕ) (s t : Bool) (m n : ℕ) (e d : ℤ) (fx : T (fits binary64 (fin s m e))) (fy : T (fits binary64 (fin t n d))) (h : T (le (fin s m e) (fin t n d))) where
  within-rises : T (le (exp_within p (fin s m e)) (exp_within p (fin t n d)))
  within-rises =
      antilog_mono p
      (floor_div_mono (2 ^ 62) (lit< tt)
      (times_mono log2e
      (floor_div_mono (2 ^ 1074) (pow_pos 1074)
      (subst₂ (λ (a b : ℤ). a ≤ℤ b) (signed-times s (units_of (fin s m e)) (2 ^ p)) (signed-times t (units_of (fin t n d)) (2 ^ p)) (times_mono (2 ^ p) (count_of-le s t m n e d fx fy h))))))

  finite-rises : T (le (exp p (fin s m e)) (exp p (fin t n d)))
  unfolding exp is_nan
  finite-rises =
      let x : Float = fin s m e in
      let y : Float = fin t n d in
      go (le exp_top x) (le x exp_bottom) (le exp_top y) (le y exp_bottom)
      (λ a. le-trans-double exp_top x y (of_bits-fits binary64 0x4090000000000000) fx fy a h)
      (λ b. le-trans-double x y exp_bottom fx fy (neg-fits binary64 (of_bits binary64 0x4091300000000000) (of_bits-fits binary64 0x4091300000000000)) h b)
    where
      go : (a b a' b' : Bool) → (T a → T a') → (T b' → T b) → T (le (bounded p (fin s m e) a b) (bounded p (fin t n d) a' b'))
      go a b true b' up down = below_infinity (bounded p (fin s m e) a b) (bounded-unsigned p (fin s m e) a b)
      go true b false b' up down = absurd (up tt)
      go false true false b' up down = zero-below false (pos 0) (bounded p (fin t n d) false b') (bounded-unsigned p (fin t n d) false b')
      go false false false true up down = absurd (down tt)
      go false false false false up down = within-rises

pub exp-rises : (p : ℕ) → Rises (exp p)
unfolding exp is_nan le of_bits neg
exp-rises p x y fx fy h =
    ordered-cases (λ x y. T (fits binary64 x) → T (fits binary64 y) → T (le (exp p x) (exp p y)))
    (λ y u f g. zero-below false (pos 0) (exp p y) (exp-unsigned p y u))
    (λ x u f g. below_infinity (exp p x) (exp-unsigned p x u))
    (λ s t m n e d h f g. finite-rises p s t m n e d f g h)
    x y h fx fy
