-- The rounding of a signed fraction keeps the order: the larger fraction rounds to a double that is no smaller, subnormals and infinities included.
-- Assumes nothing.
use Rattle.arithmetic.proofs.Kit.{◌≡◌, refl, sym, ap, ◌∙◌, subst, ℕ, zero, suc, ◌+◌, ◌*◌, ◌^◌, ◌≤◌, ◌<◌, mul-pos, mul-le-mul_right, zero-lt-suc, Bool, true, false, cond, ℤ, pos, negsuc, ◌*ℤ◌, T, ltb, ◌≤ℤ◌, Float, inf, binary64, odd, units, up, down, round, neg, le, down_pos, round_mono}
use lib.Ieee.{Format, prec, emax, low}
use lib.Ieee.Fits.{round_is}
use Rattle.arithmetic.specs.Nearest.{nearest_scaled, nearest_ratio}
use Rattle.arithmetic.proofs.Integers.{le-of_pos, not_below-neg, le-of-opposites}
use Rattle.arithmetic.proofs.Order.{unsigned, neg-below-unsigned, neg-turns}

-- ---- the sign goes through `round`
pub odd_opposite : (d q k l : ℕ) → odd d true q k l ≡ neg (odd d false q k l)
unfolding odd neg
odd_opposite d zero k l = refl
odd_opposite d (suc q) k l = refl

units-opposite : (f : Format) (q k : ℕ) → units f true q k ≡ neg (units f false q k)
unfolding units neg
units-opposite f q k = go (ltb (q * 2 ^ k) (2 ^ (low f + suc (emax f))))
  where
    go : (b : Bool) → cond b (odd (suc (prec f)) true q k (low f)) (inf true) ≡ neg (cond b (odd (suc (prec f)) false q k (low f)) (inf false))
    go true = odd_opposite (suc (prec f)) q k (low f)
    go false = refl

pub round-opposite : (f : Format) (a c : ℕ) → round f true a c ≡ neg (round f false a c)
round-opposite f a c = round_is f true a c ∙ units-opposite f _ _ ∙ ap neg (sym (round_is f false a c))

-- ---- a fraction that is not negative rounds to a double that is not
odd_unsigned : (d q k l : ℕ) → T (unsigned (odd d false q k l))
unfolding odd
odd_unsigned d zero k l = tt
odd_unsigned d (suc q) k l = tt

units-unsigned : (f : Format) (q k : ℕ) → T (unsigned (units f false q k))
unfolding units
units-unsigned f q k = go (ltb (q * 2 ^ k) (2 ^ (low f + suc (emax f))))
  where
    go : (b : Bool) → T (unsigned (cond b (odd (suc (prec f)) false q k (low f)) (inf false)))
    go true = odd_unsigned (suc (prec f)) q k (low f)
    go false = tt

pub round-unsigned : (f : Format) (a c : ℕ) → T (unsigned (round f false a c))
round-unsigned f a c = subst (λ (x : Float). T (unsigned x)) (sym (round_is f false a c)) (units-unsigned f _ _)

-- ---- a / c ≤ b / d
pub ratio_mono : (a b : ℤ) (c d : ℕ) → 0 < c → 0 < d → (a *ℤ pos d) ≤ℤ (b *ℤ pos c) → T (le (nearest_ratio a c) (nearest_ratio b d))
ratio_mono (pos a) (pos b) c d C D h = round_mono binary64 a c b d C D (le-of_pos h)
ratio_mono (pos a) (negsuc b) c d C D h = absurd (not_below-neg (a * d) (suc b * c) (mul-pos (zero-lt-suc b) C) h)
ratio_mono (negsuc a) (pos b) c d C D h = rw (round-opposite binary64 (suc a) c) (neg-below-unsigned (round binary64 false (suc a) c) (round binary64 false b d) (round-unsigned binary64 (suc a) c) (round-unsigned binary64 b d))
ratio_mono (negsuc a) (negsuc b) c d C D h =
    rw (round-opposite binary64 (suc a) c, round-opposite binary64 (suc b) d)
    (neg-turns (round binary64 false (suc b) d) (round binary64 false (suc a) c) (round_mono binary64 (suc b) d (suc a) c D C (le-of-opposites (suc b * c) (suc a * d) h)))

-- ---- one power of two times a greater number
pub scaled_mono : {m n : ℕ} (e : ℤ) → m ≤ n → T (le (nearest_scaled m e) (nearest_scaled n e))
scaled_mono {m} {n} e h = round_mono binary64 (m * up e) (down e) (n * up e) (down e) (down_pos e) (down_pos e) (mul-le-mul_right (down e) (mul-le-mul_right (up e) h))
