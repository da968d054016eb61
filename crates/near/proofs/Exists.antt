-- There are fractions that stand for √τ and for the power of e, at every temperature of the range. Assumes nothing.
use Rattle.near.proofs.Kit.{◌≡◌, refl, ℕ, ◌+◌, ◌*◌, ◌≤◌, ◌<◌, one-le-pow, lit<, lit≤, Float, span, climb, size, odd, of_fields, of_bits, fits, decimal, above, beneath, Fraction, ◌to_the◌, e_below, Exact, ◌⊠◌, the, number, of, IsRoot, IsPower, N, Bounds, Tracks, Term, given, ◌plus◌, ◌minus◌, ◌by◌, none, ◌also◌, tracks, tracks-between, root-of, power-of, proper-product, proper-sum, proper-quotient, above_zero, below-square, reduced, exact_log_ratio, Saturation, kelvin, Between}
use Rattle.exact.proofs.Terms.{num}

-- the denominator of the logarithm
module _ (T : Exact) (k : Fraction) (k₀ : 0 < k.under) where
  proper-half : (c : Exact) (n : ℕ) → 0 < c.under → 0 < (c ⊠ of (k to_the n)).under
  proper-half c n i = proper-product c (of (k to_the n)) i (one-le-pow n k.under k₀)

  proper_log : 0 < (reduced T).under → T.minus < T.plus → 0 < (exact_log_ratio T k).under
  unfolding exact_log_ratio the
  proper_log i j =
      proper-product _ _ (proper-quotient _ _ (lit< tt) j)
      (proper-sum _ _ (proper-sum _ _ (proper-sum _ _ (proper-sum _ _ (proper-sum _ _ (proper-product _ _ (lit< tt) i) (proper-half _ 3 (lit< tt))) (proper-half _ 6 (lit< tt))) (proper-half _ 7 (lit< tt))) (proper-half _ 8 (lit< tt))) (proper-half _ 15 (lit< tt)))

-- T is above 0, and τ above 0 and below 4
saturation-of : {b c : Bounds} (T : Exact) (x y : Float) → Tracks b x T → b.M ≡ 0 → b.E < b.L → Tracks c y (reduced T) → c.M ≡ 0 → c.E < c.L → c.H + c.E ≤ 2 * 2 * N → Saturation T
saturation-of T x y warm M₀ apart part M₀' apart' few =
    let k : (k : Fraction) × IsRoot k (reduced T) = root-of 2 (lit< tt) (reduced T) part.some (above_zero y (reduced T) part M₀' apart') (below-square 2 y (reduced T) part few) in
    let r : (r : Fraction) × IsPower e_below (exact_log_ratio T k.0) r = power-of e_below (exact_log_ratio T k.0) (lit< tt) (lit< tt) (proper_log T k.0 k.1.proper part.some (above_zero x T warm M₀ apart)) in
    record { root = k.0; is_root = k.1; e = e_below; e_proper = lit< tt; e_least = lit≤ tt; e_most = lit≤ tt; ratio = r.0; is_ratio = r.1 }

abbrev Kelvin : Term
Kelvin = given 0 plus num "273.15"

pub saturation-exists-celsius : (t : Float) → Between (decimal "-40") (decimal "50") t → Saturation (kelvin t)
unfolding reduced N above beneath the span climb size odd of_fields of_bits fits
saturation-exists-celsius t r =
    let itself = tracks-between (decimal "-40") (decimal "50") t tt r in
    saturation-of (kelvin t) _ _ (tracks (itself also none) Kelvin tt) refl (lit< tt) (tracks (itself also none) (num "1" minus Kelvin by num "647.096") tt) refl (lit< tt) (lit≤ tt)

pub saturation-exists : (T : Float) → Between (decimal "233.15") (decimal "323.15") T → Saturation (number T)
unfolding reduced N above beneath the span climb size odd of_fields of_bits fits
saturation-exists T r =
    let itself = tracks-between (decimal "233.15") (decimal "323.15") T tt r in
    saturation-of (number T) _ _ itself refl (lit< tt) (tracks (itself also none) (num "1" minus given 0 by num "647.096") tt) refl (lit< tt) (lit≤ tt)
