-- What is tracked is at most, at least or below a double that its bounds say. Assumes nothing.
use Rattle.exact.proofs.Kit.{Bool, ◌&&◌, ◌+◌, ◌≤◌, ◌<◌, le_refl, arith, T, leb, leb→le, Float, binary64, fits, lt, le, and_l, and_r, finite, units_of, over, under, Small, lt-of-sides, le-of-sides, Exact, Between}
use Rattle.exact.proofs.Tracks.{Bounds, Tracks}

itself : (z : Float) → T (fits binary64 z) → T (finite z) → Small (units_of z) z
itself z f h = record { is_finite = h; double = f; size = le_refl (units_of z) }

module _ {b : Bounds} (x : Float) (X : Exact) (t : Tracks b x X) (c : Float) (c-finite : T (finite c)) (c-fits : T (fits binary64 c)) where
  pub tracks-at_most : b.H + under c ≤ over c + b.J → T (le x c)
  tracks-at_most h = le-of-sides x c (itself x t.double t.is_finite) (itself c c-fits c-finite) (omega (arith, h, t.high))

  pub tracks-at_least : over c + b.M ≤ b.L + under c → T (le c x)
  tracks-at_least h = le-of-sides c x (itself c c-fits c-finite) (itself x t.double t.is_finite) (omega (arith, h, t.low))

  pub tracks-below : b.H + under c < over c + b.J → T (lt x c)
  tracks-below h = lt-of-sides x c (itself x t.double t.is_finite) (itself c c-fits c-finite) (omega (arith, h, t.high))

-- between two doubles
abbrev pub inside : Float → Float → Bounds → Bool
inside lo hi b = leb (over lo + b.M) (b.L + under lo) && leb (b.H + under hi) (over hi + b.J)

pub tracks-inside : {b : Bounds} (x : Float) (X : Exact) → Tracks b x X → (lo hi : Float) → T (finite lo) → T (finite hi) → T (fits binary64 lo) → T (fits binary64 hi) → T (inside lo hi b) → Between lo hi x
tracks-inside {b} x X t lo hi lo-finite hi-finite lo-fits hi-fits h =
    let l = leb (over lo + b.M) (b.L + under lo) in
    let k = leb (b.H + under hi) (over hi + b.J) in
    record {
      double = t.double;
      low = tracks-at_least x X t lo lo-finite lo-fits (leb→le (over lo + b.M) (b.L + under lo) (and_l l k h));
      high = tracks-at_most x X t hi hi-finite hi-fits (leb→le (b.H + under hi) (over hi + b.J) (and_r l k h));
    }
