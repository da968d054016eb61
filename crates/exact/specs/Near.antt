-- How near a double is to an exact number. With d = x - X, which is (plus - minus) / under, "no further than 2 ^ -k" is -under ≤ (plus - minus) * 2 ^ k ≤ under; each side
-- is an inequality of natural numbers. Definitions only.
use Rattle.std.specs.Prelude.{ℕ, ◌+◌, ◌*◌, ◌^◌, ◌≤◌, ◌<◌, ◌⊎◌, T, Float}
use Rattle.std.specs.Float.{binary64}
use Rattle.std.specs.Float.Ieee.{fits, le}
use Rattle.std.specs.Float.Ieee.Scale.{finite}
use Rattle.exact.specs.Exact.{Exact, ◌⊟◌, number}

-- `IsNear 45 x X`: the double x is finite, X is a number, and x is no further than 2 ^ -45 from it
pub record IsNear (k : ℕ) (x : Float) (X : Exact) : Type 0 where
  pub is_finite : T (finite x)
  pub proper : 0 < X.under
  pub not_above : let d = number x ⊟ X in d.plus * 2 ^ k ≤ d.minus * 2 ^ k + d.under
  pub not_below : let d = number x ⊟ X in d.minus * 2 ^ k ≤ d.plus * 2 ^ k + d.under

-- `IsNearly 41 x X`: the positive double x is no further from X than one part in 2 ^ 41 of x
pub record IsNearly (k : ℕ) (x : Float) (X : Exact) : Type 0 where
  pub is_finite : T (finite x)
  pub proper : 0 < X.under
  pub not_above : let d = number x ⊟ X in d.plus * 2 ^ k ≤ d.minus * 2 ^ k + (number x).plus * X.under
  pub not_below : let d = number x ⊟ X in d.minus * 2 ^ k ≤ d.plus * 2 ^ k + (number x).plus * X.under

-- `IsFar 45 X x`: the number X is further than 2 ^ -45 from the double x, above it or below
abbrev pub IsFar : ℕ → Exact → Float → Type 0
IsFar k X x = let d = X ⊟ number x in (d.minus * 2 ^ k + d.under < d.plus * 2 ^ k) ⊎ (d.plus * 2 ^ k + d.under < d.minus * 2 ^ k)

-- a double x that is no less than lo and no more than hi
pub record Between (lo hi : Float) (x : Float) : Type 0 where
  pub double : T (fits binary64 x)
  pub low : T (le lo x)
  pub high : T (le x hi)
