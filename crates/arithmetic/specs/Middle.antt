-- The middle of three doubles, document 02: a total order on the doubles that are not NaN, minus zero before plus zero, and its middle of three. Definitions only.
use Rattle.std.specs.Prelude.{ℕ, zero, suc, Bool, false, cond, not, ◌&&◌, ◌||◌, Float}
use Rattle.std.specs.Float.{nan, inf, fin}
use Rattle.std.specs.Float.Ieee.{lt}

-- ---- the order
unfoldable pub is_minus_zero : Float → Bool
is_minus_zero nan = false
is_minus_zero (inf s) = false
is_minus_zero (fin s zero e) = s
is_minus_zero (fin s (suc m) e) = false

unfoldable pub is_plus_zero : Float → Bool
is_plus_zero nan = false
is_plus_zero (inf s) = false
is_plus_zero (fin s zero e) = not s
is_plus_zero (fin s (suc m) e) = false

-- x comes before y
unfoldable pub precedes : Float → Float → Bool
precedes x y = lt x y || (is_minus_zero x && is_plus_zero y)

-- ---- the middle
abbrev pub earlier : Float → Float → Float
earlier x y = cond (precedes y x) y x

abbrev pub later : Float → Float → Float
later x y = cond (precedes y x) x y

unfoldable pub middle : Float → Float → Float → Float
middle x y z = later (earlier x y) (earlier (later x y) z)

-- how many of one test hold
abbrev pub one_if : Bool → ℕ
one_if b = cond b 1 0
