-- What `take_apart` makes of a double: its parts, the double that parts stand for, and the bounds of a finite one's. Definitions only.
use Rattle.std.specs.Prelude.{◌≡◌, ℕ, zero, suc, ◌-◌, ◌/◌, ◌^◌, ◌<◌, ◌≤◌, ◌⊎◌, pos, Float}
use Rattle.std.specs.Float.{nan, inf, fin}
use Rattle.std.specs.Float.Ieee.{odd, size}
use Rattle.arithmetic.specs.declared.double.Parts.{Parts}
use Rattle.arithmetic.specs.declared.double.Parts.TheVariants.{NotANumber, Infinite, Zero, Finite}
use Rattle.arithmetic.specs.Nearest.{units_of}

-- Of a finite double's n units of 2 ^ -1074, the highest 53 binary digits, or all where there are fewer, and how many places stand after them.
unfoldable pub parts_of : Float → Parts
parts_of nan = NotANumber
parts_of (inf s) = Infinite s
parts_of (fin s zero e) = Zero s
parts_of (fin s (suc m) e) =
    let n = units_of (fin s (suc m) e) in
    let k = size n - 53 in
    Finite s (n / 2 ^ k) k

-- ---- what parts stand for
-- `odd 53 s q k 1074` is q * 2 ^ k / 2 ^ 1074 with the sign s, written in the one way of the doubles
abbrev pub from_parts : Parts → Float
from_parts NotANumber = nan
from_parts (Infinite s) = inf s
from_parts (Zero s) = fin s 0 (pos 0)
from_parts (Finite s q k) = odd 53 s q k 1074

-- q * 2 ^ k units of 2 ^ -1074 are a double: q is not zero and has 53 digits at most, all of them where k is not 0
pub record Digits (q k : ℕ) : Type 0 where
  pub positive : 0 < q
  pub short : q < 2 ^ 53
  pub exponent : k ≤ 2045
  pub full : (k ≡ 0) ⊎ (2 ^ 52 ≤ q)

abbrev pub Within : Parts → Type 0
Within NotANumber = Unit {0}
Within (Infinite s) = Unit {0}
Within (Zero s) = Unit {0}
Within (Finite s q k) = Digits q k

pub record TakenApart (x : Float) (r : Parts) : Type 0 where
  pub same : from_parts r ≡ x
  pub within : Within r
