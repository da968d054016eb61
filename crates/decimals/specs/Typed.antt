-- A decimal as it is typed with up to k decimals, and its count of 10^-k: an optional sign (+ or -), one or more digits, optionally a point followed by one
-- to k digits. A text is the list of its bytes. Definitions only.
use Rattle.std.specs.Prelude.{ℕ, suc, ◌+◌, ◌-◌, ◌*◌, ◌^◌, Bool, true, false, ◌&&◌, cond, List, [], ◌∷◌, ◌++◌, leb, eqb, length, take, drop, ℤ, Option, Some, None, Result, Ok, Err}
use Rattle.arithmetic.specs.Whole.{signed}
use Rattle.thousandths.specs.Thousandths.{counted}
use Rattle.decimals.specs.declared.typed.NotACount.{NotACount}
use Rattle.decimals.specs.declared.typed.NotACount.TheVariants.{NotANumber, TooManyDecimals, OutOfRange}

-- ---- the bytes: + is 43, - is 45, the point is 46, and the digits are 48 to 57
abbrev pub is_digit : ℕ → Bool
is_digit b = leb 48 b && leb b 57

-- how many digits s begins with
unfoldable pub digits_in : List ℕ → ℕ
digits_in [] = 0
digits_in (b ∷ s) = cond (is_digit b) (suc (digits_in s)) 0

-- the number that the digits of n with the digits s after them spell
unfoldable pub number_from : ℕ → List ℕ → ℕ
number_from n [] = n
number_from n (b ∷ s) = number_from (n * 10 + (b - 48)) s

-- ---- the count: the digits before and after the point as one number, times ten for each of the k decimals that is not there
abbrev pub scaled_to : ℕ → List ℕ → List ℕ → ℕ
scaled_to k whole decimals = number_from 0 (whole ++ decimals) * 10 ^ (k - length decimals)

abbrev pub answer : Option ℤ → Result ℤ NotACount
answer (Some n) = Ok n
answer None = Err OutOfRange

unfoldable pub in_counts : Bool → ℕ → Result ℤ NotACount
in_counts negative n = answer (counted (signed negative n))

-- ---- what follows the sign: whole digits, and a point with decimals after it, or nothing
unfoldable pub with_decimals : ℕ → Bool → List ℕ → List ℕ → Result ℤ NotACount
with_decimals k negative whole d =
    cond (eqb (length d) 0) (Err NotANumber)
    (cond (eqb (digits_in d) (length d)) (cond (leb (length d) k) (in_counts negative (scaled_to k whole d)) (Err TooManyDecimals)) (Err NotANumber))

unfoldable pub after_whole : ℕ → Bool → List ℕ → List ℕ → Result ℤ NotACount
after_whole k negative whole [] = in_counts negative (scaled_to k whole [])
after_whole k negative whole (b ∷ d) = cond (eqb b 46) (with_decimals k negative whole d) (Err NotANumber)

unfoldable pub after_sign : ℕ → Bool → List ℕ → Result ℤ NotACount
after_sign k negative t = cond (eqb (digits_in t) 0) (Err NotANumber) (after_whole k negative (take (digits_in t) t) (drop (digits_in t) t))

-- ---- the text
unfoldable pub typed : ℕ → List ℕ → Result ℤ NotACount
typed k [] = Err NotANumber
typed k (b ∷ s) = cond (eqb b 45) (after_sign k true s) (cond (eqb b 43) (after_sign k false s) (after_sign k false (b ∷ s)))
