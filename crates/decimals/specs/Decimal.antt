-- The decimal text of a double with k decimals, as bytes in ASCII: the exact value, times 10 ^ k and rounded to the nearest whole number, halves away from
-- zero; a number that rounds to zero has no sign. Definitions only.
use Rattle.std.specs.Prelude.{ℕ, zero, suc, ◌+◌, ◌*◌, ◌/◌, ◌%◌, ◌^◌, Bool, true, false, ◌&&◌, cond, List, [], ◌∷◌, ◌++◌, ltb, Float}
use Rattle.std.specs.Float.{nan, inf, fin}
use Rattle.arithmetic.specs.Nearest.{units_of}

-- ---- whole numbers
-- the last k decimal digits of n, the highest first
unfoldable pub last_digits : ℕ → ℕ → List ℕ
last_digits zero n = []
last_digits (suc k) n = (48 + n / 10 ^ k % 10) ∷ last_digits k n

-- n in k digits at most: its last digit, after those of n / 10 where there are any. b says whether n is below ten.
-- It is an argument to match on, so that the digits end with the number.
unfoldable pub digits_within : ℕ → Bool → ℕ → List ℕ
digits_within zero b n = []
digits_within (suc k) true n = (48 + n) ∷ []
digits_within (suc k) false n = digits_within k (ltb (n / 10) 10) (n / 10) ++ (48 + n % 10) ∷ []

-- all digits of n, with no zero before them, and one at least; n + 1 are more than it has
unfoldable pub digits : ℕ → List ℕ
unfolding digits_within
digits n = digits_within (suc n) (ltb n 10) n

-- ---- doubles
-- n / 2 ^ 1074 times s, to the nearest whole number, a half up: the floor of n * s / 2 ^ 1074 + 1 / 2
unfoldable pub nearest_count : ℕ → ℕ → ℕ
nearest_count n s = (2 * (n * s) + 2 ^ 1074) / 2 ^ 1075

-- a point and k decimals, or nothing
abbrev pub pointed : ℕ → ℕ → List ℕ
pointed zero n = []
pointed (suc k) n = 46 ∷ last_digits (suc k) n

-- n / 10 ^ k, with its sign where it is not zero
unfoldable pub count_text : ℕ → Bool → ℕ → List ℕ
unfolding digits last_digits
count_text k s n = cond (s && ltb 0 n) (45 ∷ []) [] ++ digits (n / 10 ^ k) ++ pointed k n

-- a finite double is units_of x / 2 ^ 1074 in size; what is not finite has no text
unfoldable pub decimal_text : ℕ → Float → List ℕ
unfolding nearest_count count_text
decimal_text k nan = []
decimal_text k (inf s) = []
decimal_text k (fin s m e) = count_text k s (nearest_count (units_of (fin s m e)) (10 ^ k))
