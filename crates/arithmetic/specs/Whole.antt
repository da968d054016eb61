-- Whole numbers with a sign, divided with floors that are floors for negative numbers too, and the whole number that a `Word` stands for.
-- Definitions only.
use Rattle.std.specs.Prelude.{ℕ, suc, ◌+◌, ◌-◌, ◌*◌, ◌/◌, ◌%◌, ◌^◌, Bool, true, false, cond, ℤ, pos, negsuc, neg_ℤ}
use Rattle.arithmetic.specs.declared.word.Word.{Word}

-- n, or -n where s is true
abbrev pub signed : Bool → ℕ → ℤ
signed s n = cond s (neg_ℤ (pos n)) (pos n)

-- floor(z / d), for a d above 0. -(n + 1) lies below -(n / d) * d, by one at least and by d at most, so its floor is -(n / d + 1).
abbrev pub floor_div : ℤ → ℕ → ℤ
floor_div (pos n) d = pos (n / d)
floor_div (negsuc n) d = negsuc (n / d)

-- z - floor(z / d) * d
abbrev pub floor_mod : ℤ → ℕ → ℕ
floor_mod (pos n) d = n % d
floor_mod (negsuc n) d = d - suc (n % d)

-- A word of p places stands for a = whole * 2^p + part, and where it is negative for -(a + 1).
abbrev pub word_digits : ℕ → Word → ℕ
word_digits places w = w.whole * 2 ^ places + w.part

abbrev pub word_value : ℕ → Word → ℤ
word_value places w = cond w.negative (negsuc (word_digits places w)) (pos (word_digits places w))

-- the word of p places for a whole number
abbrev pub as_word : ℕ → ℤ → Word
as_word places (pos a) = record { negative = false; whole = a / 2 ^ places; part = a % 2 ^ places }
as_word places (negsuc a) = record { negative = true; whole = a / 2 ^ places; part = a % 2 ^ places }
