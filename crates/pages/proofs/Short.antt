-- How long the pieces of a text are at most. Assumes nothing.
use Rattle.arithmetic.proofs.Kit.{◌≡◌, refl, Bool, true, false, cond, List, [], ◌∷◌, ◌++◌, ℕ, zero, suc, ◌+◌, ◌*◌, ◌/◌, ◌%◌, ◌≤◌, arith, ltb, lit≤, length, length-append}
use Rattle.arithmetic.specs.Ascii.{ascii}
use Rattle.pages.specs.Characters.{hex_digits, hex, number_text, refusal_line}

-- ---- xs has at most n bytes
pub record Within (xs : List ℕ) (n : ℕ) : Type 0 where
  pub bound : length xs ≤ n

pub whole : (xs : List ℕ) → Within xs (length xs)
whole xs = record { bound = omega arith }

pub both : {xs ys : List ℕ} {m n : ℕ} → Within xs m → Within ys n → Within (xs ++ ys) (m + n)
both {xs} {ys} h g = record { bound = omega (arith, h.bound, g.bound, length-append xs ys) }

pub either : {n : ℕ} (b : Bool) (xs ys : List ℕ) → length xs ≤ n → length ys ≤ n → length (cond b xs ys) ≤ n
either true xs ys h g = h
either false xs ys h g = g

-- ---- digits and numbers
pub word-short : (k n : ℕ) → Within (hex_digits k n) k
unfolding hex_digits
word-short zero n = record { bound = omega arith }
word-short (suc k) n = record { bound = omega (arith, (word-short k n).bound) }

pub hex-length : (s : List ℕ) → length (hex s) ≡ 2 * length s
unfolding hex
hex-length [] = refl
hex-length (b ∷ s) = omega (arith, hex-length s)

-- one digit or two
pub number_short : (n : ℕ) → Within (number_text n) 2
number_short n = record { bound = either (ltb n 10) ((48 + n) ∷ []) ((48 + n / 10) ∷ (48 + n % 10) ∷ []) (lit≤ tt) (lit≤ tt) }

pub refusal-short : (n : ℕ) → Within (refusal_line n) 11
unfolding refusal_line
refusal-short n = both (both (whole (ascii "refused ")) (number_short n)) (whole (ascii "\n"))
