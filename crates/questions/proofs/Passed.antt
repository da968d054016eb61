-- A text is passed byte by byte: what is left to look at after one byte more. Assumes nothing.
use Rattle.arithmetic.proofs.Kit.{◌≡◌, refl, ap, Bool, ◌&&◌, List, [], ◌∷◌, ℕ, ◌+◌, ◌*◌, ◌%◌, ◌<◌, ◌^◌, pow-suc, pow-le-pow_right, lt_of_lt_of_le, mod-lt, add-one, arith, digits_lt, ltb, lit<, length, get_or, drop, drop-cons}
use Rattle.std.specs.List.{list_all}
use Rattle.questions.specs.Digits.{digit_of, are_hex, hex_from, ◌⟫◌, with_digit, decimal_from}

pub all_hex : (s : List ℕ) → list_all (λ b. ltb (digit_of b) 16) s ≡ are_hex s
unfolding are_hex
all_hex [] = refl
all_hex (b ∷ s) = ap (λ (t : Bool). ltb (digit_of b) 16 && t) (all_hex s)

module _ (s : List ℕ) (i : ℕ) (h : i < length s) where
  pub word-passed : (v : ℕ) → hex_from v (drop i s) ≡ hex_from (v * 16 + digit_of (get_or s i 0) % 16) (drop (i + 1) s)
  unfolding hex_from
  word-passed v = rw (add-one, drop-cons s i 0)

  pub number_passed : (v : ℕ) → decimal_from v (drop i s) ≡ (with_digit v (get_or s i 0) ⟫ (λ (w : ℕ). decimal_from w (drop (i + 1) s)))
  unfolding decimal_from
  number_passed v = rw (add-one, drop-cons s i 0)

-- a word of fewer than sixteen digits has room for one more
pub longer : {v : ℕ} (i d : ℕ) → v < 16 ^ i → v * 16 + d % 16 < 16 ^ (i + 1)
longer i d h = rw (add-one, pow-suc) (digits_lt h (mod-lt d (lit< tt)))

pub room : {v : ℕ} (i : ℕ) → v < 16 ^ i → i < 16 → v < 2 ^ 60
room i h small = lt_of_lt_of_le h (pow-le-pow_right {n = 16} (lit< tt) {j = 15} (omega arith))
