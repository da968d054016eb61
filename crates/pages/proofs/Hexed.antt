-- The hex digits of one byte more. Assumes nothing.
use Rattle.arithmetic.proofs.Kit.{◌≡◌, refl, ap, List, [], ◌∷◌, ◌++◌, ℕ, ◌+◌, ◌/◌, ◌%◌, ◌<◌, add-one, arith, length, take, get_or}
use lib.Seq.{take-suc}
use Rattle.pages.specs.Characters.{hex_digit, hex}

hex_append : (s t : List ℕ) → hex (s ++ t) ≡ hex s ++ hex t
unfolding hex
hex_append [] t = refl
hex_append (b ∷ s) t = ap (λ (l : List ℕ). hex_digit (b / 16) ∷ hex_digit (b % 16) ∷ l) (hex_append s t)

pub hex_more : (s : List ℕ) (i : ℕ) → i < length s → get_or s i 0 < 256
    → hex (take (i + 1) s) ≡ hex (take i s) ++ (hex_digit (get_or s i 0 / 16 % 16) ∷ hex_digit (get_or s i 0 % 16) ∷ [])
unfolding hex
hex_more s i h k =
    let high : get_or s i 0 / 16 % 16 ≡ get_or s i 0 / 16 = omega arith in
    rw (add-one, take-suc s i 0 h, high) (hex_append (take i s) (get_or s i 0 ∷ []))

pub hex_none : hex [] ≡ []
unfolding hex
hex_none = refl

pub ruleset hexed = (hex_more, hex_none)
